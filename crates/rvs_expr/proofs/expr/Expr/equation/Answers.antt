use Rattle.std.proofs.Common.{rules, ◌≡◌}
use Rattle.rvs_expr.specs.TypedView as typed
use Rattle.rvs_expr.specs.Equated.{equated}
use Rattle.rvs_expr.proofs.SmallOnes.{some_means}
use Rattle.rvs_expr.proofs.expr.Expr.equation.Goals as goal

pub returns-clause-means : goal.returns-clause-means
returns-clause-means c =
    let shape : c.equation.result ≡ equated (typed.view c.args.self.now) = search rules in
    some_means (typed.view c.args.self.now) c.equation.result shape
