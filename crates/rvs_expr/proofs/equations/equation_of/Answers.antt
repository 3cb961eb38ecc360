use Rattle.std.proofs.Common.{rules, ◌≡◌}
use Rattle.rvs_expr.specs.TypedView.{view}
use Rattle.rvs_expr.specs.Equated.{equated}
use Rattle.rvs_expr.proofs.SmallOnes.{some_means}
use Rattle.rvs_expr.proofs.equations.equation_of.Goals as goal

pub returns-clause-means : goal.returns-clause-means
returns-clause-means c =
    let shape : c.equation.result ≡ equated (view c.args.formula.now) = search rules in
    some_means (view c.args.formula.now) c.equation.result shape
