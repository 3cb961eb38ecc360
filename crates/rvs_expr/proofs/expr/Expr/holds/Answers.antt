-- What was read of the facts tells whether the expression is true.
use Rattle.std.proofs.Common.{Some, None, ap, ◌∙◌}
use Rattle.rvs_expr.specs.TypedView as typed
use Rattle.rvs_expr.specs.Meaning.{holds}
use Rattle.rvs_expr.proofs.Reading.{holds_by}
use Rattle.rvs_expr.proofs.expr.Expr.holds.Goals as goal

pub returns-in-None : goal.returns-in-None
returns-in-None g c =
    let t = g.F.Facts.table c.args.facts.now in
    holds_by t (typed.view c.self.inside.top) c.self.inside.names None c.self.invariant.2
    c.in-None.ensures
    ∙ ap (λ top. holds t (typed.view top)) c.self.view_is

pub returns-in-Some : goal.returns-in-Some
returns-in-Some g c =
    let t = g.F.Facts.table c.args.facts.now in
    c.is_true.ensures
    ∙ holds_by t (typed.view c.self.inside.top) c.self.inside.names
    (Some (c.in-Some.values.nums, c.in-Some.values.regs)) c.self.invariant.2 c.in-Some.ensures
    ∙ ap (λ top. holds t (typed.view top)) c.self.view_is
