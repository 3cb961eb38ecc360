use Rattle.std.proofs.Common.{[], ◌∷◌, pos, Some, true, false, ap, sym, ◌∙◌, rules, FitsSigned}
use Rattle.std.specs.Int.{w128}
use Rattle.std.proofs.lemmas.Int.{to_z-of_z}
use Rattle.rvs_expr.specs.TypedView.{num_view}
use Rattle.rvs_expr.proofs.Constant.{constant}
use Rattle.rvs_expr.proofs.evaluating.constant_of.Goals as goal

pub returns-then-not-num_within-clause-value : goal.returns-then-not-num_within-clause-value
returns-then-not-num_within-clause-value c =
    let n = num_view c.args.num.now in
    sym (constant [] n false (sym c.num_within.ensures ∙ c.if-not-num_within.true))

pub returns-clause-value : goal.returns-clause-value
returns-clause-value c =
    let n = num_view c.args.num.now in
    let fits : FitsSigned w128 c.value_of.result = search rules in
    let zeros = pos 0 ∷ pos 0 ∷ pos 0 ∷ pos 0 ∷ [] in
    ap Some (to_z-of_z w128 c.value_of.result fits ∙ c.value_of.ensures.value)
    ∙ sym (constant zeros n true (sym c.num_within.ensures ∙ c.if-not-num_within.false))
