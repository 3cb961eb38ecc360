use Rattle.std.proofs.Common.{◌∙◌, ap, sym, subst, inl, inr}
use Rattle.rvs_yaml.specs.FlowParts.{alias_at}
use Rattle.rvs_yaml.specs.FlowView.{place_view}
use Rattle.rvs_yaml.specs.Gives.{FailsWith}
use Rattle.rvs_yaml.specs.StackView.{known_view}
use Rattle.rvs_yaml.proofs.Deciding.{named-member, named-entry}
use Rattle.rvs_yaml.proofs.flow.alias_here.Goals as goal

pub returns-else-is_empty-clause-refused : goal.returns-else-is_empty-clause-refused
returns-else-is_empty-clause-refused c =
    let known = known_view c.args.known.now in
    let name = c.args.name.now in
    let some = sym c.is_empty.ensures ∙ c.if-is_empty.false in
    elim c.in-Member.is as (λ _. FailsWith c.alias_value.result
    (alias_at known (place_view c.args.place.now) name)) [
      | inl m ↦ subst (λ read. FailsWith c.alias_value.result read)
          (sym (named-member known (place_view c.args.place.now) _ name (ap place_view m.1) some))
          c.alias_value.ensures.refused
      | inr m ↦ subst (λ read. FailsWith c.alias_value.result read)
          (sym (named-entry known (place_view c.args.place.now) _ _ name (ap place_view m.1) some))
          c.alias_value.ensures.refused
    ]
