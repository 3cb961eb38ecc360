use Rattle.std.proofs.Common.{◌∙◌, sym}
use Rattle.rvs_tree.specs.ValueView.{value_view}
use Rattle.rvs_yaml.specs.Flow.{with_alias}
use Rattle.rvs_yaml.specs.FlowParts.{alias_at}
use Rattle.rvs_yaml.specs.FlowView.{place_view}
use Rattle.rvs_yaml.specs.StackView.{known_view}
use Rattle.rvs_yaml.proofs.Deciding.{alias-before, alias-fails, alias-found, fails_earlier}
use Rattle.rvs_yaml.proofs.Giving.{fails_to, gives_same}
use Rattle.rvs_yaml.proofs.flow.with_alias.Goals as goal

pub returns-in-Ok : goal.returns-in-Ok
returns-in-Ok c =
    let a = c.args in
    let e = alias-found (known_view a.known.now) (place_view a.place) a.name.now
    (value_view c.in-Ok.value) c.in-Ok.ensures.given in
    record {
      given = gives_same _ _ _ _ (sym e) c.with_value.ensures.given;
      refused = λ kind h. c.with_value.ensures.refused kind (sym e ∙ h);
    }

pub returns-in-Err : goal.returns-in-Err
returns-in-Err c =
    let known = known_view c.args.known.now in
    let place = place_view c.args.place in
    let name = c.args.name.now in
    record {
      given = rw c.refused.ensures (fails_to c.in-Err.fault (alias_at known place name)
          (with_alias known place name) (alias-fails known place name)
          c.in-Err.ensures.given);
      refused = rw c.refused.ensures (fails_earlier _ _ _ (alias-before known place name)
          c.in-Err.ensures.refused);
    }
