use Rattle.std.proofs.Common.{rules, ◌≡◌, ◌∙◌, sym, ap}
use Rattle.rvs_yaml.specs.Flow.{with_token}
use Rattle.rvs_yaml.specs.FlowSteps.{flow_step, open_in, moved}
use Rattle.rvs_yaml.specs.FlowView.{place_view, levels_view, reading_view}
use Rattle.rvs_yaml.specs.StackView.{known_view}
use Rattle.rvs_yaml_text.specs.TokenView.{token_view}
use Rattle.rvs_yaml_text.specs.WordView.{bracket_view}
use Rattle.rvs_yaml.proofs.Giving.{gives_same}
use Rattle.rvs_yaml.proofs.flow.flow_step.Goals as goal

pub returns-in_default : goal.returns-in_default
returns-in_default c =
    let a = c.args in
    let i = c.in-Inside in
    let known = known_view a.known.now in
    let b = bracket_view i.level.bracket in
    let outer = levels_view i.outer.items in
    let place = place_view i.level.place in
    let t = token_view a.token in
    let m : moved i.good b outer (with_token known a.line place t)
    ≡ flow_step a.known.now.poor known a.line (open_in i.good b place outer) t = search rules in
    let e = m ∙ sym (ap (λ r. flow_step a.known.now.poor known a.line (reading_view r) t) i.is) in
    record {
      given = gives_same _ _ _ _ e c.moved.ensures.given;
      refused = λ kind h. c.moved.ensures.refused kind (e ∙ h);
    }
