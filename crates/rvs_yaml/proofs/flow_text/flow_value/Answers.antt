use Rattle.std.proofs.Common.{◌∙◌, sym, ap}
use Rattle.rvs_yaml_text.specs.Tokens.{tokens_of}
use Rattle.rvs_yaml_text.specs.WordView.{bracket_view}
use Rattle.rvs_yaml.specs.FlowParts.{formed_flow}
use Rattle.rvs_yaml.specs.StackView.{known_view}
use Rattle.rvs_yaml.proofs.FlowRuns.{flow-ended}
use Rattle.rvs_yaml.proofs.Giving.{gives_same}
use Rattle.rvs_yaml.proofs.flow_text.flow_value.Goals as goal

pub returns : goal.returns
returns c =
    let known = known_view c.args.known.now in
    let b = bracket_view c.args.bracket in
    gives_same _ _ _ _
    (ap (λ p. formed_flow p known c.args.line b (tokens_of c.args.text.now)) c.requires
    ∙ sym (flow-ended known c.args.line b (tokens_of c.args.text.now))) c.flow_form.ensures
