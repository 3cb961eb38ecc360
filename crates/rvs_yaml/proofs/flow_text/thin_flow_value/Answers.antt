use Rattle.std.proofs.Common.{◌∙◌, ap}
use Rattle.rvs_yaml_text.specs.Tokens.{tokens_of}
use Rattle.rvs_yaml_text.specs.WordView.{bracket_view}
use Rattle.rvs_yaml.specs.Anchors.{formed}
use Rattle.rvs_yaml.specs.FlowParts.{formed_flow}
use Rattle.rvs_yaml.specs.StackView.{all_known}
use Rattle.rvs_yaml.proofs.Thinning.{thin-flow}
use Rattle.rvs_yaml.proofs.Giving.{gives_same}
use Rattle.rvs_yaml.proofs.flow_text.thin_flow_value.Goals as goal

pub returns : goal.returns
returns c =
    let known = all_known c.args.known.now in
    let b = bracket_view c.args.bracket in
    gives_same _ _ _ _ (ap
    (λ p. formed_flow p (formed p known) c.args.line b (tokens_of c.args.text.now)) c.requires
    ∙ thin-flow known c.args.line b (tokens_of c.args.text.now)) c.flow_form.ensures
