use Rattle.std.proofs.Common.{◌≡◌}
use Rattle.rvs_yaml_text.specs.Tokens.{tokens, tokens_of}
use Rattle.rvs_yaml.specs.FlowSteps.{flow_steps}
use Rattle.rvs_yaml.specs.FlowParts.{first_reading}
use Rattle.rvs_yaml.specs.StackView.{known_view}
use Rattle.rvs_yaml_text.specs.WordView.{bracket_view}
use Rattle.rvs_yaml.specs.FlowView.{reading_view}
use Rattle.rvs_yaml.proofs.flow_text.flow_form.Given as goal

abbrev pub invariant-loop-left : goal.invariant-loop-left
invariant-loop-left l =
    flow_steps l.known.poor (known_view l.known) l.line (reading_view l.flowing.reading)
    (tokens l.left l.flowing.closed l.flowing.spaced l.flowing.rest.now) ≡ flow_steps
    l.known.poor (known_view l.known) l.line (first_reading (bracket_view l.fn.bracket))
    (tokens_of l.fn.text)

abbrev pub decreases-loop-left : goal.decreases-loop-left
decreases-loop-left l = l.left
