use Rattle.rvs_tree.specs.TreeView.{view}
use Rattle.rvs_yaml.specs.Refusing.{refusal_text, refusal_view}
use Rattle.rvs_inputs.proofs.Accepting.{Meets-stops_as}
use Rattle.rvs_inputs.proofs.tree_file.tree_in.Goals as goal

pub returns : goal.returns
returns c = λ w.
    Meets-stops_as view refusal_view refusal_text _ _ _ _ w c.parse.ensures.read c.accepted.ensures
