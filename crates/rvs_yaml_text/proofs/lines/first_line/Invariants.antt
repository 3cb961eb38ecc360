use Rattle.std.proofs.Common.{◌≡◌, take, drop}
use Rattle.rvs_yaml_text.specs.Text.{cut}
use Rattle.rvs_yaml_text.proofs.Cutting.{onto_front}
use Rattle.rvs_yaml_text.proofs.lines.first_line.Given as goal

abbrev pub invariant-loop-i : goal.invariant-loop-i
invariant-loop-i l = onto_front (take l.i l.text) (cut (drop l.i l.text)) ≡ cut l.text
