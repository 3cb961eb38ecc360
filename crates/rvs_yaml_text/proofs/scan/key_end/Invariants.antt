use Rattle.std.proofs.Common.{◌≡◌, take, drop, false}
use Rattle.rvs_yaml_text.specs.Scalar.{key_split}
use Rattle.rvs_yaml_text.proofs.Scans.{onto_all}
use Rattle.rvs_yaml_text.proofs.scan.key_end.Given as goal

abbrev pub invariant-loop-i : goal.invariant-loop-i
invariant-loop-i l =
    onto_all (take l.i l.bytes) (key_split l.spaced (drop l.i l.bytes)) ≡ key_split false l.bytes
