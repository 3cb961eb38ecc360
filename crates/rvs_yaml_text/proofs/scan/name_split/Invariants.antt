use Rattle.std.proofs.Common.{◌≡◌, take, drop, IsCharBoundary}
use Rattle.rvs_yaml_text.specs.Scalar.{name_split}
use Rattle.rvs_yaml_text.proofs.Scans.{front_too}
use Rattle.rvs_yaml_text.proofs.scan.name_split.Given as goal

abbrev pub invariant-loop-i : goal.invariant-loop-i
invariant-loop-i l = record {
  same : front_too (take l.i l.text) (name_split (drop l.i l.text)) ≡ name_split l.text;
  boundary : IsCharBoundary l.text l.i;
}
