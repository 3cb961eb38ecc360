use Rattle.std.proofs.Common.{◌≡◌, ◌++◌, take, drop, false}
use Rattle.rvs_yaml_text.specs.Scalar.{uncommented}
use Rattle.rvs_yaml_text.proofs.scan.comment_start.Given as goal

abbrev pub invariant-loop-i : goal.invariant-loop-i
invariant-loop-i l =
    take l.i l.bytes ++ uncommented l.spaced (drop l.i l.bytes) ≡ uncommented false l.bytes
