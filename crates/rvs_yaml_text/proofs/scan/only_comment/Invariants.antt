use Rattle.std.proofs.Common.{◌≡◌, drop, false}
use Rattle.rvs_yaml_text.specs.Scalar.{only_comment}
use Rattle.rvs_yaml_text.proofs.scan.only_comment.Given as goal

abbrev pub invariant-loop-byte : goal.invariant-loop-byte
invariant-loop-byte l =
    only_comment l.spaced (drop l.byte-index l.bytes) ≡ only_comment false l.bytes
