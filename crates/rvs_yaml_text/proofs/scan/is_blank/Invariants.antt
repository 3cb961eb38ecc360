use Rattle.std.proofs.Common.{◌≡◌, drop}
use Rattle.rvs_yaml_text.specs.Scalar.{is_blank}
use Rattle.rvs_yaml_text.proofs.scan.is_blank.Given as goal

abbrev pub invariant-loop-byte : goal.invariant-loop-byte
invariant-loop-byte l =
    is_blank l.spaced (drop l.byte-index l.bytes) ≡ is_blank l.initial.spaced l.bytes
