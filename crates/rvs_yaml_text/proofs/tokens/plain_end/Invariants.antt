use Rattle.std.proofs.Common.{◌≡◌, take, drop, false}
use Rattle.rvs_yaml_text.specs.Tokens.{plain_split}
use Rattle.rvs_yaml_text.proofs.Scans.{front_too}
use Rattle.rvs_yaml_text.proofs.tokens.plain_end.Given as goal

abbrev pub invariant-loop-i : goal.invariant-loop-i
invariant-loop-i l = front_too (take l.i l.bytes) (plain_split l.spaced (drop l.i l.bytes))
    ≡ plain_split false l.bytes
