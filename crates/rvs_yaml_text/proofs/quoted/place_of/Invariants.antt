use Rattle.std.proofs.Common.{◌≡◌, take, drop}
use Rattle.rvs_yaml_text.specs.Quotes.{at_byte}
use Rattle.rvs_yaml_text.proofs.Scans.{onto_all}
use Rattle.rvs_yaml_text.proofs.quoted.place_of.Given as goal

abbrev pub invariant-loop-i : goal.invariant-loop-i
invariant-loop-i l =
    onto_all (take l.i l.bytes) (at_byte l.byte (drop l.i l.bytes)) ≡ at_byte l.byte l.bytes
