use Rattle.std.proofs.Common.{◌≡◌, take, drop}
use Rattle.rvs_yaml_text.specs.Quotes.{at_stop}
use Rattle.rvs_yaml_text.proofs.Scans.{onto_all}
use Rattle.rvs_yaml_text.proofs.quoted.place_of_stop.Given as goal

abbrev pub invariant-loop-i : goal.invariant-loop-i
invariant-loop-i l = onto_all (take l.i l.bytes) (at_stop (drop l.i l.bytes)) ≡ at_stop l.bytes
