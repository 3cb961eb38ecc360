use Rattle.std.proofs.Common.{◌≡◌, ◌++◌, take, drop}
use Rattle.rvs_base.specs.Lines.{before, after}
use Rattle.rvs_base.proofs.lines.cut.Given as goal

abbrev pub invariant-loop-i : goal.invariant-loop-i
invariant-loop-i l = record {
  front : before l.byte l.text ≡ take l.i l.text ++ before l.byte (drop l.i l.text);
  back : after l.byte l.text ≡ after l.byte (drop l.i l.text);
}
