use Rattle.std.proofs.Common.{◌≡◌, ◌≤◌, take, length}
use Rattle.rvs_asm_text.specs.Text.{trim_end}
use Rattle.rvs_asm_text.proofs.cutting.without_back.Given as goal

abbrev pub invariant-loop-end : goal.invariant-loop-end
invariant-loop-end l = record {
  within : l.end ≤ length l.text;
  same : trim_end l.text ≡ trim_end (take l.end l.text);
}

abbrev pub decreases-loop-end : goal.decreases-loop-end
decreases-loop-end l = l.end
