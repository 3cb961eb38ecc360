use Rattle.std.proofs.Common.{◌≡◌, ◌≤◌, ◌-◌, [], take, length}
use Rattle.rvs_log.specs.Cutting.{held_after, lines_after, waiting}
use Rattle.rvs_log.proofs.follow.advance.Given as goal

abbrev pub invariant-lines : goal.invariant-lines
invariant-lines l = record {
  fits : l.used ≤ length l.piece;
  waits : waiting l.too_long l.bytes.items
      ≡ held_after (waiting l.fn.too_long l.fn.bytes.items) (take l.used l.piece);
  none : lines_after (waiting l.fn.too_long l.fn.bytes.items) (take l.used l.piece) ≡ [];
}

abbrev pub decreases-lines : goal.decreases-lines
decreases-lines l = length l.piece - l.used
