use Rattle.std.proofs.Common.{◌≡◌, ◌≤◌, ◌+◌, length}
use Rattle.rvs_log.specs.Taken.{waiting_len}
use Rattle.rvs_log.specs.Cutting.{held_after}
use Rattle.rvs_log.specs.Streams.{told_all}
use Rattle.rvs_log.proofs.reader.take_all.Given as goal

abbrev pub invariant-lines : goal.invariant-lines
invariant-lines g l = record {
  low : g.C.Consumer.count l.told + waiting_len l.follow + length l.rest
      ≤ g.C.Consumer.count l.fn.told + waiting_len l.fn.follow + length l.piece;
  told : told_all g.C.Consumer.step l.fn.told l.fn.follow l.piece
      ≡ told_all g.C.Consumer.step l.told l.follow l.rest;
  waits : held_after l.fn.follow l.piece ≡ held_after l.follow l.rest;
}

abbrev pub decreases-lines : goal.decreases-lines
decreases-lines g l = length l.rest
