use Rattle.std.proofs.Common.{◌≡◌, drop}
use Rattle.rvs_elf.specs.Tables.{have_bytes}
use Rattle.rvs_elf.proofs.entries.have_bytes.Given as goal

abbrev pub invariant-loop-segment : goal.invariant-loop-segment
invariant-loop-segment l =
    have_bytes l.bytes (drop l.segment-index l.segments) ≡ have_bytes l.bytes l.segments
