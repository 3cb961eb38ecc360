use Rattle.std.proofs.Common.{◌≡◌, ◌-◌, ◌+◌, length}
use Rattle.rvs_base.proofs.Reading.{HasRead}
use Rattle.rvs_base.proofs.file.read_file.Given as goal

abbrev pub invariant-loop-buffer : goal.invariant-loop-buffer
invariant-loop-buffer g l = record {
  read : HasRead l.name l.limit (g.H.Host.state l.fn.host) (g.H.Host.state l.host) l.bytes.items;
  most : l.most ≡ l.limit;
}

abbrev pub decreases-loop-buffer : goal.decreases-loop-buffer
decreases-loop-buffer g l = l.limit + 1 - length l.bytes.items
