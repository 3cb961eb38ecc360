use Rattle.std.proofs.Common.{◌≡◌, ◌-◌, ◌^◌, length}
use Rattle.rvs_log.specs.Progress.{put}
use Rattle.rvs_log.proofs.Feeding.{HasFed}
use Rattle.rvs_log.proofs.Telling.{so_far}
use Rattle.rvs_log.proofs.file.feed_file.Given as goal

abbrev pub invariant-pieces : goal.invariant-pieces
invariant-pieces g l = record {
  fed : HasFed g.C.Consumer.step l.name (g.H.Host.state l.fn.host) (g.H.Host.state l.host)
      l.fn.reader l.reader;
  count : l.read ≡ length fed.bytes;
  told : g.E.Sink.state l.err ≡ put (so_far l.progress l.name l.read) (g.E.Sink.state l.fn.err);
}

abbrev pub decreases-pieces : goal.decreases-pieces
decreases-pieces g l = 2 ^ 40 - l.reader.fed
