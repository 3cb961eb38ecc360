use Rattle.std.proofs.Common.{◌∙◌, ◌+◌, ap, length}
use Rattle.rvs_log.specs.Taken.{taken}
use Rattle.rvs_log.proofs.Streams.{state_fed}
use Rattle.rvs_log.proofs.reader.Reader.feed.Goals as goal

pub returns-clause-fed : goal.returns-clause-fed
returns-clause-fed g c =
    let piece = c.args.piece.now in
    record {
      state = λ told is bytes n e.
          state_fed g.C.Consumer.step told is bytes piece n
          (taken c.self.inside.told c.self.inside.follow c.self.inside.fed)
          c.take_all.new.told c.take_all.new.follow (c.self.view_is ∙ e)
          c.take_all.ensures.told c.take_all.ensures.waits;
      fed = ap (λ s. s.fed + length piece) c.self.view_is;
    }
