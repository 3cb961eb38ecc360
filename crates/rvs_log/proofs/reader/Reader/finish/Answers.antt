use Rattle.std.proofs.Common.{◌∙◌, ap, arith}
use Rattle.rvs_log.specs.Taken.{taken, waiting_len, with_end}
use Rattle.rvs_log.proofs.Streams.{ended_again, finished, last_adds}
use Rattle.rvs_log.proofs.reader.Reader.finish.Goals as goal

pub invariant_of-self : goal.invariant_of-self
invariant_of-self g c =
    let count = g.C.Consumer.count in
    let number = ap count c.take_last.ensures.told in
    let none = ap waiting_len c.take_last.ensures.follow in (
      omega (
        arith,
        number,
        none,
        last_adds g.C.Consumer.step count g.met.C.Consumer.quiet g.met.C.Consumer.adds
            c.self.inside.told c.self.inside.follow,
        c.self.invariant.0,
      ),
      c.self.invariant.1,
    )

end-is : goal.returns-clause-end
end-is g c =
    (λ i. taken (c.take_last.ensures.told i) (c.take_last.ensures.follow i) c.self.inside.fed)
    ∙ ap (with_end g.C.Consumer.step) c.self.view_is

pub returns-clause-end : goal.returns-clause-end
returns-clause-end g c = end-is g c

pub returns-clause-state : goal.returns-clause-state
returns-clause-state g c = λ told is bytes n e.
    end-is g c ∙ finished g.C.Consumer.step g.met.C.Consumer.quiet told is bytes n _ e

pub returns-clause-again : goal.returns-clause-again
returns-clause-again g c = λ e.
    end-is g c ∙ ended_again g.C.Consumer.step g.met.C.Consumer.quiet _ e
