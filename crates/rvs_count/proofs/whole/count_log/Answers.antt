use Rattle.std.proofs.Common.{[], ap, ◌∙◌}
use Rattle.rvs_index.specs.State.{CountState, tally_of}
use Rattle.rvs_log.proofs.Streams.{fed_of}
use Rattle.rvs_count.proofs.whole.count_log.Goals as goal

pub count_whole-counted-requires-clause-new : goal.count_whole-counted-requires-clause-new
count_whole-counted-requires-clause-new c = ap (λ (s : CountState). s.fed) c.in_ok-counter.ensures
    ∙ fed_of (tally_of c.args.groups.now c.args.windows) [] 0

pub returns-clause-instructions : goal.returns-clause-instructions
returns-clause-instructions c =
    c.count_whole-counted.ensures.instructions c.args.groups.now c.args.windows
    c.in_ok-counter.ensures

pub returns-clause-counts : goal.returns-clause-counts
returns-clause-counts c =
    c.count_whole-counted.ensures.counts c.args.groups.now c.args.windows c.in_ok-counter.ensures
