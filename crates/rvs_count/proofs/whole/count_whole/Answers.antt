use Rattle.std.proofs.Common.{ap, ◌∙◌, length}
use Rattle.rvs_index.specs.State.{CountState, tally_of}
use Rattle.rvs_count.proofs.Ends.{counted_all, counted_instructions}
use Rattle.rvs_count.proofs.Streams.{tally_told}
use Rattle.rvs_count.proofs.whole.count_whole.Goals as goal

pub returns-clause-instructions : goal.returns-clause-instructions
returns-clause-instructions c labels windows is =
    c.instructions.ensures ∙ ap (λ t. t.instructions) c.told-tally.ensures
    ∙ ap (λ (s : CountState). s.told.instructions)
    (c.read_whole.ensures (tally_of labels windows) (tally_told labels windows) is)
    ∙ counted_instructions labels windows c.args.log.now (length c.args.log.now)

pub returns-clause-counts : goal.returns-clause-counts
returns-clause-counts c labels windows is =
    c.from.ensures ∙ c.in_ok-counts.ensures.items ∙ c.counts.ensures
    ∙ ap (λ t. t.counts) c.told-tally.ensures
    ∙ ap (λ (s : CountState). s.told.counts)
    (c.read_whole.ensures (tally_of labels windows) (tally_told labels windows) is)
    ∙ counted_all labels windows c.args.log.now (length c.args.log.now)
