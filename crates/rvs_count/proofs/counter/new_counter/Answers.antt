use Rattle.std.proofs.Common.{Some, [], ap, ◌∙◌}
use Rattle.rvs_log.specs.Taken.{taken}
use Rattle.rvs_log.proofs.Streams.{begun_is}
use Rattle.rvs_index.specs.State.{tally_of}
use Rattle.rvs_count.proofs.counter.new_counter.Goals as goal

pub returns : goal.returns
returns c =
    c.new-2.ensures ∙ ap (λ t. taken t (Some []) 0) c.in_ok-new.ensures
    ∙ begun_is (tally_of c.args.groups.now c.args.windows)
