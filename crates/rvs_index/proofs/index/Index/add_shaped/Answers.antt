use Rattle.std.proofs.Common.{Some, ◌∙◌, ap}
use Rattle.rvs_insn.specs.Fields.{Fields}
use Rattle.rvs_index.specs.Counting.{aims_in, hits_insn}
use Rattle.rvs_index.specs.State.{added}
use Rattle.rvs_index.proofs.index.Index.add_shaped.Goals as goal

pub returns-in_default : goal.returns-in_default
returns-in_default _ c =
    c.add_other.ensures
    ∙ ap (λ (i : Fields). added (λ a. hits_insn a (Some i) c.args.first c.args.second)
    (aims_in c.args.self.now) c.args.counts.now) c.insn.view_is
