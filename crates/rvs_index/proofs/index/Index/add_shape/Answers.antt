use Rattle.std.proofs.Common.{Some, ◌∙◌, ap}
use Rattle.rvs_insn.specs.Fields.{Fields}
use Rattle.rvs_index.specs.Counting.{aims_in, hits_insn}
use Rattle.rvs_index.specs.State.{added}
use Rattle.rvs_index.proofs.index.Index.add_shape.Goals as goal

pub returns : goal.returns
returns c =
    let cs = c.args.counts.now in
    let aims = aims_in c.args.self.now in
    let r = c.take_facts-facts.result in
    c.add_lists.ensures
    ∙ ap (λ (i : Fields). added (λ a. hits_insn a (Some i) r.first r.second) aims cs)
    (c.take_facts-facts.ensures.insn ∙ c.requires.shape)
    ∙ ap (λ v. added (λ a. hits_insn a (Some c.args.insn.now) v r.second) aims cs)
    c.take_facts-facts.ensures.first
    ∙ ap (λ v. added (λ a. hits_insn a (Some c.args.insn.now) c.args.first v) aims cs)
    c.take_facts-facts.ensures.second
