use Rattle.std.proofs.Common.{Some, ◌∙◌, ap}
use Rattle.rvs_machine.specs.Traces.{word_of}
use Rattle.rvs_index.specs.Counting.{aims_in, hits_insn}
use Rattle.rvs_index.specs.State.{added}
use Rattle.rvs_index.proofs.index.Index.add.Goals as goal

pub returns : goal.returns
returns _ c =
    let cs = c.args.counts.now in
    let aims = aims_in c.args.self.now in
    let words = c.args.before.now in
    c.add_words.ensures
    ∙ ap (λ v. added (λ a. hits_insn a (Some c.args.insn.now) v c.facts_of-facts.result.second)
    aims cs) c.facts_of-facts.ensures.first
    ∙ ap (λ v. added
    (λ a. hits_insn a (Some c.args.insn.now) (word_of words c.args.insn.now.rs1) v) aims cs)
    c.facts_of-facts.ensures.second
