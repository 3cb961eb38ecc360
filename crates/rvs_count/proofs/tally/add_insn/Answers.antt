use Rattle.std.proofs.Common.{◌≡◌, List, ℕ, Some, length, drop, sym, ap, ◌∙◌}
use Rattle.rvs_machine.specs.Traces.{word_of}
use Rattle.rvs_index.specs.Counting.{aims_in, hits_insn}
use Rattle.rvs_index.specs.State.{added}
use Rattle.rvs_index.proofs.Hitting.{added_length}
use Rattle.rvs_index.proofs.Marks.{lent_back}
use Rattle.rvs_count.proofs.tally.add_insn.Goals as goal

pub returns : goal.returns
returns g c =
    let cs = c.args.counts.now.items in
    let aims = aims_in c.args.index.now in
    let i = c.args.insn.now in
    let v1 = word_of c.args.before.now i.rs1 in
    let v2 = word_of c.args.before.now i.rs2 in
    let new = c.add.new.counts in
    let is : new ≡ added (λ a. hits_insn a (Some i) v1 v2) aims cs =
    c.add.ensures
    ∙ ap (λ (l : List ℕ). added (λ a. hits_insn a (Some i) v1 v2) aims l)
    c.as_mut_slice.ensures.value in
    let long : length new ≡ c.args.counts.now.len =
    ap (λ (l : List ℕ). length l) is
    ∙ added_length (λ a. hits_insn a (Some i) v1 v2) aims cs c.requires.count
    ∙ sym c.requires.count ∙ sym c.args.counts.now.ok.0 in
    lent_back c.args.counts.now.len new (drop (length new) cs) long ∙ is
