use Rattle.std.proofs.Common.{ℕ, [], ap, ◌∙◌, refl, replicate}
use Rattle.rvs_index.specs.State.{Tallied, tally_of}
use Rattle.rvs_index.proofs.Built.{new_tally}
use Rattle.rvs_count.proofs.tally.TallyConsumer.restart.Goals as goal

pub returns : goal.returns
returns c =
    new_tally c.self.inside.index c.self.inside.index c.self.inside.windows
    c.clear.new.counts.items c.new-registers.result c.new-run.result refl
    (c.clear.ensures ∙ ap (λ (n : ℕ). replicate {A = ℕ} n 0) c.self.invariant.count)
    c.new-registers.ensures c.new-run.ensures
    ∙ ap (λ (t : Tallied). tally_of t.labels t.windows []) c.self.view_is
