use Rattle.std.proofs.Common.{ap, ◌∙◌}
use Rattle.rvs_points.specs.Hits.{holds}
use Rattle.rvs_facts.specs.Facts.{facts_of}
use Rattle.rvs_insn.specs.Fields.{Fields}
use Rattle.rvs_index.specs.Index.{places, raised_all}
use Rattle.rvs_index.specs.declared.known_facts.Known.{Known}
use Rattle.rvs_index.proofs.hits.add_counted.Goals as goal

pub returns : goal.returns
returns g c =
    let slots = places c.args.slots.now in
    let cs = c.args.counts.now in
    let facts : Known = c.args.facts.now in
    c.add_hits.ensures
    ∙ ap (λ (k : Known). raised_all (λ p. holds p c.insn.inside.op
    (facts_of k.insn k.first k.second)) slots cs) c.new-aligned.ensures
    ∙ ap (λ (i : Fields). raised_all (λ p. holds p i.op
    (facts_of facts.insn facts.first facts.second)) slots cs) c.insn.view_is
