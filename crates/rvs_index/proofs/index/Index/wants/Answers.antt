use Rattle.std.proofs.Common.{◌≡◌, ◌&&◌, false, Some, List, sym, ap, subst, ◌∙◌, arith, length}
use Rattle.std.proofs.Common.{get_or}
use Rattle.rvs_points.specs.declared.group.Label.{Label}
use Rattle.rvs_facts.specs.Facts.{facts_of}
use Rattle.rvs_facts.specs.Mnemonics.{number}
use Rattle.rvs_insn.specs.Fields.{Fields}
use Rattle.rvs_index.specs.Buckets.{is_seen}
use Rattle.rvs_index.specs.Cells.{sight}
use Rattle.rvs_index.specs.Counting.{aims_in, hits_insn}
use Rattle.rvs_index.specs.State.{added}
use Rattle.rvs_index.specs.Wanted.{IsWanted}
use Rattle.rvs_index.specs.declared.wanted.Wanted.{Wanted}
use Rattle.rvs_index.proofs.Wants.{unwanted}
use Rattle.rvs_index.proofs.index.Index.wants.Goals as goal

pub returns : goal.returns
returns c = λ none cs long.
    let n = c.number.result in
    let i = c.args.facts.now.insn in
    let v1 = c.args.facts.now.first in
    let v2 = c.args.facts.now.second in
    let lists = c.self.inside.lists in
    let blank : Wanted =
    record {
      rd = false;
      rs1 = false;
      rs2 = false;
      rs1_val = false;
      rs2_val = false;
      imm_val = false;
      ea_align = false;
    } in
    let w : Wanted = get_or c.as_slice.result.now n blank in
    let is : IsWanted lists n w =
    subst (λ (ws : List Wanted). IsWanted lists n (get_or ws n blank)) (sym c.as_slice.ensures)
    (c.self.invariant.8.each n blank (omega (arith, c.number.ensures.low, c.self.invariant.9))) in
    let labels : c.self.inside.labels.now ≡ c.args.self.now = c.self.view_is in
    unwanted c.self.inside.labels.now lists i v1 v2 n c.args.asked w cs c.self.invariant.0
    (omega (arith, c.number.ensures.low, c.self.invariant.1))
    (c.number.ensures.place ∙ ap (λ (i : Fields). number i.op) c.insn.view_is)
    (long ∙ sym (ap (λ (ls : List Label). length (aims_in ls)) labels)) is
    (sym c.has.ensures ∙ none)
    ∙ ap (λ (ls : List Label). added (λ a. is_seen (sight c.args.asked (facts_of i v1 v2)) a.point
    && hits_insn a (Some i) v1 v2) (aims_in ls) cs) labels
