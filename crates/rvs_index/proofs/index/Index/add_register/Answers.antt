use Rattle.std.proofs.Common.{◌≡◌, ◌+◌, ◌*◌, ◌<◌, ◌&&◌, pos, false, Some, List, [], sym, ap, ◌∙◌}
use Rattle.std.proofs.Common.{arith, length, get_or}
use Rattle.rvs_points.specs.declared.group.Label.{Label}
use Rattle.rvs_facts.specs.Mnemonics.{number}
use Rattle.rvs_insn.specs.Fields.{Fields}
use Rattle.rvs_index.specs.Cells.{asked_bucket, IsCell}
use Rattle.rvs_index.specs.Buckets.{is_seen, bucket_count}
use Rattle.rvs_index.specs.Counting.{aims_in, hits_insn}
use Rattle.rvs_index.specs.State.{added}
use Rattle.rvs_index.specs.declared.cell.Cell.{Cell}
use Rattle.rvs_index.proofs.Cells.{added_cell, low_cell}
use Rattle.rvs_index.proofs.Registers.{near_look, register_cell}
use Rattle.rvs_index.proofs.index.Index.add_register.Goals as goal

pub add_entry-requires-clause-within : goal.add_entry-requires-clause-within
add_entry-requires-clause-within c =
    let n = c.number.result in
    let field = c.field_of.result in
    let r = c.args.register in
    let b = 1 + (32 * field + r) in
    let q = c.args.asked in
    let cs = c.args.counts.now in
    let lists = c.self.inside.lists in
    let blank : Cell =
    record { first = pos 0; second = pos 0; first_at = 0; second_at = 0; more = false } in
    let cell : Cell =
    get_or c.self.inside.cells (get_or c.as_slice.result.now n 0 * bucket_count + b) blank in
    let list : b ≡ asked_bucket q (pos r) =
    sym (c.field_of.ensures.list c.requires.field r c.requires.small) in
    let both =
    register_cell lists c.self.inside.cells c.self.inside.blocks c.as_slice.result.now
    c.self.inside.entries c.as_slice-2.result.now n field r q blank c.self.invariant.2
    c.self.invariant.6 c.as_slice.ensures c.self.invariant.10 c.as_slice-2.ensures
    c.self.invariant.7 c.self.invariant.3 c.self.invariant.11 c.number.ensures.low
    c.field_of.ensures.low c.requires.small list in
    let is : IsCell q (get_or lists (n * bucket_count + b) []) cell = both.0 in
    let near = rw c.from.ensures at (near_look _ c.if-entry.false) in
    let whole : cell.more ≡ false = both.1.few near in
    let within : n * bucket_count + b < length lists =
    omega (
      arith,
      c.field_of.ensures.low,
      c.requires.small,
      c.number.ensures.low,
      c.self.invariant.1,
    ) in
    let low =
    low_cell c.self.inside.labels.now lists (n * bucket_count + b) q cell
    (length c.args.counts.now) c.self.invariant.0 within
    (ap (λ (ls : List Label). length (aims_in ls)) c.self.view_is ∙ sym c.requires.fits.count)
    (omega (arith, c.requires.fits.some)) is whole in
    rw c.from.ensures (omega (arith, both.1.low near, low.0))

pub returns-else-entry : goal.returns-else-entry
returns-else-entry c =
    let n = c.number.result in
    let field = c.field_of.result in
    let r = c.args.register in
    let b = 1 + (32 * field + r) in
    let q = c.args.asked in
    let cs = c.args.counts.now in
    let lists = c.self.inside.lists in
    let blank : Cell =
    record { first = pos 0; second = pos 0; first_at = 0; second_at = 0; more = false } in
    let cell : Cell =
    get_or c.self.inside.cells (get_or c.as_slice.result.now n 0 * bucket_count + b) blank in
    let list : b ≡ asked_bucket q (pos r) =
    sym (c.field_of.ensures.list c.requires.field r c.requires.small) in
    let both =
    register_cell lists c.self.inside.cells c.self.inside.blocks c.as_slice.result.now
    c.self.inside.entries c.as_slice-2.result.now n field r q blank c.self.invariant.2
    c.self.invariant.6 c.as_slice.ensures c.self.invariant.10 c.as_slice-2.ensures
    c.self.invariant.7 c.self.invariant.3 c.self.invariant.11 c.number.ensures.low
    c.field_of.ensures.low c.requires.small list in
    let is : IsCell q (get_or lists (n * bucket_count + b) []) cell = both.0 in
    let near = rw c.from.ensures at (near_look _ c.if-entry.false) in
    let whole : cell.more ≡ false = both.1.few near in
    let within : n * bucket_count + b < length lists =
    omega (
      arith,
      c.field_of.ensures.low,
      c.requires.small,
      c.number.ensures.low,
      c.self.invariant.1,
    ) in
    let labels : c.self.inside.labels.now ≡ c.args.self.now = c.self.view_is in
    let length_is = c.requires.fits.count
    ∙ sym (ap (λ (ls : List Label). length (aims_in ls)) labels) in
    let low : b < bucket_count = omega (arith, c.field_of.ensures.low, c.requires.small) in
    added_cell c.self.inside.labels.now lists c.args.facts.now.insn c.args.facts.now.first
    c.args.facts.now.second n b q (pos r) cell cs c.add_entry.new.counts c.self.invariant.0
    within (c.number.ensures.place ∙ ap (λ (i : Fields). number i.op) c.insn.view_is) low list
    length_is is whole c.requires.fact (omega (arith, c.requires.small))
    (rw c.from.ensures at c.add_entry.ensures ∙ sym (both.1.adds near cs))
    ∙ ap (λ (ls : List Label). added (λ a. is_seen (Some (asked_bucket q (pos r))) a.point
    && hits_insn a (Some c.args.facts.now.insn) c.args.facts.now.first c.args.facts.now.second)
    (aims_in ls) cs) labels
