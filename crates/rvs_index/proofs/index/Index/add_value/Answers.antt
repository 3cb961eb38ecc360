use Rattle.std.proofs.Common.{◌≡◌, ◌+◌, ◌*◌, ◌&&◌, pos, false, Some, List, [], sym, ap, ◌∙◌, arith}
use Rattle.std.proofs.Common.{length}
use Rattle.std.proofs.Common.{get_or, to_z, of_z, w64}
use Rattle.std.proofs.lemmas.Int.{to_z-of_z}
use Rattle.rvs_points.specs.declared.group.Label.{Label}
use Rattle.rvs_facts.specs.Mnemonics.{number}
use Rattle.rvs_insn.specs.Fields.{Fields}
use Rattle.rvs_index.specs.Cells.{asked_bucket, IsCell}
use Rattle.rvs_index.specs.Buckets.{is_seen, bucket_count}
use Rattle.rvs_index.specs.Counting.{aims_in, hits_insn}
use Rattle.rvs_index.specs.State.{added}
use Rattle.rvs_index.specs.declared.cell.Cell.{Cell}
use Rattle.rvs_index.proofs.Blocks.{cell_in_block}
use Rattle.rvs_index.proofs.Cells.{added_cell, low_cell, spared_cell}
use Rattle.rvs_index.proofs.index.Index.add_value.Goals as goal

pub add_cell-requires-clause-first : goal.add_cell-requires-clause-first
add_cell-requires-clause-first c =
    let b = c.asked_bucket-bucket.result in
    let key = c.number.result * bucket_count + b in
    let blank : Cell =
    record { first = pos 0; first_at = 0; second = pos 0; second_at = 0; more = false } in
    let n = c.number.result in
    let cell : Cell =
    get_or c.as_slice-2.result.now (get_or c.as_slice.result.now n 0 * bucket_count + b) blank in
    let same : to_z w64 (of_z w64 c.args.value) ≡ c.args.value = to_z-of_z _ _ c.ranges.value in
    let at : b ≡ asked_bucket c.args.asked c.args.value =
    rw same at c.asked_bucket-bucket.ensures.value in
    let is : IsCell c.args.asked (get_or c.self.inside.lists key []) cell =
    cell_in_block c.self.inside.lists c.self.inside.cells c.as_slice-2.result.now
    c.self.inside.blocks c.as_slice.result.now n b c.args.asked c.args.value blank
    c.self.invariant.2 c.self.invariant.6 c.as_slice-2.ensures c.as_slice.ensures
    (omega (arith, c.number.ensures.low, c.self.invariant.7)) c.asked_bucket-bucket.ensures.low at
    (omega (arith, c.asked_bucket-bucket.ensures.low, c.number.ensures.low, c.self.invariant.3)) in
    (low_cell c.self.inside.labels.now c.self.inside.lists key c.args.asked cell
    (length c.args.counts.now) c.self.invariant.0
    (omega (arith, c.asked_bucket-bucket.ensures.low, c.number.ensures.low, c.self.invariant.1))
    (ap (λ (ls : List Label). length (aims_in ls)) c.self.view_is ∙ sym c.requires.fits.count)
    (omega (arith, c.requires.fits.some)) is c.if-not-cell.true).0

pub add_cell-requires-clause-second : goal.add_cell-requires-clause-second
add_cell-requires-clause-second c =
    let b = c.asked_bucket-bucket.result in
    let key = c.number.result * bucket_count + b in
    let blank : Cell =
    record { first = pos 0; first_at = 0; second = pos 0; second_at = 0; more = false } in
    let n = c.number.result in
    let cell : Cell =
    get_or c.as_slice-2.result.now (get_or c.as_slice.result.now n 0 * bucket_count + b) blank in
    let same : to_z w64 (of_z w64 c.args.value) ≡ c.args.value = to_z-of_z _ _ c.ranges.value in
    let at : b ≡ asked_bucket c.args.asked c.args.value =
    rw same at c.asked_bucket-bucket.ensures.value in
    let is : IsCell c.args.asked (get_or c.self.inside.lists key []) cell =
    cell_in_block c.self.inside.lists c.self.inside.cells c.as_slice-2.result.now
    c.self.inside.blocks c.as_slice.result.now n b c.args.asked c.args.value blank
    c.self.invariant.2 c.self.invariant.6 c.as_slice-2.ensures c.as_slice.ensures
    (omega (arith, c.number.ensures.low, c.self.invariant.7)) c.asked_bucket-bucket.ensures.low at
    (omega (arith, c.asked_bucket-bucket.ensures.low, c.number.ensures.low, c.self.invariant.3)) in
    (low_cell c.self.inside.labels.now c.self.inside.lists key c.args.asked cell
    (length c.args.counts.now) c.self.invariant.0
    (omega (arith, c.asked_bucket-bucket.ensures.low, c.number.ensures.low, c.self.invariant.1))
    (ap (λ (ls : List Label). length (aims_in ls)) c.self.view_is ∙ sym c.requires.fits.count)
    (omega (arith, c.requires.fits.some)) is c.if-not-cell.true).1

pub returns-then-not-cell : goal.returns-then-not-cell
returns-then-not-cell c =
    let b = c.asked_bucket-bucket.result in
    let key = c.number.result * bucket_count + b in
    let blank : Cell =
    record { first = pos 0; first_at = 0; second = pos 0; second_at = 0; more = false } in
    let n = c.number.result in
    let cell : Cell =
    get_or c.as_slice-2.result.now (get_or c.as_slice.result.now n 0 * bucket_count + b) blank in
    let same : to_z w64 (of_z w64 c.args.value) ≡ c.args.value = to_z-of_z _ _ c.ranges.value in
    let at : b ≡ asked_bucket c.args.asked c.args.value =
    rw same at c.asked_bucket-bucket.ensures.value in
    let is : IsCell c.args.asked (get_or c.self.inside.lists key []) cell =
    cell_in_block c.self.inside.lists c.self.inside.cells c.as_slice-2.result.now
    c.self.inside.blocks c.as_slice.result.now n b c.args.asked c.args.value blank
    c.self.invariant.2 c.self.invariant.6 c.as_slice-2.ensures c.as_slice.ensures
    (omega (arith, c.number.ensures.low, c.self.invariant.7)) c.asked_bucket-bucket.ensures.low at
    (omega (arith, c.asked_bucket-bucket.ensures.low, c.number.ensures.low, c.self.invariant.3)) in
    let labels : c.self.inside.labels.now ≡ c.args.self.now = c.self.view_is in
    let length_is = c.requires.fits.count
    ∙ sym (ap (λ (ls : List Label). length (aims_in ls)) labels) in
    added_cell c.self.inside.labels.now c.self.inside.lists c.args.facts.now.insn
    c.args.facts.now.first c.args.facts.now.second c.number.result b c.args.asked c.args.value cell
    c.args.counts.now c.add_cell.new.counts c.self.invariant.0
    (omega (arith, c.asked_bucket-bucket.ensures.low, c.number.ensures.low, c.self.invariant.1))
    (c.number.ensures.place ∙ ap (λ (i : Fields). number i.op) c.insn.view_is)
    c.asked_bucket-bucket.ensures.low at length_is is c.if-not-cell.true c.requires.fact
    c.requires.small (rw same at c.add_cell.ensures)
    ∙ ap (λ (ls : List Label). added (λ a. is_seen (Some (asked_bucket c.args.asked c.args.value))
    a.point
    && hits_insn a (Some c.args.facts.now.insn) c.args.facts.now.first c.args.facts.now.second)
    (aims_in ls) c.args.counts.now) labels

pub returns-else-may_hit : goal.returns-else-may_hit
returns-else-may_hit c =
    let b = c.asked_bucket-bucket.result in
    let key = c.number.result * bucket_count + b in
    let blank : Cell =
    record { first = pos 0; first_at = 0; second = pos 0; second_at = 0; more = false } in
    let n = c.number.result in
    let cell : Cell =
    get_or c.as_slice-2.result.now (get_or c.as_slice.result.now n 0 * bucket_count + b) blank in
    let same : to_z w64 (of_z w64 c.args.value) ≡ c.args.value = to_z-of_z _ _ c.ranges.value in
    let at : b ≡ asked_bucket c.args.asked c.args.value =
    rw same at c.asked_bucket-bucket.ensures.value in
    let is : IsCell c.args.asked (get_or c.self.inside.lists key []) cell =
    cell_in_block c.self.inside.lists c.self.inside.cells c.as_slice-2.result.now
    c.self.inside.blocks c.as_slice.result.now n b c.args.asked c.args.value blank
    c.self.invariant.2 c.self.invariant.6 c.as_slice-2.ensures c.as_slice.ensures
    (omega (arith, c.number.ensures.low, c.self.invariant.7)) c.asked_bucket-bucket.ensures.low at
    (omega (arith, c.asked_bucket-bucket.ensures.low, c.number.ensures.low, c.self.invariant.3)) in
    let labels : c.self.inside.labels.now ≡ c.args.self.now = c.self.view_is in
    let length_is = c.requires.fits.count
    ∙ sym (ap (λ (ls : List Label). length (aims_in ls)) labels) in
    spared_cell c.self.inside.labels.now c.self.inside.lists c.args.facts.now.insn
    c.args.facts.now.first c.args.facts.now.second c.number.result b c.args.asked c.args.value cell
    c.args.counts.now c.self.invariant.0
    (omega (arith, c.asked_bucket-bucket.ensures.low, c.number.ensures.low, c.self.invariant.1))
    (c.number.ensures.place ∙ ap (λ (i : Fields). number i.op) c.insn.view_is)
    c.asked_bucket-bucket.ensures.low at length_is is c.if-not-cell.false c.requires.fact
    c.requires.small (rw same at (sym c.may_hit.ensures ∙ c.if-may_hit.false))
    ∙ ap (λ (ls : List Label). added (λ a. is_seen (Some (asked_bucket c.args.asked c.args.value))
    a.point
    && hits_insn a (Some c.args.facts.now.insn) c.args.facts.now.first c.args.facts.now.second)
    (aims_in ls) c.args.counts.now) labels
