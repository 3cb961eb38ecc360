use Rattle.std.proofs.Common.{ℕ, ◌≡◌, ◌*◌, ◌<◌, ◌&&◌, List, [], Some, sym, ap, subst, ◌∙◌}
use Rattle.std.proofs.Common.{All}
use Rattle.std.proofs.Common.{arith}
use Rattle.std.proofs.Common.{length, get_or}
use Rattle.rvs_points.specs.declared.group.Label.{Label}
use Rattle.rvs_facts.specs.Mnemonics.{number}
use Rattle.rvs_insn.specs.Fields.{Fields}
use Rattle.rvs_index.specs.Buckets.{is_seen, bucket_count}
use Rattle.rvs_index.specs.Counting.{aims_in, hits_insn}
use Rattle.rvs_index.specs.Marks.{raised_marks, IsHead}
use Rattle.rvs_index.specs.declared.mark.Audience.TheVariants.{Mnemonic}
use Rattle.rvs_index.specs.State.{added}
use Rattle.rvs_index.specs.declared.mark.Head.{Head}
use Rattle.rvs_index.specs.declared.mark.Mark.{Mark}
use Rattle.rvs_index.proofs.Marks.{added_marks, few_marks, head_at, low_marks}
use Rattle.rvs_index.proofs.index.Index.add_first.Goals as goal
use Rattle.rvs_index.proofs.index.Index.add_first.Goals.{After-add_groups-arg-1}

-- the first list has a head, and is there
abbrev list_key : After-add_groups-arg-1 → ℕ
list_key c = c.number.result * bucket_count

is_head : (c : After-add_groups-arg-1)
    → IsHead (Mnemonic c.number.result) (get_or c.self.inside.lists (list_key c) [])
    c.index-as_slice-number.result
is_head c =
    head_at (λ n. Mnemonic n) (λ (n : ℕ). n * bucket_count) c.self.inside.lists
    c.self.inside.heads c.as_slice.result.now c.number.result c.index-as_slice-number.result
    c.self.invariant.4 c.as_slice.ensures c.index-as_slice-number.is
    (omega (arith, c.number.ensures.low, c.self.invariant.5))

is_listed : (c : After-add_groups-arg-1) → list_key c < length c.self.inside.lists
is_listed c = omega (arith, c.number.ensures.low, c.self.invariant.1)

pub add_groups-requires-clause-within : goal.add_groups-requires-clause-within
add_groups-requires-clause-within c =
    let P : List Mark → Type 0 =
    λ l. All (λ (m : Mark). m.at < length c.args.counts.now) l in
    subst P (sym c.as_slice-else-head.ensures)
    (low_marks c.self.inside.labels.now c.self.inside.lists (Mnemonic c.number.result) (list_key c)
    c.index-as_slice-number.result (length c.args.counts.now) c.self.invariant.0
    (is_listed c)
    (ap (λ (ls : List Label). length (aims_in ls)) c.self.view_is ∙ sym c.requires.fits.count)
    (omega (arith, c.requires.fits.some)) (is_head c) c.if-head.false)

pub add_groups-requires-clause-few : goal.add_groups-requires-clause-few
add_groups-requires-clause-few c =
    omega (
      arith,
      ap (λ (l : List Mark). length l) c.as_slice-else-head.ensures,
      few_marks c.self.inside.labels.now c.self.inside.lists (Mnemonic c.number.result) (list_key c)
          c.index-as_slice-number.result c.self.invariant.0 (is_listed c) (is_head c)
          c.if-head.false,
      ap (λ (ls : List Label). length (aims_in ls)) c.self.view_is,
      c.requires.fits.count,
    )

pub returns-else-head : goal.returns-else-head
returns-else-head c =
    let before = c.before.before.before.before in
    let n = c.number.result in
    let h : Head = c.index-as_slice-number.result in
    let cs = c.args.counts.now in
    let labels : c.self.inside.labels.now ≡ c.args.self.now = c.self.view_is in
    let new = c.add_groups.new.counts in
    let is_new : new ≡ raised_marks c.args.facts.now.signs h.marks cs =
    c.add_groups.ensures
    ∙ ap (λ (ms : List Mark). raised_marks c.args.facts.now.signs ms cs)
    c.as_slice-else-head.ensures in
    let same = c.number.ensures.place ∙ ap (λ (i : Fields). number i.op) c.insn.view_is in
    added_marks c.self.inside.labels.now c.self.inside.lists c.args.facts.now.insn
    c.args.facts.now.first c.args.facts.now.second n 0 (Mnemonic n) (list_key before) h cs new
    c.self.invariant.0 (is_listed before) (omega arith) (omega arith) same (sym same)
    (c.requires.fits.count ∙ sym (ap (λ (ls : List Label). length (aims_in ls)) labels))
    (is_head before) c.if-head.false
    (is_new ∙ ap (λ (w : ℕ). raised_marks w h.marks cs) c.args.facts.now.signs_known)
    ∙ ap (λ (ls : List Label). added (λ a. is_seen (Some 0) a.point
    && hits_insn a (Some c.args.facts.now.insn) c.args.facts.now.first c.args.facts.now.second)
    (aims_in ls) cs) labels
