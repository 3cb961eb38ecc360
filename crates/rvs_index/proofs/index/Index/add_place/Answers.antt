use Rattle.std.proofs.Common.{ℕ, ◌≡◌, ◌+◌, ◌*◌, ◌<◌, ◌&&◌, pos, List, [], Some, sym, ap, subst, ◌∙◌}
use Rattle.std.proofs.Common.{All, arith, length, get_or}
use Rattle.rvs_points.specs.declared.group.Label.{Label}
use Rattle.rvs_expr_text.specs.declared.lexeme.NumName.TheVariants.{EaAlign}
use Rattle.rvs_facts.specs.Mnemonics.{number}
use Rattle.rvs_insn.specs.Fields.{Fields}
use Rattle.rvs_index.specs.Buckets.{is_seen, bucket_count, number_bucket}
use Rattle.rvs_index.specs.Counting.{aims_in, hits_insn}
use Rattle.rvs_index.specs.Marks.{raised_marks, IsHead}
use Rattle.rvs_index.specs.State.{added}
use Rattle.rvs_index.specs.declared.mark.Audience.TheVariants.{Aligned}
use Rattle.rvs_index.specs.declared.mark.Head.{Head}
use Rattle.rvs_index.specs.declared.mark.Mark.{Mark}
use Rattle.rvs_index.proofs.Marks.{added_marks, few_marks, low_marks}
use Rattle.rvs_index.proofs.Marks.{place_head_at}
use Rattle.rvs_index.proofs.Seen.{residue_low}
use Rattle.rvs_index.proofs.index.Index.add_place.Goals as goal
use Rattle.rvs_index.proofs.index.Index.add_place.Goals.{After-add_groups_apart-arg-1}

-- the list that is gone over has a head, and is there
abbrev list_key : After-add_groups_apart-arg-1 → ℕ
list_key c = c.number.result * bucket_count + number_bucket EaAlign (pos c.args.place)

is_head : (c : After-add_groups_apart-arg-1)
    → IsHead (Aligned (pos c.args.place)) (get_or c.self.inside.lists (list_key c) [])
    c.index-as_slice-number.result
is_head c =
    place_head_at c.self.inside.lists c.self.inside.places c.as_slice.result.now c.number.result
    c.args.place c.index-as_slice-number.result c.self.invariant.12 c.as_slice.ensures
    c.index-as_slice-number.is
    (omega (arith, c.number.ensures.low, c.self.invariant.13, c.requires.place)) c.requires.place

is_listed : (c : After-add_groups_apart-arg-1) → list_key c < length c.self.inside.lists
is_listed c =
    omega (arith, c.number.ensures.low, c.self.invariant.1, residue_low (pos c.args.place))

pub add_groups_apart-requires-clause-within : goal.add_groups_apart-requires-clause-within
add_groups_apart-requires-clause-within c =
    let P : List Mark → Type 0 =
    λ l. All (λ (m : Mark). m.at < length c.args.counts.now) l in
    subst P (sym c.as_slice-else-head.ensures)
    (low_marks c.self.inside.labels.now c.self.inside.lists (Aligned (pos c.args.place))
    (list_key c) c.index-as_slice-number.result (length c.args.counts.now)
    c.self.invariant.0 (is_listed c)
    (ap (λ (ls : List Label). length (aims_in ls)) c.self.view_is ∙ sym c.requires.fits.count)
    (omega (arith, c.requires.fits.some)) (is_head c) c.if-head.false)

pub add_groups_apart-requires-clause-few : goal.add_groups_apart-requires-clause-few
add_groups_apart-requires-clause-few c =
    omega (
      arith,
      ap (λ (l : List Mark). length l) c.as_slice-else-head.ensures,
      few_marks c.self.inside.labels.now c.self.inside.lists (Aligned (pos c.args.place))
          (list_key c) c.index-as_slice-number.result c.self.invariant.0 (is_listed c) (is_head c)
          c.if-head.false,
      ap (λ (ls : List Label). length (aims_in ls)) c.self.view_is,
      c.requires.fits.count,
    )

pub returns-else-head : goal.returns-else-head
returns-else-head c =
    let before = c.before.before.before.before in
    let h : Head = c.index-as_slice-number.result in
    let b = number_bucket EaAlign (pos c.args.place) in
    let cs = c.args.counts.now in
    let labels : c.self.inside.labels.now ≡ c.args.self.now = c.self.view_is in
    let new = c.add_groups_apart.new.counts in
    let is_new : new ≡ raised_marks c.args.facts.now.signs h.marks cs =
    c.add_groups_apart.ensures
    ∙ ap (λ (ms : List Mark). raised_marks c.args.facts.now.signs ms cs)
    c.as_slice-else-head.ensures in
    added_marks c.self.inside.labels.now c.self.inside.lists c.args.facts.now.insn
    c.args.facts.now.first c.args.facts.now.second c.number.result b
    (Aligned (pos c.args.place)) (list_key before) h cs new c.self.invariant.0
    (is_listed before) (omega arith) (omega (arith, residue_low (pos c.args.place)))
    (c.number.ensures.place ∙ ap (λ (i : Fields). number i.op) c.insn.view_is) c.requires.fact
    (c.requires.fits.count ∙ sym (ap (λ (ls : List Label). length (aims_in ls)) labels))
    (is_head before) c.if-head.false
    (is_new ∙ ap (λ (w : ℕ). raised_marks w h.marks cs) c.args.facts.now.signs_known)
    ∙ ap (λ (ls : List Label). added (λ a. is_seen (Some b) a.point
    && hits_insn a (Some c.args.facts.now.insn) c.args.facts.now.first c.args.facts.now.second)
    (aims_in ls) cs) labels
