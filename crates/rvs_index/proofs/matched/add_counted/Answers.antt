use Rattle.std.proofs.Common.{◌≡◌, ◌≤◌, ◌+◌, ◌^◌, ℕ, List, All, sym, ap, subst, ◌∙◌, ◌∷◌, arith}
use Rattle.std.proofs.Common.{drop}
use Rattle.rvs_points.specs.PointView.{meaning_view}
use Rattle.rvs_points.specs.Points.{Point}
use Rattle.rvs_index.specs.Index.{PlacedPoint, is_matched, place_of, places, raised, raised_all}
use Rattle.rvs_index.specs.declared.slot.Slot.{Slot}
use Rattle.rvs_index.proofs.Places.{slots_next, raised_low}
use Rattle.rvs_index.proofs.matched.add_counted.Goals as goal

pub raise-requires-clause-room : goal.raise-requires-clause-room
raise-requires-clause-room g c = λ k d l. omega (arith, c.loop-slot.invariant.low k d l)

pub loop-slot-preserved : goal.loop-slot-preserved
loop-slot-preserved g c =
    let s : Slot = c.slot-item.result in
    let matched : Point → _ = λ p. is_matched p.meaning c.args.window.now in
    let hit = is_matched (meaning_view s.point.now.meaning) c.args.window.now in
    let rest = places (drop (c.loop-slot.slot-index + 1) c.args.slots.now) in
    let e : c.raise.new.counts ≡ raised hit s.at c.loop-slot.counts =
    c.raise.ensures.items ∙ ap (λ h. raised h s.at c.loop-slot.counts) c.is_hit-hit.ensures in
    let P : List ℕ → Type 0 = λ l. All (λ (n : ℕ). n ≤ 2 ^ 42 + c.loop-slot.slot-index + 1) l in
    let low : P c.raise.new.counts =
    subst P (sym e) (raised_low hit c.loop-slot.counts s.at (2 ^ 42 + c.loop-slot.slot-index)
    c.loop-slot.invariant.low) in
    record {
      same =
          c.loop-slot.invariant.same
          ∙ ap (λ (ps : List PlacedPoint). raised_all matched ps c.loop-slot.counts)
          (slots_next c.args.slots.now c.loop-slot.slot-index s c.loop-slot-test.true)
          ∙ ap (λ (s : Slot). raised_all matched (place_of s ∷ rest) c.loop-slot.counts)
          (sym c.slot-item.is)
          ∙ ap (λ cs. raised_all matched rest cs) (sym e);
      len = c.raise.ensures.len ∙ c.loop-slot.invariant.len;
      low = λ k d l. omega (arith, low k d l);
    }
