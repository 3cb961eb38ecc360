use Rattle.std.proofs.Common.{◌≡◌, ◌≤◌, ◌+◌, ◌^◌, ℕ, List, All, sym, ap, subst, ◌∙◌, ◌∷◌, arith}
use Rattle.std.proofs.Common.{drop}
use Rattle.rvs_points.specs.PointView.{point_view}
use Rattle.rvs_points.specs.Hits.{holds}
use Rattle.rvs_index.specs.Index.{PlacedPoint, place_of, places, raised, raised_all}
use Rattle.rvs_index.specs.declared.slot.Slot.{Slot}
use Rattle.rvs_index.proofs.Places.{slots_next, raised_low}
use Rattle.rvs_index.proofs.hits.add_hits.Goals as goal

pub raise_rare-requires-clause-room : goal.raise_rare-requires-clause-room
raise_rare-requires-clause-room g c = λ k d l. omega (arith, c.loop-slot.invariant.low k d l)

pub loop-slot-preserved : goal.loop-slot-preserved
loop-slot-preserved g c =
    let t = g.F.Facts.table c.args.facts.now in
    let s : Slot = c.slot-item.result in
    let hit = holds (point_view s.point.now) c.args.op t in
    let rest = places (drop (c.loop-slot.slot-index + 1) c.args.slots.now) in
    let e : c.raise_rare.new.counts ≡ raised hit s.at c.loop-slot.counts =
    c.raise_rare.ensures.items ∙ ap (λ h. raised h s.at c.loop-slot.counts)
    c.holds-hit.ensures in
    let P : List ℕ → Type 0 = λ l. All (λ (n : ℕ). n ≤ 2 ^ 41 + c.loop-slot.slot-index + 1) l in
    let low : P c.raise_rare.new.counts =
    subst P (sym e) (raised_low hit c.loop-slot.counts s.at (2 ^ 41 + c.loop-slot.slot-index)
    c.loop-slot.invariant.low) in
    record {
      same =
          c.loop-slot.invariant.same
          ∙ ap (λ (ps : List PlacedPoint). raised_all (λ p. holds p c.args.op t) ps
          c.loop-slot.counts)
          (slots_next c.args.slots.now c.loop-slot.slot-index s c.loop-slot-test.true)
          ∙ ap (λ (s : Slot). raised_all (λ p. holds p c.args.op t) (place_of s ∷ rest)
          c.loop-slot.counts) (sym c.slot-item.is)
          ∙ ap (λ cs. raised_all (λ p. holds p c.args.op t) rest cs) (sym e);
      len = c.raise_rare.ensures.len ∙ c.loop-slot.invariant.len;
      low = λ k d l. omega (arith, low k d l);
    }
