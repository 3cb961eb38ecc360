use Rattle.std.proofs.Common.{◌≡◌, ℕ, List, [], ap, ◌∙◌, length, refl, replicate}
use Rattle.rvs_index.specs.Counting.{aims_in}
use Rattle.rvs_prop.specs.State.{Trailed, trail_of}
use Rattle.rvs_prop.proofs.Lows.{zeros_all, zeros_are_low, zeros_count}
use Rattle.rvs_prop.proofs.Starts.{new_trail}
use Rattle.rvs_prop.proofs.trail.TrailConsumer.restart.Goals as goal

-- as many zeros as there are points
cleared : (cs : List ℕ) (n points : ℕ) → cs ≡ replicate {A = ℕ} n 0 → n ≡ points
    → cs ≡ replicate {A = ℕ} points 0
cleared cs n points e same = e ∙ ap (λ (n : ℕ). replicate {A = ℕ} n 0) same

pub returns : goal.returns
returns c =
    let labels = c.self.inside.index in
    new_trail labels labels c.args.start.lo c.args.start.hi
    c.clear.new.counts.items c.clear-2.new.counts.items c.new-registers.result
    c.nothing_held-held.result refl
    (cleared _ _ _ c.clear.ensures c.self.invariant.hits)
    (cleared _ _ _ c.clear-2.ensures c.self.invariant.reached)
    c.nothing_held-held.ensures c.new-registers.ensures
    ∙ ap (λ (t : Trailed). trail_of t.labels c.args.start.lo c.args.start.hi []) c.self.view_is

pub invariant_of-self : goal.invariant_of-self
invariant_of-self c =
    let labels = c.self.inside.index in
    let hits = cleared _ _ _ c.clear.ensures c.self.invariant.hits in
    let reached = cleared _ _ _ c.clear-2.ensures c.self.invariant.reached in
    record {
      hits = zeros_count labels labels c.clear.new.counts.items refl hits;
      reached = zeros_count labels labels c.clear-2.new.counts.items refl reached;
      low_hits = zeros_all (length (aims_in labels)) c.clear.new.counts.items hits;
      low_reached = zeros_are_low labels labels c.nothing_held-held.result
          c.clear-2.new.counts.items refl c.nothing_held-held.ensures reached;
    }
