-- A result that is stored at once counts.
use Rattle.std.proofs.Common.{◌≡◌, ◌≤◌, ℕ, zero, suc, Bool, true, false, List, []}
use Rattle.std.proofs.Common.{◌∷◌, ◌++◌, Some, ap, ◌∙◌, get_or, arith}
use Rattle.std.specs.Prelude.{◌==◌, ◌&&◌, ◌||◌, not, map}
use Rattle.std.specs.List.{slice_get}
use Rattle.rvs_index.specs.Counting.{Aim, hits}
use Rattle.rvs_prop.specs.Acts.{Act}
use Rattle.rvs_prop.specs.Reach.{reached, reaches, saves_register}
use Rattle.rvs_prop.specs.Reach.{target_of}
use Rattle.rvs_prop.specs.Stored.{StoredCounts}

reach : (own none saved later : Bool) → none ≡ false → saved ≡ true
    → (own || (not none && (saved || later))) ≡ true
reach own none saved later e f = grind arith

-- the first of two neighbours reaches
pub reaches_next : (lo hi : ℕ) (a s : Act) (behind : List Act)
    → (target_of a.entry == 0) ≡ false
    → saves_register lo hi (target_of a.entry) s.entry ≡ true
    → reaches lo hi a.entry (s ∷ behind) ≡ true
reaches_next lo hi a s behind some saved = simp reach

-- the number of a list with these neighbours
stored : (lo hi : ℕ) (front behind : List Act) (a s : Act) (aim : Aim)
    → hits aim a.entry ≡ true → (target_of a.entry == 0) ≡ false
    → saves_register lo hi (target_of a.entry) s.entry ≡ true
    → 1 ≤ reached lo hi (front ++ a ∷ s ∷ behind) aim
stored lo hi [] behind a s aim hit some saved = grind (arith, reaches_next)
stored lo hi (b ∷ front) behind a s aim hit some saved =
    grind (arith, (stored lo hi front behind a s aim hit some saved))

-- the number of the point at a place
at : (f : Aim → ℕ) (aims : List Aim) (place : ℕ) (aim : Aim) → slice_get aims place ≡ Some aim
    → get_or (map f aims) place 0 ≡ f aim
at f [] place aim e = absurd cc
at f (a ∷ aims) zero aim e = let same : a ≡ aim = cc in ap f same
at f (a ∷ aims) (suc place) aim e = at f aims place aim e

pub stored_counts : (lo hi : ℕ) (acts : List Act) (aims : List Aim) (numbers : List ℕ)
    → numbers ≡ map (reached lo hi acts) aims → StoredCounts lo hi acts aims numbers
stored_counts lo hi acts aims numbers is = record {
  counted = λ front behind hit store place aim e at-place hits-it some saved.
      let number : get_or numbers place 0 ≡ reached lo hi (front ++ hit ∷ store ∷ behind) aim =
      ap (λ ns. get_or ns place 0) is ∙ at (reached lo hi acts) aims place aim at-place
      ∙ ap (λ those. reached lo hi those aim) e in
      omega (arith, number, stored lo hi front behind hit store aim hits-it some saved);
}
