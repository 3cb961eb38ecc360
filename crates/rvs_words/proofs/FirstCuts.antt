-- A text cut at its first byte of a kind.
use Rattle.std.proofs.Common.{◌≡◌, ℕ, zero, suc, ◌+◌, Bool, true, false, cond, List, [], ◌∷◌, ◌++◌}
use Rattle.std.proofs.Common.{length, take, drop, refl, ap, ◌∙◌, arith}
use Rattle.std.specs.Prelude.{not, ◌||◌}
use Rattle.std.specs.List.{list_any, position_or_len}

pub not-left : (a b : Bool) → (a || b) ≡ false → a ≡ false
not-left a b e = grind arith

pub not-right : (a b : Bool) → (a || b) ≡ false → b ≡ false
not-right a b e = grind arith

module _ (test : ℕ → Bool) where
  pub first-at : (front : List ℕ) (byte : ℕ) (back : List ℕ) → list_any test front ≡ false
      → test byte ≡ true
      → position_or_len test (front ++ byte ∷ back) ≡ length front
  first-at [] byte back none is =
      ap (λ (b : Bool). cond (not b) (1 + position_or_len test back) 0) is
  first-at (c ∷ front) byte back none is =
      let later = first-at front byte back (not-right (test c) (list_any test front) none) is in
      ap (λ (b : Bool). cond (not b) (1 + position_or_len test (front ++ byte ∷ back)) 0)
      (not-left (test c) (list_any test front) none)
      ∙ omega (arith, later)

  pub none-at : (text : List ℕ) → list_any test text ≡ false
      → position_or_len test text ≡ length text
  none-at [] none = refl
  none-at (c ∷ text) none =
      let later = none-at text (not-right (test c) (list_any test text) none) in
      ap (λ (b : Bool). cond (not b) (1 + position_or_len test text) 0)
      (not-left (test c) (list_any test text) none)
      ∙ omega (arith, later)

pub take-front : (front back : List ℕ) → take (length front) (front ++ back) ≡ front
take-front [] back = refl
take-front (c ∷ front) back = ap (λ l. c ∷ l) (take-front front back)

pub drop-front : (front : List ℕ) (byte : ℕ) (back : List ℕ) (at : ℕ) → at ≡ length front + 1
    → drop at (front ++ byte ∷ back) ≡ back
drop-front front byte back zero e = absurd (omega arith)
drop-front [] byte back (suc at) e = let none : at ≡ 0 = omega arith in ap (λ n. drop n back) none
drop-front (c ∷ front) byte back (suc at) e = drop-front front byte back at (omega arith)
