-- The parts of a text by its first separator.
use Rattle.std.proofs.Common.{◌≡◌, ℕ, suc, ◌+◌, ◌<◌, true, false, List, [], ◌∷◌, length}
use Rattle.std.proofs.Common.{Option}
use Rattle.std.proofs.Common.{Some, None, IfSome, refl, arith, length-drop}
use Rattle.std.specs.Prelude.{◌==◌, nat_lt}
use Rattle.std.specs.List.{position_or_len}
use Rattle.std.proofs.lemmas.Bool.Decides.{nat_tests}
use Rattle.std.proofs.lemmas.List.Splits.{slice_split_first, slice_split-cons_no}
use Rattle.rvs_text.specs.Parts.{around, parts}

-- by what stands before and behind it
abbrev pub parts_by : ℕ → List ℕ → Option (List ℕ × List ℕ) → List (List ℕ)
parts_by b text None = text ∷ []
parts_by b text (Some p) = p.0 ∷ parts b p.1

abbrev place : ℕ → List ℕ → ℕ
place b text = position_or_len (λ c. c == b) text

within : (m n : ℕ) → nat_lt m n ≡ true → m < n
within m n h = grind (arith, nat_tests)

first : (n : ℕ) → nat_lt 0 (suc n) ≡ false → ⊥
first n h = grind (arith, nat_tests)

one-less : (m n : ℕ) → nat_lt (1 + m) (suc n) ≡ false → nat_lt m n ≡ false
one-less m n h = grind (arith, nat_tests)

whole : (b : ℕ) (text : List ℕ) → nat_lt (place b text) (length text) ≡ false
    → parts b text ≡ text ∷ []
whole b [] h = refl
whole b (c ∷ cs) h = grind (arith, first, slice_split-cons_no, one-less, (whole b cs))

pub parts-around : (b : ℕ) (text : List ℕ) → parts b text ≡ parts_by b text (around b text)
parts-around b text = grind (arith, slice_split_first, within, whole)

pub rest-shorter : (b : ℕ) (text : List ℕ)
    → IfSome (around b text) (λ p. length p.1 < length text)
rest-shorter b text = grind (arith, within, length-drop)
