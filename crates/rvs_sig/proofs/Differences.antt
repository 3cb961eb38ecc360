-- The first place at which two lists differ.
use Rattle.std.proofs.Common.{◌≡◌, ◌≢◌, ℕ, ◌+◌, ◌<◌, ◌≤◌, Bool, true, false, cond, eq-eqb}
use Rattle.std.proofs.Common.{List, [], ◌∷◌, length, take, get_or, Some, None, refl, sym, ◌∙◌}
use Rattle.std.proofs.Common.{arith, nat_lt}
use Rattle.std.specs.List.{zip, position, position_from, position_or_len}
use Rattle.std.proofs.lemmas.Iterator.Adapters.{position_from-zero}
use Rattle.std.proofs.lemmas.List.{ext_get_or, get_or-take, length-take-le}
use Rattle.std.proofs.lemmas.List.Sums.{fails_before_first}
use Rattle.std.proofs.lemmas.List.Quantifiers.{position-Some}
use Rattle.std.proofs.lemmas.Slice.Zip.{get_or-zip}
use Rattle.std.proofs.lemmas.Bool.Decides.{nat_tests}
use Rattle.rvs_sig.specs.Verdicts.{differ, FirstDiffers}

length-zip : (left right : List ℕ) → length left ≡ length right
    → length (zip left right) ≡ length left
length-zip [] right same = refl
length-zip (l ∷ left) [] same = absurd (omega (arith, same))
length-zip (l ∷ left) (r ∷ right) same = simp (length-zip left right (omega (arith, same)))

none_below : (i n : ℕ) → cond (nat_lt i n) (Some i) None ≡ None → n ≤ i
none_below i n none = grind (arith, nat_tests)

alike : (l r : ℕ) → differ (l, r) ≡ false → l ≡ r
alike l r same = grind (arith, nat_tests)

unlike : (l r : ℕ) → differ (l, r) ≡ true → l ≢ r
unlike l r different = grind (arith, nat_tests)

at_zip : (left right : List ℕ) (k : ℕ) (answer : Bool) → length left ≡ length right
    → k < length left → differ (get_or (zip left right) k (0, 0)) ≡ answer
    → differ (get_or left k 0, get_or right k 0) ≡ answer
at_zip left right k answer same within is = grind (arith, get_or-zip)

position_from-same : (i : ℕ) (words : List ℕ)
    → position_from differ i (zip words words) ≡ None
position_from-same i [] = refl
position_from-same i (w ∷ words) = simp (eq-eqb, (position_from-same (i + 1) words))

-- no place of a list differs from itself
pub differs_nowhere : (words : List ℕ) → position differ (zip words words) ≡ None
differs_nowhere words = simp (position_from-zero, position_from-same)

-- lists of one length of which no place differs are the same
pub agrees : (left right : List ℕ) → length left ≡ length right
    → position differ (zip left right) ≡ None → left ≡ right
agrees left right same none =
    let past =
    none_below (position_or_len differ (zip left right)) (length (zip left right)) none in
    let long = length-zip left right same in
    ext_get_or 0 left right same (λ k within. alike (get_or left k 0) (get_or right k 0) (at_zip
    left right k false same within
    (fails_before_first differ (zip left right) k (0, 0) (omega (arith, past, long, within)))))

pub first_differs : (left right : List ℕ) (at : ℕ) → length left ≡ length right
    → position differ (zip left right) ≡ Some at
    → FirstDiffers left right at (get_or left at 0) (get_or right at 0)
first_differs left right at same found =
    let (below, here, before) = position-Some differ (zip left right) at (0, 0) found in
    let within : at < length left = omega (arith, below, length-zip left right same) in
    let front : length (take at left) ≡ length (take at right) =
    length-take-le at left (omega (arith, within))
    ∙ sym (length-take-le at right (omega (arith, within, same))) in
    record {
      within = within;
      left_word = refl;
      right_word = refl;
      differ = unlike (get_or left at 0) (get_or right at 0)
          (at_zip left right at true same within here);
      before = ext_get_or 0 (take at left) (take at right) front (λ k short.
          let k_below : k < at =
          omega (arith, short, length-take-le at left (omega (arith, within))) in
          get_or-take at left k 0 k_below ∙ alike (get_or left k 0) (get_or right k 0)
          (at_zip left right k false same (omega (arith, k_below, within)) (before k k_below))
          ∙ sym (get_or-take at right k 0 k_below));
    }
