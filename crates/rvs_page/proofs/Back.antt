-- A text that stands in a page is read back.
use Rattle.std.proofs.Common.{◌≡◌, ◌<◌, ℕ, ◌+◌, ◌*◌, ◌/◌, ◌%◌, ◌-◌, Bool, true, false, cond}
use Rattle.std.proofs.Common.{List, [], ◌∷◌, ◌++◌, None, refl}
use Rattle.std.proofs.Common.{arith, codes, rules}
use Rattle.std.proofs.lemmas.Bool.Decides.{nat_tests}
use Rattle.std.proofs.lemmas.List.Elements.{All-tail}
use Rattle.std.specs.Prelude.{◌==◌, ◌||◌}
use Rattle.std.specs.List.{list_any}
use Rattle.rvs_page.specs.Escape.{plain, read_from}
use Rattle.rvs_page.specs.Laws.{TextsAreReadBack, is_special, TextsHoldNoMarks}
use Rattle.rvs_page.specs.Laws.{TextsKeepTheirSize}

same : (b n : ℕ) → (b == n) ≡ true → n ≡ b
same b n is = grind (arith, nat_tests)

-- ---- reading back

-- three digits of a byte give it
three : (b : ℕ) → b < 256
    → ((48 + b / 100) - 48) * 100 + ((48 + b / 10 % 10) - 48) * 10 + ((48 + b % 10) - 48) ≡ b
three b low = omega arith

mark-by : (t : Bool) (b : ℕ) → (b == 38) ≡ t → b < 256 → (rest : List ℕ)
    → read_from None (cond t (codes "&amp;") (cond (b == 60) (codes "&lt;")
    (cond (b == 62) (codes "&gt;") (cond (b == 34) (codes "&quot;") (plain b)))) ++ rest)
    ≡ b ∷ read_from None rest
mark-by t b is low rest = grind arith

pub texts_are_read_back : TextsAreReadBack
texts_are_read_back [] all = refl
texts_are_read_back (b ∷ text) all =
    grind (arith, mark-by, (texts_are_read_back text (All-tail (λ b. b < 256) b text all)))

-- ---- no special bytes
any-append : (xs ys : List ℕ) → list_any is_special xs ≡ false → list_any is_special ys ≡ false
    → list_any is_special (xs ++ ys) ≡ false
any-append [] ys left right = right
any-append (x ∷ xs) ys left right = by (is_special x) left
    (λ later. any-append xs ys later right)
  where
    by : (t : Bool) → (t || list_any is_special xs) ≡ false
        → (list_any is_special xs ≡ false → list_any is_special (xs ++ ys) ≡ false)
        → (t || list_any is_special (xs ++ ys)) ≡ false
    by true left on = left
    by false left on = on left

digit-plain : (d : ℕ) → d < 10 → is_special (48 + d) ≡ false
digit-plain d low = grind (arith, nat_tests)

mark-clean : (t : Bool) (b : ℕ)
    → list_any is_special (cond t (codes "&amp;") (cond (b == 60) (codes "&lt;")
    (cond (b == 62) (codes "&gt;") (cond (b == 34) (codes "&quot;") (plain b))))) ≡ false
mark-clean t b = search rules

pub texts_hold_no_marks : TextsHoldNoMarks
texts_hold_no_marks [] = refl
texts_hold_no_marks (b ∷ text) = simp (any-append, mark-clean, (texts_hold_no_marks text))

-- ---- how long it is

pub texts_keep_their_size : TextsKeepTheirSize
texts_keep_their_size [] = omega arith
texts_keep_their_size (b ∷ text) = grind (arith, nat_tests, (texts_keep_their_size text))
