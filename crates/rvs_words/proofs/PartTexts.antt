-- The text of a part gives it.
use Rattle.std.proofs.Common.{◌≡◌, ◌≤◌, ◌<◌, ◌^◌, ℕ, ◌+◌, Bool, true, false, cond, List, [], ◌∷◌}
use Rattle.std.proofs.Common.{◌++◌, length, Some, None, refl, ap, ◌∙◌, arith}
use Rattle.std.proofs.lemmas.Bool.Decides.{nat_tests}
use Rattle.std.proofs.lemmas.Bool.{le-leb}
use Rattle.std.proofs.lemmas.Fmt.{length-decimal-le, decimal-digits_of}
use Rattle.std.specs.Prelude.{◌==◌, ◌&&◌, nat_le, map}
use Rattle.std.specs.Fmt.{decimal}
use Rattle.std.specs.List.{list_any}
use Rattle.rvs_base.specs.Digits.{digits_of}
use Rattle.rvs_base.specs.Lines.{before, after}
use Rattle.rvs_base.proofs.Readings.{digits_of-decimal}
use Rattle.rvs_words.specs.PartWords.{part_number}
use Rattle.rvs_words.specs.CommandLaws.{PartsAreRead}
use Rattle.rvs_words.proofs.FirstCuts.{not-left, not-right}

abbrev is-slash : ℕ → Bool
is-slash byte = byte == 47

no-slash : (ds : List ℕ) → list_any is-slash (map (λ d. 48 + d) ds) ≡ false
no-slash [] = refl
no-slash (d ∷ ds) = grind (arith, (no-slash ds))

decimal-plain : (n : ℕ) → 0 < n → n < 2 ^ 64 → list_any is-slash (decimal n) ≡ false
decimal-plain n low high = simp (decimal-digits_of, no-slash)

before-slash : (front back : List ℕ) → list_any is-slash front ≡ false
    → before 47 (front ++ 47 ∷ back) ≡ front
before-slash [] back none = refl
before-slash (c ∷ front) back none =
    ap (λ (b : Bool). cond b [] (c ∷ before 47 (front ++ 47 ∷ back)))
    (not-left (c == 47) (list_any is-slash front) none)
    ∙ ap (λ l. c ∷ l)
    (before-slash front back (not-right (c == 47) (list_any is-slash front) none))

after-slash : (front back : List ℕ) → list_any is-slash front ≡ false
    → after 47 (front ++ 47 ∷ back) ≡ Some back
after-slash [] back none = refl
after-slash (c ∷ front) back none =
    ap (λ (b : Bool). cond b (Some (front ++ 47 ∷ back)) (after 47 (front ++ 47 ∷ back)))
    (not-left (c == 47) (list_any is-slash front) none)
    ∙ after-slash front back (not-right (c == 47) (list_any is-slash front) none)

number-read : (n : ℕ) → n ≤ 4096 → part_number (decimal n) ≡ Some n
number-read n h =
    let few = le-leb (length (decimal n)) 4
    (length-decimal-le 4 n (omega arith) (omega arith) (omega arith)) in
    ap (λ (t : Bool). cond t (digits_of 10 (decimal n)) None) few
    ∙ digits_of-decimal n (omega arith)

between : (at of : ℕ) → 1 ≤ at → at ≤ of → of ≤ 4096
    → (nat_le 1 at && (nat_le at of && nat_le of 4096)) ≡ true
between at of low mid high = grind (arith, nat_tests)

pub parts_are_read : PartsAreRead
parts_are_read at of low mid high =
    grind (arith, decimal-plain, after-slash, before-slash, number-read, between)
