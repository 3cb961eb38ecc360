-- Signs as the bits of a mask.
use Rattle.std.proofs.Common.{◌≡◌, ◌≢◌, ℕ, zero, suc, ◌+◌, ◌-◌, ◌*◌, ◌≤◌, ◌/◌, ◌%◌, ◌^◌, ◌<◌, Bool}
use Rattle.std.proofs.Common.{true}
use Rattle.std.proofs.Common.{false, cond, ◌&&◌, List, [], ◌∷◌, refl, sym, ap, ◌∙◌, arith, get_or}
use Rattle.std.proofs.Common.{bit_and, bit_or, w32, rules}
use Rattle.std.proofs.lemmas.Bool.Decides.{nat_tests}
use Rattle.std.proofs.lemmas.Bool.{and_from}
use Rattle.std.proofs.lemmas.Nat.{one_shl}
use Rattle.std.proofs.lemmas.Nat.Bits.{bit_at_above, bit_at_and, bit_at_lowest, bit_at_not}
use Rattle.std.proofs.lemmas.Nat.Bits.{bit_at-lt, bit_at_or}
use Rattle.std.proofs.lemmas.Nat.Bits.{bit_at-pow_other, bit_at-pow_same, bit_at-suc, bit_at-zero}
use Rattle.std.proofs.lemmas.Nat.Bits.{same_from_bits}
use Rattle.std.specs.Int.{bit_at, bit_not}
use Rattle.std.specs.Prelude.{◌==◌, nat_lt}
use Rattle.rvs_points.proofs.Distinct.{and-right, and-left}
use Rattle.rvs_expr.specs.Meaning.{Table}
use Rattle.rvs_index.specs.Signs.{has_all, has_signs, sign_at, sign_bit, signs_of, signs_word}

equal : (a b : ℕ) → (a == b) ≡ true → a ≡ b
equal a b h = grind (arith, nat_tests)

other : (a b : ℕ) → (a == b) ≡ false → a ≢ b
other a b h = grind (arith, nat_tests)

is_equal : (a b : ℕ) → a ≡ b → (a == b) ≡ true
is_equal a b h = grind (arith, nat_tests)

-- two numbers are one, or aren't
apart : {G : Type 0} (a b : ℕ) → (a ≡ b → G) → (a ≢ b → G) → G
apart {G} a b f g = grind (arith, equal, other)

-- ---- the bits of a word of signs
low : (b : Bool) (n : ℕ) → (cond b 1 0 + 2 * n) % 2 ≡ cond b 1 0
low b n = grind arith

half : (b : Bool) (n : ℕ) → (cond b 1 0 + 2 * n) / 2 ≡ n
half b n = grind arith

word_bit : (bs : List Bool) (k : ℕ) → bit_at (signs_word bs) k ≡ cond (get_or bs k false) 1 0
word_bit [] k = bit_at-zero k
word_bit (b ∷ bs) zero = bit_at_lowest (signs_word (b ∷ bs)) ∙ low b (signs_word bs)
word_bit (b ∷ bs) (suc k) = simp (bit_at-suc, half, (word_bit bs k))

-- ---- those of a mask
abbrev shl : ℕ → ℕ
shl k = 1 * 2 ^ k % 2 ^ 32

shl_same : (k : ℕ) → k < 32 → bit_at (shl k) k ≡ 1
shl_same k h = ap (λ n. bit_at n k) (one_shl k 32 h) ∙ bit_at-pow_same k

shl_other : (k i : ℕ) → k < 32 → i ≢ k → bit_at (shl k) i ≡ 0
shl_other k i h o = ap (λ n. bit_at n i) (one_shl k 32 h) ∙ bit_at-pow_other k i o

-- ---- a word has all of them
-- a bit of a mask is one of the word's
abbrev HasBit : ℕ → ℕ → ℕ → Type 0
HasBit w m i = bit_at m i ≡ 1 → bit_at w i ≡ 1

bit_there : (w m : ℕ) → has_all w m ≡ true → (i : ℕ) → HasBit w m i
bit_there w m h i e = grind (arith, bit_and, equal, low, bit_at-lt, bit_at_and)

kept_bit : (w m i : ℕ) → HasBit w m i → bit_at (bit_and w m) i ≡ bit_at m i
kept_bit w m i h = grind (arith, bit_at-lt, bit_and, bit_at_and)

bits_there : (w m : ℕ) → ((i : ℕ) → HasBit w m i) → has_all w m ≡ true
bits_there w m h = search (rules, is_equal, bit_and, same_from_bits, kept_bit)

-- two truth values that follow from each other are one
same_truth : (a b : Bool) → (a ≡ true → b ≡ true) → (b ≡ true → a ≡ true) → a ≡ b
same_truth a b f g = grind arith

-- ---- one sign
one_bit : (bs : List Bool) (k : ℕ) → k < 32 → has_all (signs_word bs) (shl k) ≡ get_or bs k false
one_bit bs k l = same_truth (has_all (signs_word bs) (shl k)) (get_or bs k false) there back
  where
    is_so : (b : Bool) → ◌≡◌ {A = ℕ} (cond b 1 0) 1 → b ≡ true
    is_so true h = refl
    is_so false h = absurd (omega (arith, h))

    there : has_all (signs_word bs) (shl k) ≡ true → get_or bs k false ≡ true
    there h = is_so (get_or bs k false)
        (sym (word_bit bs k) ∙ bit_there (signs_word bs) (shl k) h k (shl_same k l))

    each : get_or bs k false ≡ true → (i : ℕ) → HasBit (signs_word bs) (shl k) i
    each g i e =
        apart i k (λ s. ap (λ n. bit_at (signs_word bs) n) s ∙ word_bit bs k
        ∙ ap (λ b. cond b 1 0) g)
        (λ o. absurd (omega (arith, e, shl_other k i l o)))

    back : get_or bs k false ≡ true → has_all (signs_word bs) (shl k) ≡ true
    back g = bits_there (signs_word bs) (shl k) (each g)

pub one_says : (t : Table) (k : ℕ) → k < 31 → has_signs (sign_bit k) t ≡ sign_at k t
one_says t k l = one_bit (signs_of t) k (omega (arith, l))

-- the first sign always is
pub first_always : (t : Table) → true ≡ has_all (signs_word (signs_of t)) 1
unfolding signs_of
first_always t = sym (one_says t 0 (omega arith))

-- ---- two masks
joined_masks : (w m n : ℕ) → has_all w (bit_or m n) ≡ (has_all w m && has_all w n)
joined_masks w m n =
    same_truth (has_all w (bit_or m n)) (has_all w m && has_all w n) there back
  where
    first : has_all w (bit_or m n) ≡ true → (i : ℕ) → HasBit w m i
    first h i e = bit_there w (bit_or m n) h i
        (omega (arith, bit_at_or m n i, e, bit_at-lt n i))

    second : has_all w (bit_or m n) ≡ true → (i : ℕ) → HasBit w n i
    second h i e = bit_there w (bit_or m n) h i
        (omega (arith, bit_at_or m n i, e, bit_at-lt m i))

    there : has_all w (bit_or m n) ≡ true → (has_all w m && has_all w n) ≡ true
    there h = and_from (has_all w m) (has_all w n)
        (bits_there w m (first h)) (bits_there w n (second h))

    either : (h : (has_all w m && has_all w n) ≡ true) (i a b : ℕ) → bit_at m i ≡ a
        → bit_at n i ≡ b → a < 2 → HasBit w (bit_or m n) i
    either h i zero b p q l e = bit_there w n (and-right (has_all w m) (has_all w n) h) i
        (omega (arith, bit_at_or m n i, p, e))
    either h i (suc zero) b p q l e =
        bit_there w m (and-left (has_all w m) (has_all w n) h) i p
    either h i (suc (suc a)) b p q l e = absurd (omega (arith, l))

    back : (has_all w m && has_all w n) ≡ true → has_all w (bit_or m n) ≡ true
    back h = bits_there w (bit_or m n)
        (λ i. either h i (bit_at m i) (bit_at n i) refl refl (bit_at-lt m i))

pub both_signs : (t : Table) (m n : ℕ)
    → has_signs (bit_or m n) t ≡ (has_signs m t && has_signs n t)
both_signs t m n = joined_masks (signs_word (signs_of t)) m n

pub more_signs : (b : Bool) (t : Table) (m n : ℕ)
    → (b && has_signs (bit_or m n) t) ≡ ((b && has_signs m t) && has_signs n t)
more_signs b t m n = search (rules, both_signs)

pub no_signs : (t : Table) → has_signs 0 t ≡ true
no_signs t = grind (arith, bits_there, bit_at-zero)

-- ---- the bits that a word lacks
-- a mask has no bit from 32 on
within : (m i : ℕ) → m < 2 ^ 32 → bit_at m i ≡ 1 → i < 32
within m i l e = turn (nat_lt i 32) refl
  where
    turn : (t : Bool) → nat_lt i 32 ≡ t → i < 32
    turn true h = grind (arith, nat_tests)
    turn false h =
        let far : 32 ≤ i = grind (arith, nat_tests) in
        absurd (omega (arith, e, bit_at_above m 32 i l far))

pub lacks_none : (w m l : ℕ) → l ≡ bit_not w32 w → w < 2 ^ 32 → m < 2 ^ 32
    → (bit_and l m == 0) ≡ has_all w m
lacks_none w m l is ww mm = same_truth (bit_and l m == 0) (has_all w m) there back
  where
    turned : (i : ℕ) → i < 32 → bit_at l i ≡ 1 - bit_at w i
    turned i h = ap (λ n. bit_at n i) is ∙ bit_at_not w32 w i ww h

    there : (bit_and l m == 0) ≡ true → has_all w m ≡ true
    there h = bits_there w m (λ i e.
        let none : bit_at (bit_and l m) i ≡ 0 =
        ap (λ n. bit_at n i) (equal (bit_and l m) 0 h) ∙ bit_at-zero i in
        omega (arith, none, bit_at_and l m i, e, turned i (within m i mm e), bit_at-lt w i))

    no_bit : has_all w m ≡ true → (i b : ℕ) → bit_at m i ≡ b → b < 2
        → bit_at (bit_and l m) i ≡ bit_at 0 i
    no_bit h i zero e b = omega (arith, bit_at_and l m i, e, bit_at-zero i)
    no_bit h i (suc zero) e b =
        omega (
          arith,
          bit_at_and l m i,
          e,
          bit_there w m h i e,
          turned i (within m i mm e),
          bit_at-zero i,
        )
    no_bit h i (suc (suc n)) e b = absurd (omega (arith, b))

    back : has_all w m ≡ true → (bit_and l m == 0) ≡ true
    back h = is_equal (bit_and l m) 0
        (same_from_bits (bit_and l m) 0 (λ i. no_bit h i (bit_at m i) refl (bit_at-lt m i)))
