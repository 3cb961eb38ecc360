-- The digits of a word as `hex` writes them.
use Rattle.std.proofs.Common.{◌≡◌, ℕ, zero, suc, ◌/◌, ◌%◌, ◌^◌, ◌<◌, ◌==◌, Bool, true}
use Rattle.std.proofs.Common.{◌&&◌, inl, inr, [], ◌∷◌, slice_index, refl, ap, ◌∙◌, arith}
use Rattle.std.proofs.lemmas.Bool.{and_parts, cases_lt, eqb-true}
use Rattle.hex.specs.Hex.{encode_lower, encode_with, lower_digits}
use Rattle.rvs_base.specs.Number.{hex_digit_of, hex_digit_at, hex_word_of}

abbrev is_row : ℕ → Bool
is_row d = slice_index lower_digits d == hex_digit_of d

abbrev are_rows : ℕ → Bool
are_rows zero = true
are_rows (suc n) = is_row n && are_rows n

row_below : (n k : ℕ) → are_rows n ≡ true → k < n → is_row k ≡ true
row_below zero k rows below = absurd (omega arith)
row_below (suc n) k rows below =
    let parts = and_parts (is_row n) (are_rows n) rows in
    elim (cases_lt k n) [
      | inl less ↦ row_below n k parts.1 less
      | inr top ↦
          let e : k ≡ n = omega arith in
          rw e parts.0
    ]

-- the table of digits has the digit of each number below 16 at its place
row : (d n : ℕ) → d < 16 → d ≡ n → slice_index lower_digits d ≡ hex_digit_of n
row d n small same = eqb-true (slice_index lower_digits d) (hex_digit_of d)
    (row_below 16 d refl small) ∙ ap hex_digit_of same

pub digits-written : (word : ℕ)
    → encode_lower (word / 16777216 % 256 ∷ word / 65536 % 256 ∷ word / 256 % 256 ∷ word % 256 ∷ [])
    ≡ hex_word_of word
unfolding encode_with hex_word_of
digits-written word =
    let digit : (d k : ℕ) → d ≡ word / 16 ^ k % 16 → slice_index lower_digits d
    ≡ hex_digit_at word k =
    λ d k same. row d (word / 16 ^ k % 16) (omega (arith, same)) same in
    let p7 = digit (word / 16777216 % 256 / 16) 7 (omega arith) in
    let p6 = digit (word / 16777216 % 256 % 16) 6 (omega arith) in
    let p5 = digit (word / 65536 % 256 / 16) 5 (omega arith) in
    let p4 = digit (word / 65536 % 256 % 16) 4 (omega arith) in
    let p3 = digit (word / 256 % 256 / 16) 3 (omega arith) in
    let p2 = digit (word / 256 % 256 % 16) 2 (omega arith) in
    let p1 = digit (word % 256 / 16) 1 (omega arith) in
    let p0 = digit (word % 256 % 16) 0 (omega arith) in
    λ i. p7 i ∷ p6 i ∷ p5 i ∷ p4 i ∷ p3 i ∷ p2 i ∷ p1 i ∷ p0 i ∷ []
