-- Eight digits as a word, by pairs of digits.
use Rattle.std.proofs.lemmas.Bool.Decides.{nat_tests}
use Rattle.std.specs.Result.{MatchResult}
use Rattle.hex.specs.declared.error.FromHexError.TheVariants.{OddLength, InvalidStringLength}
use Rattle.std.proofs.Common.{◌≡◌, ℕ, ◌+◌, ◌*◌, ◌/◌, ◌%◌, eqb, Bool, true, false, List, []}
use Rattle.std.proofs.Common.{◌∷◌, length, Option, Some, None, Result, Ok, Err, refl}
use Rattle.std.proofs.Common.{arith, if◌then◌else◌, rules}
use Rattle.std.specs.Int.{from_be_bytes, w32}
use Rattle.std.specs.Option.{option_and_then}
use Rattle.hex.specs.declared.error.FromHexError.{FromHexError}
use Rattle.hex.specs.Hex.{hex_digit_value, digit_or_error, decode_pairs, decode_sized, ◌>>=◌}
use Rattle.rvs_sig.specs.Words.{value_onto}

-- the number that bytes go on from, the highest first
abbrev pub total : ℕ → List ℕ → ℕ
total front [] = front
total front (byte ∷ bytes) = total (256 * front + byte) bytes

abbrev pub value_of : ℕ → Result (List ℕ) FromHexError → Option ℕ
value_of front (Ok bytes) = Some (total front bytes)
value_of front (Err e) = None

abbrev pub after_pair : ℕ → ℕ → ℕ → Option ℕ → Option ℕ → Result (List ℕ) FromHexError
    → Result (List ℕ) FromHexError
after_pair high low i h l rest = do
  byte ← (do
    x ← digit_or_error high i h
    y ← digit_or_error low (i + 1) l
    Ok (x * 16 + y))
  bytes ← rest
  Ok (byte ∷ bytes)

-- one pair of digits, where the rest is known
pair_step : (front high low i : ℕ) (digits : List ℕ) (h l : Option ℕ)
    (rest : Result (List ℕ) FromHexError) → ((n : ℕ) → value_onto n digits ≡ value_of n rest)
    → option_and_then (λ x. option_and_then (λ y. value_onto (16 * (16 * front + x) + y) digits) l)
    h ≡ value_of front (after_pair high low i h l rest)
pair_step front high low i digits h l rest more = grind arith

pub value_onto-pairs : (front i : ℕ) (digits : List ℕ) → length digits % 2 ≡ 0
    → value_onto front digits ≡ value_of front (decode_pairs i digits)
unfolding decode_pairs
value_onto-pairs front i [] even = refl
value_onto-pairs front i (digit ∷ []) even = absurd (omega (arith, even))
value_onto-pairs front i (high ∷ low ∷ digits) even =
    pair_step front high low i digits (hex_digit_value high) (hex_digit_value low)
    (decode_pairs (i + 2) digits) (λ n. value_onto-pairs n (i + 2) digits (omega (arith, even)))

-- the four bytes of a word
pub total-be : (bytes : List ℕ) → length bytes ≡ 4 → total 0 bytes ≡ from_be_bytes w32 bytes
total-be [] four = absurd (omega (arith, four))
total-be (a ∷ []) four = absurd (omega (arith, four))
total-be (a ∷ b ∷ []) four = absurd (omega (arith, four))
total-be (a ∷ b ∷ c ∷ []) four = absurd (omega (arith, four))
total-be (a ∷ b ∷ c ∷ d ∷ []) four = omega arith
total-be (a ∷ b ∷ c ∷ d ∷ e ∷ rest) four = absurd (omega (arith, four))

choose : (t u v : Bool) (x : Option ℕ) (r : Result (List ℕ) FromHexError) (d e : FromHexError)
    → (v ≡ true → (t ≡ false) × (u ≡ true)) → (t ≡ false → u ≡ true → v ≡ true)
    → (v ≡ true → x ≡ value_of 0 r)
    → (if v then x else None) ≡ value_of 0 (if t then Err d else if u then r else Err e)
choose t u v x r d e apart both same = grind arith

even_half : (n : ℕ) → eqb n 8 ≡ true → (eqb (n % 2) 1 ≡ false) × (eqb (n / 2) 4 ≡ true)
even_half n is = let eight : n ≡ 8 = grind (arith, nat_tests) in rw eight (refl, refl)

eight_again : (n : ℕ) → eqb (n % 2) 1 ≡ false → eqb (n / 2) 4 ≡ true → eqb n 8 ≡ true
eight_again n even half = grind arith

even_eight : (n : ℕ) → eqb n 8 ≡ true → n % 2 ≡ 0
even_eight n is = let eight : n ≡ 8 = grind (arith, nat_tests) in rw eight refl

-- what decoding into four bytes answers, as a word
pub value_of-sized : (digits : List ℕ)
    → (if eqb (length digits) 8 then value_onto 0 digits else None)
    ≡ value_of 0 (decode_sized digits 4)
value_of-sized digits =
    choose (eqb (length digits % 2) 1) (eqb (length digits / 2) 4) (eqb (length digits) 8)
    (value_onto 0 digits) (decode_pairs 0 digits) OddLength InvalidStringLength
    (even_half (length digits)) (eight_again (length digits))
    (λ is. value_onto-pairs 0 0 digits (even_eight (length digits) is))

abbrev pub DecodeResult : Type 0
DecodeResult = Result (Unit {0}) FromHexError

pub value_of-written : (r : Result (List ℕ) FromHexError) (out : List ℕ) (u : Unit {0}) → length out
    ≡ 4 → MatchResult r (λ bytes. (◌≡◌ {A = DecodeResult} (Ok u) (Ok tt)) × (out ≡ bytes))
    (λ e. ◌≡◌ {A = DecodeResult} (Ok u) (Err e))
    → value_of 0 r ≡ Some (from_be_bytes w32 out)
value_of-written r out u four written = search (rules, total-be)

pub value_of-refused : (r : Result (List ℕ) FromHexError) (out : List ℕ) (d : FromHexError)
    → MatchResult r (λ bytes. (◌≡◌ {A = DecodeResult} (Err d) (Ok tt)) × (out ≡ bytes))
    (λ e. ◌≡◌ {A = DecodeResult} (Err d) (Err e))
    → value_of 0 r ≡ None
value_of-refused r out d written = grind arith
