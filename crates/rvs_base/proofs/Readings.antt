-- What is printed in digits is read as the number that it prints.
use Rattle.std.proofs.Common.{◌≡◌, ℕ, ◌/◌, ◌%◌, ◌^◌, ◌<◌, Bool, true, cond, ◌&&◌, List, []}
use Rattle.std.proofs.Common.{◌∷◌, length, Some, None, nat_lt, arith, refl, ap, ◌∙◌, rules}
use Rattle.std.specs.List.{list_all}
use Rattle.std.specs.Char.{digit_value, is_digit}
use Rattle.std.specs.Fmt.{decimal}
use Rattle.std.specs.Str.Parse.{AllDigits, digits_value}
use Rattle.std.proofs.lemmas.Bool.{lt-ltb}
use Rattle.std.proofs.lemmas.Fmt.{decimal_is_IsNumeral}
use Rattle.rvs_base.specs.Number.{hex_digit_of, hex_word_of}
use Rattle.rvs_base.specs.Digits.{digits_of}

pub digits_pass : (radix : ℕ) (ds : List ℕ) → AllDigits radix ds
    → list_all (λ c. is_digit c radix) ds ≡ true
digits_pass radix [] h = refl
digits_pass radix (d ∷ ds) h = rw (lt-ltb (digit_value d) radix h.0) (digits_pass radix ds h.1)

both : (some all : Bool) (v : ℕ) → some ≡ true → all ≡ true
    → cond (some && all) (Some v) None ≡ Some v
both some all v p q = grind arith

-- one or more digits spell their value
pub digits_of-value : (radix : ℕ) (ds : List ℕ) → 0 < length ds → AllDigits radix ds
    → digits_of radix ds ≡ Some (digits_value radix ds)
unfolding digits_of
digits_of-value radix ds some all =
    both (nat_lt 0 (length ds)) (list_all (λ c. is_digit c radix) ds) (digits_value radix ds)
    (lt-ltb 0 (length ds) some) (digits_pass radix ds all)

pub digits_of-decimal : (n : ℕ) → n < 2 ^ 64 → digits_of 10 (decimal n) ≡ Some n
digits_of-decimal n h =
    let is = decimal_is_IsNumeral n h in
    digits_of-value 10 (decimal n) is.0.0 is.0.1 ∙ ap Some is.1

-- a hexadecimal digit
pub record IsHex (c d : ℕ) : Type 0 where
  pub digit : is_digit c 16 ≡ true
  pub value : digit_value c ≡ d
  pub plain : 47 < c

pub hex_digit : (d : ℕ) → d < 16 → IsHex (hex_digit_of d) d
hex_digit d h = search rules

pub digits_of-hex_word : (w : ℕ) → w < 2 ^ 32 → digits_of 16 (hex_word_of w) ≡ Some w
unfolding digits_of hex_word_of
digits_of-hex_word w h =
    let a = hex_digit (w / 16 ^ 7 % 16) (omega arith) in
    let b = hex_digit (w / 16 ^ 6 % 16) (omega arith) in
    let c = hex_digit (w / 16 ^ 5 % 16) (omega arith) in
    let d = hex_digit (w / 16 ^ 4 % 16) (omega arith) in
    let e = hex_digit (w / 16 ^ 3 % 16) (omega arith) in
    let f = hex_digit (w / 16 ^ 2 % 16) (omega arith) in
    let g = hex_digit (w / 16 ^ 1 % 16) (omega arith) in
    let i = hex_digit (w / 16 ^ 0 % 16) (omega arith) in
    rw (
      a.digit,
      b.digit,
      c.digit,
      d.digit,
      e.digit,
      f.digit,
      g.digit,
      i.digit,
      a.value,
      b.value,
      c.value,
      d.value,
      e.value,
      f.value,
      g.value,
      i.value,
    ) (ap Some (omega arith))
