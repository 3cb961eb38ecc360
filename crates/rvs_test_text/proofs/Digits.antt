-- Printed numbers and registers are words, and are read as what they print.
use Rattle.std.proofs.Common.{◌≡◌, ℕ, zero, suc, ◌+◌, ◌/◌, ◌%◌, ◌^◌, ◌<◌, ◌≤◌, true, false}
use Rattle.std.proofs.Common.{cond, List, [], ◌∷◌, ◌++◌, Some, None, get_or, refl, ap, ◌∙◌}
use Rattle.std.proofs.Common.{arith, rules}
use Rattle.std.specs.Prelude.{◌==◌, ℤ, pos, negsuc, option_and_then}
use Rattle.std.specs.Option.{option_map, option_or}
use Rattle.std.specs.Fmt.{decimal, signed_decimal, digits as digits_in}
use Rattle.std.specs.Char.{digit_value, is_digit as is_digit_in}
use Rattle.std.proofs.lemmas.Fmt.{decimal_by_steps, first_decimal}
use Rattle.std.proofs.lemmas.Bool.Decides.{nat_tests}
use Rattle.rvs_insn.specs.Word.{FitsBits}
use Rattle.rvs_base.specs.Digits.{digits_of, below, natural_of}
use Rattle.rvs_base.proofs.Readings.{digits_of-decimal}
use Rattle.rvs_asm_text.specs.Numbers.{number_limit, magnitude_of, negated, number_of}
use Rattle.rvs_asm_text.specs.Registers.{abi_of, abi_number, has_leading_zero, register_digits}
use Rattle.rvs_asm_text.specs.Registers.{register_of}
use Rattle.rvs_test_text.specs.Statements.{register, glyph, hex5}
use Rattle.rvs_test_text.proofs.Chars.{All, all_join, all_map, is_clean, is_plain, is_digit}
use Rattle.rvs_test_text.proofs.Chars.{plain_clean}
use Rattle.rvs_test_text.proofs.Chars.{plain_not, digit_plain, is_a_digit, IsWord}

-- digits that spell a number
pub record Spells (n : ℕ) (ds : List ℕ) : Type 0 where
  pub value : digits_of 10 ds ≡ Some n
  pub some : IsWord ds
  pub digits : All is_digit ds

pub digit_words : (ds : List ℕ) → All is_digit ds → All is_clean ds
digit_words ds h = all_map is_digit is_clean ds (λ c e. plain_clean c (digit_plain c e)) h

extended_word : (ds : List ℕ) (c : ℕ) → IsWord ds → is_digit c ≡ true → IsWord (ds ++ c ∷ [])
extended_word ds c w h = search (rules, all_join, is_clean, plain_clean, digit_plain)

record IsPrinted (n : ℕ) (ds : List ℕ) : Type 0 where
  some : IsWord ds
  digits : All is_digit ds

first_digit : (n : ℕ) → n < 10 → IsPrinted n ((48 + n) ∷ [])
first_digit n h = grind (arith, is_a_digit, plain_clean, digit_plain)

next_digit : (n : ℕ) (ds : List ℕ) → 10 ≤ n → IsPrinted (n / 10) ds
    → IsPrinted n (ds ++ (48 + n % 10) ∷ [])
next_digit n ds h s = grind (arith, is_a_digit, extended_word, all_join, is_digit)

pub decimal_spells : (n : ℕ) → n < 2 ^ 64 → Spells n (decimal n)
decimal_spells n h =
    let s = decimal_by_steps IsPrinted first_digit next_digit n h in
    record { value = digits_of-decimal n h; some = s.some; digits = s.digits }

natural_read : (n : ℕ) (ds : List ℕ) → Spells n ds → natural_of ds ≡ Some n
natural_read n ds s = grind arith

is_below : (limit n : ℕ) → n < limit → below limit n ≡ Some n
is_below limit n h = grind (arith, true, cond, Some, None)

magnitude_read : (n : ℕ) (text : List ℕ) → n < 2 ^ 63 → natural_of text ≡ Some n
    → magnitude_of text ≡ Some n
magnitude_read n text h e = ap (option_and_then (below number_limit)) e ∙ is_below number_limit n h

-- a number without a sign
unsigned_read : (n c : ℕ) (cs : List ℕ) → n < 2 ^ 63 → (c == 45) ≡ false
    → natural_of (c ∷ cs) ≡ Some n → number_of (c ∷ cs) ≡ Some (pos n)
unsigned_read n c cs h plain e = grind (arith, cond, magnitude_read)

plain_read : (n : ℕ) (ds : List ℕ) → n < 2 ^ 63 → Spells n ds → number_of ds ≡ Some (pos n)
plain_read n ds h s = search rules

-- a text without brackets
abbrev pub NoOpen : List ℕ → Type 0
NoOpen [] = Unit {0}
NoOpen (c ∷ cs) = ((c == 40) ≡ false) × NoOpen cs

pub plain_no_open : (xs : List ℕ) → All is_plain xs → NoOpen xs
plain_no_open [] h = tt
plain_no_open (c ∷ cs) h = ((plain_not c h.0).open_bracket, plain_no_open cs h.1)

-- a written number
pub record IsNumber (z : ℤ) (text : List ℕ) : Type 0 where
  pub word : IsWord text
  pub number : number_of text ≡ Some z
  pub no_open : NoOpen text

pub decimal_number : (n : ℕ) → n < 2 ^ 63 → IsNumber (pos n) (decimal n)
decimal_number n h =
    let s = decimal_spells n (omega arith) in
    record {
      word = s.some;
      number = plain_read n (decimal n) h s;
      no_open =
          plain_no_open (decimal n) (all_map is_digit is_plain (decimal n) digit_plain s.digits);
    }

pub negative_number : (m : ℕ) → suc m < 2 ^ 63 → IsNumber (negsuc m) (signed_decimal (negsuc m))
negative_number m h =
    let ds = decimal (suc m) in
    let s = decimal_spells (suc m) (omega arith) in
    record {
      word = (refl, digit_words ds s.digits);
      number = ap (option_map negated) (magnitude_read (suc m) ds h (natural_read (suc m) ds s));
      no_open = (refl, plain_no_open ds (all_map is_digit is_plain ds digit_plain s.digits));
    }

pub signed_number : (z : ℤ) → FitsBits 12 z → IsNumber z (signed_decimal z)
signed_number z f = search (rules, decimal_number, negative_number)

-- ---- registers
leading_zero : (ds : List ℕ) → 48 < get_or ds 0 0 → has_leading_zero ds ≡ false
leading_zero ds h = grind arith

one_zero : has_leading_zero (decimal 0) ≡ false
unfolding digits_in
one_zero = refl

no_zero : (r : ℕ) → r < 32 → has_leading_zero (decimal r) ≡ false
no_zero zero h = one_zero
no_zero (suc r) h = grind (arith, leading_zero, suc, first_decimal)

digits_read : (r : ℕ) → r < 32 → register_digits (decimal r) ≡ Some r
digits_read r h = grind (arith, cond, None, no_zero, digits_of-decimal, is_below)

-- a printed register is read as it, and is a word
pub record IsRegisterText (r : ℕ) (text : List ℕ) : Type 0 where
  pub read : register_of text ≡ Some r
  pub word : IsWord text

pub register_read : (r : ℕ) → r < 32 → IsRegisterText r (register r)
register_read r h =
    let s = decimal_spells r (omega arith) in
    record {
      read = ap (λ o. option_or o (option_map abi_number (abi_of (register r)))) (digits_read r h);
      word = (refl, digit_words (decimal r) s.digits);
    }

-- ---- hexadecimal digits
record IsGlyph (c d : ℕ) : Type 0 where
  digit : is_digit_in c 16 ≡ true
  value : digit_value c ≡ d

glyph_read : (d : ℕ) → d < 16 → IsGlyph (glyph d) d
glyph_read d h = record { digit = grind (arith, nat_tests); value = grind (arith, nat_tests) }

glyph_plain : (d : ℕ) → d < 16 → is_plain (glyph d) ≡ true
glyph_plain d h = grind (arith, nat_tests)

hex_spelled : (h : ℕ) → h < 2 ^ 20 → natural_of (hex5 h) ≡ Some h
unfolding digits_of
hex_spelled h low =
    let a = glyph_read (h / 2 ^ 16 % 16) (omega arith) in
    let b = glyph_read (h / 2 ^ 12 % 16) (omega arith) in
    let c = glyph_read (h / 2 ^ 8 % 16) (omega arith) in
    let d = glyph_read (h / 2 ^ 4 % 16) (omega arith) in
    let e = glyph_read (h % 16) (omega arith) in
    rw (a.digit, b.digit, c.digit, d.digit, e.digit, a.value, b.value, c.value, d.value, e.value)
    (ap Some (omega arith))

pub hex_number : (h : ℕ) → h < 2 ^ 20 → IsNumber (pos h) (hex5 h)
hex_number h low =
    let all : All is_plain (hex5 h) = (refl, (refl, glyph_all)) in
    record {
      word = all_map is_plain is_clean (hex5 h) plain_clean all;
      number =
          unsigned_read h 48
          (120 ∷ glyph (h / 2 ^ 16 % 16) ∷ glyph (h / 2 ^ 12 % 16) ∷ glyph (h / 2 ^ 8 % 16)
          ∷ glyph (h / 2 ^ 4 % 16) ∷ glyph (h % 16) ∷ []) (omega arith) refl (hex_spelled h low);
      no_open = plain_no_open (hex5 h) all;
    }
  where
    glyph_all : All is_plain
        (glyph (h / 2 ^ 16 % 16) ∷ glyph (h / 2 ^ 12 % 16) ∷ glyph (h / 2 ^ 8 % 16)
        ∷ glyph (h / 2 ^ 4 % 16) ∷ glyph (h % 16) ∷ [])
    glyph_all = (
      glyph_plain (h / 2 ^ 16 % 16) (omega arith),
      (
        glyph_plain (h / 2 ^ 12 % 16) (omega arith),
        (
          glyph_plain (h / 2 ^ 8 % 16) (omega arith),
          (glyph_plain (h / 2 ^ 4 % 16) (omega arith), (glyph_plain (h % 16) (omega arith), tt)),
        ),
      ),
    )
