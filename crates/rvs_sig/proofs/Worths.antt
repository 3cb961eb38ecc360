-- Eight digits by what they are worth.
use Rattle.std.proofs.Common.{◌≡◌, ℕ, ◌+◌, ◌*◌, ◌^◌, ◌<◌, ◌≤◌, eqb, Bool, false}
use Rattle.std.proofs.Common.{List, [], ◌∷◌, ◌++◌, length, take, drop, ◌-◌, get_or, Option, Some}
use Rattle.std.proofs.Common.{Ok, Err, refl, ap, below_more, ◌∙◌, arith}
use Rattle.std.proofs.Common.{unwrap_or}
use Rattle.std.specs.Prelude.{slice_set}
use Rattle.std.specs.Option.{option_and_then}
use Rattle.std.specs.Result.{MatchResult}
use Rattle.std.proofs.lemmas.List.{take_rest, length-set, get_or-set_same, get_or-set_other}
use Rattle.std.proofs.lemmas.Bool.Decides.{nat_tests}
use Rattle.hex.specs.declared.error.FromHexError.{FromHexError}
use Rattle.hex.specs.Hex.{hex_digit_value, decode_pairs, decode_sized}
use Rattle.rvs_base.specs.Lines.{cut_lines}
use Rattle.rvs_sig.specs.Digits.{worth_of}
use Rattle.rvs_sig.specs.Words.{value_onto, HasLine}
use Rattle.rvs_sig.proofs.Decoding.{DecodeResult, after_pair}

pub worth_low : (byte : ℕ) → worth_of byte ≤ 2 ^ 32
worth_low byte = grind (arith, nat_tests)

digit_of-worth : (o : Option ℕ) → unwrap_or o (2 ^ 32) < 2 ^ 32 → o ≡ Some (unwrap_or o (2 ^ 32))
digit_of-worth o small = grind arith

-- one digit more
onto_digit : (front digit : ℕ) (digits : List ℕ) → worth_of digit < 2 ^ 32
    → value_onto front (digit ∷ digits) ≡ value_onto (16 * front + worth_of digit) digits
onto_digit front digit digits small = grind (arith, digit_of-worth)

abbrev pub four_worth : ℕ → ℕ → ℕ → ℕ → ℕ → ℕ
four_worth front a b c d =
    16 * (16 * (16 * (16 * front + worth_of a) + worth_of b) + worth_of c) + worth_of d

onto_four : (front a b c d : ℕ) (digits : List ℕ) → worth_of a < 2 ^ 32 → worth_of b < 2 ^ 32
    → worth_of c < 2 ^ 32 → worth_of d < 2 ^ 32
    → value_onto front (a ∷ b ∷ c ∷ d ∷ digits) ≡ value_onto (four_worth front a b c d) digits
onto_four front a b c d digits small_a small_b small_c small_d = simp onto_digit

-- a digit is no line feed
feed_spells : (b : Bool) (front digit n : ℕ) (digits : List ℕ) → eqb digit 10 ≡ b
    → value_onto front (digit ∷ digits) ≡ Some n → b ≡ false
feed_spells b front digit n digits test is = grind arith

cut_more : (o : Option ℕ) (digit : ℕ) (digits rest : List ℕ) (front n : ℕ) → eqb digit 10 ≡ false
    → ((m : ℕ) → value_onto m digits ≡ Some n
    → cut_lines (digits ++ 10 ∷ rest) ≡ digits ∷ cut_lines rest)
    → option_and_then (λ value. value_onto (16 * front + value) digits) o ≡ Some n
    → cut_lines (digit ∷ (digits ++ 10 ∷ rest)) ≡ (digit ∷ digits) ∷ cut_lines rest
cut_more o digit digits rest front n feed more none = grind arith

cut_digits : (digits rest : List ℕ) (front n : ℕ) → value_onto front digits ≡ Some n
    → cut_lines (digits ++ 10 ∷ rest) ≡ digits ∷ cut_lines rest
cut_digits [] rest front n is = refl
cut_digits (digit ∷ digits) rest front n is =
    cut_more (hex_digit_value digit) digit digits rest front n
    (feed_spells (eqb digit 10) front digit n digits refl is)
    (λ m spells. cut_digits digits rest m n spells) is

-- what decoding a zero and a byte into one byte answers
one_decoded : (byte : ℕ) (out : List ℕ) (u : Unit {0}) (o : Option ℕ)
    → MatchResult (after_pair 48 byte 0 (Some 0) o (Ok []))
    (λ bytes. (◌≡◌ {A = DecodeResult} (Ok u) (Ok tt)) × (out ≡ bytes))
    (λ e. ◌≡◌ {A = DecodeResult} (Ok u) (Err e))
    → get_or out 0 0 ≡ unwrap_or o (2 ^ 32)
one_decoded byte out u o written = grind arith

none_decoded : (byte : ℕ) (out : List ℕ) (d : FromHexError) (o : Option ℕ)
    → MatchResult (after_pair 48 byte 0 (Some 0) o (Ok []))
    (λ bytes. (◌≡◌ {A = DecodeResult} (Err d) (Ok tt)) × (out ≡ bytes))
    (λ e. ◌≡◌ {A = DecodeResult} (Err d) (Err e))
    → 2 ^ 32 ≡ unwrap_or o (2 ^ 32)
none_decoded byte out d o refused = grind arith

pub worth_decoded : (byte : ℕ) (out : List ℕ) (u : Unit {0})
    → MatchResult (decode_sized (48 ∷ byte ∷ []) 1)
    (λ bytes. (◌≡◌ {A = DecodeResult} (Ok u) (Ok tt)) × (out ≡ bytes))
    (λ e. ◌≡◌ {A = DecodeResult} (Ok u) (Err e))
    → get_or out 0 0 ≡ worth_of byte
unfolding decode_pairs
worth_decoded byte out u written = one_decoded byte out u (hex_digit_value byte) written

pub worthless : (byte : ℕ) (out : List ℕ) (d : FromHexError)
    → MatchResult (decode_sized (48 ∷ byte ∷ []) 1)
    (λ bytes. (◌≡◌ {A = DecodeResult} (Err d) (Ok tt)) × (out ≡ bytes))
    (λ e. ◌≡◌ {A = DecodeResult} (Err d) (Err e))
    → 2 ^ 32 ≡ worth_of byte
unfolding decode_pairs
worthless byte out d refused = none_decoded byte out d (hex_digit_value byte) refused

split_nine : (text : List ℕ) → 9 ≤ length text
    → text ≡ get_or text 0 0 ∷ get_or text 1 0 ∷ get_or text 2 0 ∷ get_or text 3 0 ∷ get_or text 4 0
    ∷ get_or text 5 0 ∷ get_or text 6 0 ∷ get_or text 7 0 ∷ get_or text 8 0
    ∷ take (length text - 9) (drop 9 text)
split_nine (a ∷ b ∷ c ∷ d ∷ e ∷ f ∷ g ∷ h ∷ i ∷ rest) long = simp take_rest
split_nine ([]) long = absurd (omega arith)
split_nine (_ ∷ []) long = absurd (omega arith)
split_nine (_ ∷ _ ∷ []) long = absurd (omega arith)
split_nine (_ ∷ _ ∷ _ ∷ []) long = absurd (omega arith)
split_nine (_ ∷ _ ∷ _ ∷ _ ∷ []) long = absurd (omega arith)
split_nine (_ ∷ _ ∷ _ ∷ _ ∷ _ ∷ []) long = absurd (omega arith)
split_nine (_ ∷ _ ∷ _ ∷ _ ∷ _ ∷ _ ∷ []) long = absurd (omega arith)
split_nine (_ ∷ _ ∷ _ ∷ _ ∷ _ ∷ _ ∷ _ ∷ []) long = absurd (omega arith)
split_nine (_ ∷ _ ∷ _ ∷ _ ∷ _ ∷ _ ∷ _ ∷ _ ∷ []) long = absurd (omega arith)

abbrev four_from : ℕ → List ℕ → ℕ
four_from k text =
    four_worth 0 (get_or text k 0) (get_or text (k + 1) 0) (get_or text (k + 2) 0)
    (get_or text (k + 3) 0)

line_spelled : (a b c d e f g h n : ℕ) (rest : List ℕ)
    → 65536 * four_worth 0 a b c d + four_worth 0 e f g h ≡ n → n < 2 ^ 32
    → HasLine (a ∷ b ∷ c ∷ d ∷ e ∷ f ∷ g ∷ h ∷ 10 ∷ rest) (Some n) rest
line_spelled a b c d e f g h n rest sum small =
    let digits : List ℕ = a ∷ b ∷ c ∷ d ∷ e ∷ f ∷ g ∷ h ∷ [] in
    let joined : four_worth (four_worth 0 a b c d) e f g h ≡ n = omega (arith, sum) in
    let value : value_onto 0 digits ≡ Some n =
    onto_four 0 a b c d (e ∷ f ∷ g ∷ h ∷ []) (omega (arith, sum, small))
    (omega (arith, sum, small)) (omega (arith, sum, small)) (omega (arith, sum, small))
    ∙ onto_four (four_worth 0 a b c d) e f g h [] (omega (arith, sum, small))
    (omega (arith, sum, small)) (omega (arith, sum, small)) (omega (arith, sum, small))
    ∙ ap Some joined in
    record {
      line = digits;
      cut = cut_digits digits rest 0 n value;
      reads = value;
    }

-- a line of eight digits
pub eight_spelled : (text : List ℕ) (n : ℕ) → 9 ≤ length text → get_or text 8 0 ≡ 10
    → 65536 * four_from 0 text + four_from 4 text ≡ n → n < 2 ^ 32
    → HasLine text (Some n) (take (length text - 9) (drop 9 text))
eight_spelled text n long end sum small = grind (arith, split_nine, line_spelled)

-- a table whose first entries are right
pub record Filled (worths : List ℕ) (count : ℕ) : Type 0 where
  pub whole : length worths ≡ 256
  pub each : (byte : ℕ) → byte < count → get_or worths byte 0 ≡ worth_of byte

pub filled_more : (worths : List ℕ) (count worth : ℕ) → Filled worths count → count < 256
    → worth ≡ worth_of count → Filled (slice_set worths count worth) (count + 1)
filled_more worths count worth filled within is =
    grind (arith, length-set, below_more, get_or-set_other, get_or-set_same)
