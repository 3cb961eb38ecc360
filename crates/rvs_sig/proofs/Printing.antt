-- Words that are printed are read again.
use Rattle.std.proofs.Common.{◌≡◌, ℕ, ◌+◌, ◌*◌, ◌/◌, ◌%◌, ◌^◌, ◌<◌, ◌≤◌, suc, zero, eqb, false}
use Rattle.std.proofs.Common.{List, [], ◌∷◌, ◌++◌, length, map, get_or, Some, Ok, refl, sym, ap}
use Rattle.std.proofs.Common.{◌∙◌, arith}
use Rattle.std.specs.List.{filter_map, cons_option}
use Rattle.std.specs.Str.{IsAscii}
use Rattle.std.proofs.Math.Nat.{div-div-eq-div-mul}
use Rattle.std.proofs.lemmas.List.{append_assoc}
use Rattle.std.proofs.lemmas.Bool.Decides.{nat_tests}
use Rattle.std.proofs.lemmas.Str.Ascii.{IsAscii-nil, IsAscii-cons}
use Rattle.hex.specs.Hex.{hex_digit_value}
use Rattle.rvs_base.specs.Number.{hex_digit_of, hex_digit_at, hex_word_of}
use Rattle.rvs_base.specs.Lines.{cut_lines}
use Rattle.rvs_sig.specs.Words.{value_onto, word_of_line, text_of_words, words_of_lines, words_of}
use Rattle.rvs_sig.proofs.Counting.{good_lines, good_word, is_bad}

digit_value : (d : ℕ) → d < 16 → hex_digit_value (hex_digit_of d) ≡ Some d
digit_value d small = grind (arith, nat_tests)

no_feed : (d : ℕ) → d < 16 → eqb (hex_digit_of d) 10 ≡ false
no_feed d small = grind (arith, nat_tests)

below_128 : (d : ℕ) → d < 16 → hex_digit_of d < 128
below_128 d small = grind (arith, nat_tests)

is_digit : (n : ℕ) → n % 16 < 16
is_digit n = omega arith

whole : (n : ℕ) → 16 * (n / 16) + n % 16 ≡ n
whole n = omega arith

-- one digit more
digit_step : (word k : ℕ) → 16 * (word / 16 ^ suc k) + word / 16 ^ k % 16 ≡ word / 16 ^ k
digit_step word k = grind (arith, div-div-eq-div-mul, whole)

onto_digit : (front d : ℕ) (rest : List ℕ) → d < 16
    → value_onto front (hex_digit_of d ∷ rest) ≡ value_onto (16 * front + d) rest
onto_digit front d rest small = simp digit_value

abbrev places_from : ℕ → List ℕ
places_from zero = 0 ∷ []
places_from (suc k) = suc k ∷ places_from k

value_onto-digits : (word k : ℕ)
    → value_onto (word / 16 ^ suc k) (map (hex_digit_at word) (places_from k)) ≡ Some word
value_onto-digits word zero = grind (arith, onto_digit, is_digit, digit_step)
value_onto-digits word (suc k) = simp (onto_digit, is_digit, digit_step, (value_onto-digits word k))

word_of_line-printed : (word : ℕ) → word < 2 ^ 32 → word_of_line (hex_word_of word) ≡ Some word
unfolding hex_word_of
word_of_line-printed word small =
    let none : word / 16 ^ 8 ≡ 0 = omega arith in
    ap (λ n. value_onto n (map (hex_digit_at word) (7 ∷ 6 ∷ 5 ∷ 4 ∷ 3 ∷ 2 ∷ 1 ∷ 0 ∷ []))) (sym none)
    ∙ value_onto-digits word 7

cut_lines-digits : (word : ℕ) (places rest : List ℕ)
    → cut_lines (map (hex_digit_at word) places ++ 10 ∷ rest)
    ≡ map (hex_digit_at word) places ∷ cut_lines rest
cut_lines-digits word [] rest = refl
cut_lines-digits word (place ∷ places) rest =
    simp (no_feed, is_digit, (cut_lines-digits word places rest))

cut_lines-word : (word : ℕ) (rest : List ℕ)
    → cut_lines (hex_word_of word ++ 10 ∷ rest) ≡ hex_word_of word ∷ cut_lines rest
unfolding hex_word_of
cut_lines-word word rest = cut_lines-digits word (7 ∷ 6 ∷ 5 ∷ 4 ∷ 3 ∷ 2 ∷ 1 ∷ 0 ∷ []) rest

cut_lines-text : (words : List ℕ) → cut_lines (text_of_words words) ≡ map hex_word_of words
cut_lines-text [] = refl
cut_lines-text (word ∷ words) =
    ap cut_lines (append_assoc (hex_word_of word) (10 ∷ []) (text_of_words words))
    ∙ cut_lines-word word (text_of_words words)
    ∙ ap (λ ls. hex_word_of word ∷ ls) (cut_lines-text words)

pub record AreWords (words : List ℕ) : Type 0 where
  pub each : (k : ℕ) → get_or words k 0 < 2 ^ 32

AreWords-rest : (word : ℕ) (words : List ℕ) → AreWords (word ∷ words) → AreWords words
AreWords-rest word words are = record { each = λ k. are.each (suc k) }

read_each : (words : List ℕ) → AreWords words
    → filter_map word_of_line (map hex_word_of words) ≡ words
read_each [] are = refl
read_each (word ∷ words) are = ap
    (λ o. cons_option o (filter_map word_of_line (map hex_word_of words)))
    (word_of_line-printed word (are.each 0)) ∙ ap (λ ws. word ∷ ws)
    (read_each words (AreWords-rest word words are))

good_at : (words : List ℕ) → AreWords words → (k : ℕ) → k < length (map hex_word_of words)
    → is_bad (get_or (map hex_word_of words) k []) ≡ false
good_at [] are k below = absurd (omega (arith, below))
good_at (word ∷ words) are zero below =
    good_word (word_of_line (hex_word_of word)) word (word_of_line-printed word (are.each 0))
good_at (word ∷ words) are (suc k) below =
    good_at words (AreWords-rest word words are) k (omega (arith, below))

length-words : (words : List ℕ) → length (map hex_word_of words) ≡ length words
length-words [] = refl
length-words (word ∷ words) = ap (λ n. suc n) (length-words words)

pub words_of-text : (words : List ℕ) → AreWords words → length words ≤ 262144
    → words_of (text_of_words words) ≡ Ok words
unfolding words_of
words_of-text words are few =
    ap words_of_lines (cut_lines-text words) ∙ good_lines (map hex_word_of words)
    (record { each = good_at words are }) (omega (arith, few, length-words words)) ∙ ap Ok
    (read_each words are)

ascii_digits : (word : ℕ) (places rest : List ℕ) → IsAscii rest
    → IsAscii (map (hex_digit_at word) places ++ rest)
ascii_digits word [] rest ascii = ascii
ascii_digits word (place ∷ places) rest ascii =
    grind (arith, below_128, is_digit, (ascii_digits word places rest ascii))

ascii_word : (word : ℕ) (rest : List ℕ) → IsAscii rest → IsAscii (hex_word_of word ++ rest)
unfolding hex_word_of
ascii_word word rest ascii = ascii_digits word (7 ∷ 6 ∷ 5 ∷ 4 ∷ 3 ∷ 2 ∷ 1 ∷ 0 ∷ []) rest ascii

pub IsAscii-text : (words : List ℕ) → IsAscii (text_of_words words)
IsAscii-text [] = IsAscii-nil
IsAscii-text (word ∷ words) = rw (append_assoc (hex_word_of word) (10 ∷ []) (text_of_words words))
    (ascii_word word (10 ∷ text_of_words words)
    (IsAscii-cons 10 (text_of_words words) (omega arith) (IsAscii-text words)))
