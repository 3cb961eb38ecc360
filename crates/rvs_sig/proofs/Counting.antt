-- Lines that were read, all of them good.
use Rattle.std.proofs.Common.{◌≡◌, ℕ, ◌+◌, ◌<◌, ◌≤◌, suc, zero, cond, eqb, Bool, true, false, List}
use Rattle.std.proofs.Common.{[], ◌∷◌, ◌++◌, length, take, get_or, Option, Some, None, is_none, Ok}
use Rattle.std.proofs.Common.{Err, refl, sym, ap, ◌∙◌, arith, nat_lt, below_more, if◌then◌else◌}
use Rattle.std.specs.List.{position, position_or_len, filter_map}
use Rattle.std.proofs.lemmas.List.Elements.{filter_map-append}
use Rattle.std.proofs.lemmas.List.{append-nil, append_assoc, length-append, take_all, take_at}
use Rattle.std.proofs.lemmas.List.{get_or_append_left, get_or_at, length_push}
use Rattle.std.proofs.lemmas.List.Sums.{position_or_len_is}
use Rattle.std.proofs.lemmas.Bool.Decides.{nat_tests}
use Rattle.rvs_base.specs.Lines.{cut_lines, onto_first}
use Rattle.rvs_sig.specs.declared.words.SigRefusal.TheVariants.{BadLine, TooLong}
use Rattle.rvs_sig.specs.Words.{most_lines, word_of_line, first_bad}
use Rattle.rvs_sig.specs.Words.{words_of_lines, words_of}

abbrev pub is_bad : List ℕ → Bool
is_bad line = is_none (word_of_line line)

-- all of these lines have a word
pub record AreGood (lines : List (List ℕ)) : Type 0 where
  pub each : (k : ℕ) → k < length lines → is_bad (get_or lines k []) ≡ false

-- this many lines were read, and these are their words
pub record HasWords (bytes left : List ℕ) (line : ℕ) (words : List ℕ) : Type 0 where
  pub lines : List (List ℕ)
  pub split : cut_lines bytes ≡ lines ++ cut_lines left
  pub count : length lines ≡ line
  pub good : AreGood lines
  pub spelt : filter_map word_of_line lines ≡ words
  pub few : line ≤ 262144

pub good_word : (o : Option ℕ) (word : ℕ) → o ≡ Some word → is_none o ≡ false
good_word o word is = rw is refl

filter_map-push : (lines : List (List ℕ)) (line : List ℕ) (word : ℕ) → word_of_line line ≡ Some word
    → filter_map word_of_line (lines ++ line ∷ []) ≡ filter_map word_of_line lines ++ word ∷ []
filter_map-push lines line word is = grind (arith, filter_map-append)

AreGood-push : (lines : List (List ℕ)) (line : List ℕ) → AreGood lines → is_bad line ≡ false
    → AreGood (lines ++ line ∷ [])
AreGood-push lines line good last = record {
  each = λ k below.
      let within : k < length lines + 1 = omega (arith, below, length_push lines line) in
      below_more (λ n. is_bad (get_or (lines ++ line ∷ []) n []) ≡ false) (length lines)
      (λ n before. ap is_bad (get_or_append_left lines (line ∷ []) [] n before)
      ∙ good.each n before)
      (ap is_bad (get_or_at lines line [] [] (length lines) refl) ∙ last) k within;
}

pub HasWords-more : (bytes left next : List ℕ) (line : ℕ) (words first : List ℕ) (word : ℕ)
    → HasWords bytes left line words → cut_lines left ≡ first ∷ cut_lines next
    → word_of_line first ≡ Some word → line < 262144
    → HasWords bytes next (line + 1) (words ++ word ∷ [])
HasWords-more bytes left next line words first word has cut is few = record {
  lines = has.lines ++ first ∷ [];
  split = has.split ∙ ap (λ ls. has.lines ++ ls) cut
      ∙ sym (append_assoc has.lines (first ∷ []) (cut_lines next));
  count = length_push has.lines first ∙ ap (λ n. n + 1) has.count;
  good = AreGood-push has.lines first has.good (good_word (word_of_line first) word is);
  spelt = filter_map-push has.lines first word is ∙ ap (λ ws. ws ++ word ∷ []) has.spelt;
  few = omega (arith, few);
}

position_at : (lines : List (List ℕ)) (i : ℕ) → position_or_len is_bad lines ≡ i
    → position is_bad lines ≡ cond (nat_lt i (length lines)) (Some i) None
position_at lines i is = ap (λ n. cond (nat_lt n (length lines)) (Some n) None) is

not_below : (n : ℕ) → nat_lt n n ≡ false
not_below n = grind (arith, nat_tests)

none_bad : (lines : List (List ℕ)) → AreGood lines → first_bad lines ≡ None
none_bad lines good =
    let past = position_or_len_is is_bad lines (length lines) [] (omega arith) good.each
    (λ below. absurd (omega (arith, below))) in
    position_at lines (length lines) past
    ∙ ap (λ b. cond b (Some (length lines)) None) (not_below (length lines))

below : (m n : ℕ) → m < n → nat_lt m n ≡ true
below m n less = grind (arith, nat_tests)

few_enough : (n : ℕ) → n ≤ 262144 → nat_lt 262144 n ≡ false
few_enough n few = grind (arith, nat_tests)

too_many : (n : ℕ) → 262144 < n → nat_lt 262144 n ≡ true
too_many n many = grind (arith, nat_tests)

pub good_lines : (lines : List (List ℕ)) → AreGood lines → length lines ≤ 262144
    → words_of_lines lines ≡ Ok (filter_map word_of_line lines)
good_lines lines good few = simp (take_all, none_bad, few_enough)

pub words_of-read : (bytes : List ℕ) (line : ℕ) (words : List ℕ) → HasWords bytes [] line words
    → words_of bytes ≡ Ok words
unfolding words_of
words_of-read bytes line words has =
    let all : cut_lines bytes ≡ has.lines = has.split ∙ append-nil has.lines in
    ap words_of_lines all ∙ good_lines has.lines has.good (omega (arith, has.few, has.count))
    ∙ ap Ok has.spelt

some_of : (b : Bool) (byte : ℕ) (lines : List (List ℕ))
    → 0 < length (if b then [] ∷ lines else onto_first byte lines)
some_of b byte lines = grind arith

some_line : (left : List ℕ) → 0 < length left → 0 < length (cut_lines left)
some_line [] some = absurd (omega (arith, some))
some_line (byte ∷ bytes) some = some_of (eqb byte 10) byte (cut_lines bytes)

pub words_of-long : (bytes left : List ℕ) (words : List ℕ) → HasWords bytes left 262144 words
    → 0 < length left → words_of bytes ≡ Err TooLong
unfolding words_of
words_of-long bytes left words has some =
    let front : take most_lines (cut_lines bytes) ≡ has.lines =
    ap (take most_lines) has.split ∙ take_at has.lines (cut_lines left) 262144 has.count in
    let none : first_bad (take most_lines (cut_lines bytes)) ≡ None =
    ap first_bad front ∙ none_bad has.lines has.good in
    let long : 262144 < length (cut_lines bytes) = omega (
      arith,
      ap length has.split,
      length-append has.lines (cut_lines left),
      has.count,
      some_line left some,
    ) in
    rw (none, too_many (length (cut_lines bytes)) long) refl

bad_at : (good : List (List ℕ)) (line : List ℕ) (others : List (List ℕ)) → AreGood good
    → is_bad line ≡ true → first_bad (good ++ line ∷ others) ≡ Some (length good)
bad_at good line others goods bad =
    let lines = good ++ line ∷ others in
    let long : length good < length lines = omega (arith, length-append good (line ∷ others)) in
    let before : (k : ℕ) → k < length good → is_bad (get_or lines k []) ≡ false =
    λ k below. ap is_bad (get_or_append_left good (line ∷ others) [] k below)
    ∙ goods.each k below in
    let here : is_bad (get_or lines (length good) []) ≡ true =
    ap is_bad (get_or_at good line others [] (length good) refl) ∙ bad in
    let first =
    position_or_len_is is_bad lines (length good) [] (omega (arith, long)) before (λ _. here) in
    position_at lines (length good) first
    ∙ ap (λ b. cond b (Some (length good)) None) (below (length good) (length lines) long)

-- a front that holds the good lines and one more
front_with : (most : ℕ) (good : List (List ℕ)) (line : List ℕ) (others : List (List ℕ))
    → length good < most
    → (tail : List (List ℕ)) × (take most (good ++ line ∷ others) ≡ good ++ line ∷ tail)
front_with zero good line others few = absurd (omega (arith, few))
front_with (suc most) [] line others few = (take most others, refl)
front_with (suc most) (first ∷ good) line others few =
    grind (arith, (front_with most good line others (omega (arith, few))))

bad_word : (o : Option ℕ) → o ≡ None → is_none o ≡ true
bad_word o none = rw none refl

bad_lines : (lines good : List (List ℕ)) (line : List ℕ) (tail : List (List ℕ)) (n : ℕ)
    → take most_lines lines ≡ good ++ line ∷ tail → AreGood good → is_bad line ≡ true
    → length good ≡ n → words_of_lines lines ≡ Err (BadLine (n + 1))
bad_lines lines good line tail n is goods bad count = grind (arith, bad_at)

pub words_of-bad : (bytes left next : List ℕ) (line : ℕ) (words first : List ℕ)
    → HasWords bytes left line words → cut_lines left ≡ first ∷ cut_lines next
    → word_of_line first ≡ None → line < 262144 → words_of bytes ≡ Err (BadLine (line + 1))
unfolding words_of
words_of-bad bytes left next line words first has cut none few =
    let (tail, front) =
    front_with most_lines has.lines first (cut_lines next) (omega (arith, few, has.count)) in
    let split : cut_lines bytes ≡ has.lines ++ first ∷ cut_lines next =
    has.split ∙ ap (λ ls. has.lines ++ ls) cut in
    bad_lines (cut_lines bytes) has.lines first tail line (ap (take most_lines) split ∙ front)
    has.good (bad_word (word_of_line first) none) has.count
