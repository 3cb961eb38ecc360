-- Any name without `=` is told from what is joined to it.
use Rattle.std.proofs.Common.{◌≡◌, ℕ, ◌+◌, Bool, true, false, cond, List, [], ◌∷◌, ◌++◌}
use Rattle.std.proofs.Common.{take, refl, ap, ◌∙◌, arith, codes, Option, Some}
use Rattle.std.proofs.Common.{drop_of_length-le}
use Rattle.std.proofs.lemmas.Slice.Eq.{bytes_eq-Decides}
use Rattle.std.specs.List.{list_any, position_or_len, before_first}
use Rattle.rvs_words.specs.Words.{is_equals_sign, is_flag, pair_of}
use Rattle.rvs_words.specs.CommandLaws.{OptionsArePairs, FlagsArePairs}
use Rattle.rvs_words.specs.declared.words.Pair.{Pair}
use Rattle.rvs_words.proofs.FirstCuts.{first-at, none-at, take-front, drop-front}
use Rattle.rvs_words.proofs.OptionPairs.{IsName, option_read, one-word}

-- a word with `=` isn't the option that has no value
has-equals : (name more : List ℕ) → list_any is_equals_sign (name ++ 61 ∷ more) ≡ true
has-equals [] more = refl
has-equals (byte ∷ name) more = grind (arith, (has-equals name more))

not-flag : (word : List ℕ) → list_any is_equals_sign word ≡ true → is_flag word ≡ false
not-flag word has = grind (arith, bytes_eq-Decides, codes)

no-flag : (word : List ℕ) → Option Pair → Bool → Option Pair
no-flag word other b = cond b (Some (record { name = word; value = [] })) other

is-name : (name : List ℕ) → list_any is_equals_sign name ≡ false → is_flag name ≡ false
    → IsName name
unfolding no-flag
is-name name none plain = record {
  alone =
      let end = none-at is_equals_sign name none in
      ap (no-flag name _) plain
      ∙ ap (pair_of (before_first is_equals_sign name)) (drop_of_length-le name (omega arith));
  joined = λ byte text.
      let at = first-at is_equals_sign name 61 (byte ∷ text) none refl in
      let before =
      ap (λ n. take n (name ++ 61 ∷ byte ∷ text)) at ∙ take-front name (61 ∷ byte ∷ text) in
      let after = drop-front name 61 (byte ∷ text)
      (position_or_len is_equals_sign (name ++ 61 ∷ byte ∷ text) + 1) (ap (λ n. n + 1) at) in
      ap (no-flag (name ++ 61 ∷ byte ∷ text) _)
      (not-flag (name ++ 61 ∷ byte ∷ text) (has-equals name (byte ∷ text)))
      ∙ (λ k. pair_of (before k) (after k));
  same = (bytes_eq-Decides name name).1 refl;
}

pub options_are_pairs : OptionsArePairs
options_are_pairs name value words pairs none plain stands e =
    option_read name (is-name name none plain) value words pairs stands e

pub flags_are_pairs : FlagsArePairs
flags_are_pairs words pairs e = one-word (codes "--progress") _ words pairs refl e
