-- The words of a line, one after another.
use Rattle.std.proofs.Common.{◌≡◌, ℕ, suc, ◌+◌, ◌-◌, ◌≤◌, Bool, true, false, List, [], ◌∷◌, length}
use Rattle.std.proofs.Common.{Option, Some, None, refl, sym, ap, ◌∙◌, arith, rules}
use Rattle.std.specs.Prelude.{◌==◌, ◌&&◌}
use Rattle.rvs_text.specs.Spaces.{without_spaces}
use Rattle.rvs_yaml_text.specs.Word.{dash}
use Rattle.rvs_yaml_text.specs.Scalar.{ends_indicator, is_blank}
use Rattle.rvs_yaml_text.specs.Text.{word_at, item_name, words_at, last_words}
use Rattle.rvs_yaml.specs.LineParts.{behind_dash, rest_words}

space-on : (b : ℕ) (bs : List ℕ) → (b == 32) ≡ true → without_spaces (b ∷ bs) ≡ without_spaces bs
space-on b bs e = rw (e, without_spaces) refl

space-stop : (b : ℕ) (bs : List ℕ) → (b == 32) ≡ false → without_spaces (b ∷ bs) ≡ b ∷ bs
space-stop b bs e = rw (e, without_spaces) refl

pub spaces-length : (bs : List ℕ) → length (without_spaces bs) ≤ length bs
spaces-length [] = omega arith
spaces-length (b ∷ bs) = grind (arith, space-on, space-stop, (spaces-length bs))

words-on : (line : ℕ) (item : Bool) (column b : ℕ) (bs : List ℕ) → (b == 32) ≡ true
    → words_at line item column (b ∷ bs) ≡ words_at line item (suc column) bs
words-on line item column b bs e = rw (e, words_at) refl

pub words-spaces : (line : ℕ) (item : Bool) (column : ℕ) (bs : List ℕ)
    → words_at line item column bs
    ≡ words_at line item (column + (length bs - length (without_spaces bs))) (without_spaces bs)
words-spaces line item column [] = refl
words-spaces line item column (b ∷ bs) =
    elim (b == 32) as (λ t. (b == 32) ≡ t → words_at line item column (b ∷ bs) ≡ words_at line item
    (column + (suc (length bs) - length (without_spaces (b ∷ bs)))) (without_spaces (b ∷ bs))) [
      | true ↦ λ e.
          let shift : suc column + (length bs - length (without_spaces bs))
          ≡ column + (suc (length bs) - length (without_spaces bs)) =
          omega (arith, spaces-length bs) in
          words-on line item column b bs e ∙ words-spaces line item (suc column) bs
          ∙ ap (λ n. words_at line item n (without_spaces bs)) shift
          ∙ sym (ap (λ ys. words_at line item (column + (suc (length bs) - length ys)) ys)
          (space-on b bs e))
      | false ↦ λ e.
          let still : column ≡ column + (suc (length bs) - suc (length bs)) = omega arith in
          ap (λ n. words_at line item n (b ∷ bs)) still ∙ sym (ap
          (λ ys. words_at line item (column + (suc (length bs) - length ys)) ys)
          (space-stop b bs e))
    ] refl

both : (x y : Bool) → (x && y) ≡ true → x ≡ true
both x y h = grind arith

pub words-dash : (line : ℕ) (item : Bool) (column : ℕ) (bs behind : List ℕ) → Some behind
    ≡ behind_dash bs → words_at line item column bs
    ≡ word_at line column (dash (item_name behind)) ∷ words_at line true (suc column) behind
words-dash line item column bs behind h = grind arith

rest-nothing : (line : ℕ) (item : Bool) (column : ℕ) → [] ≡ rest_words line item column []
rest-nothing line item column = grind arith

rest-at : (line : ℕ) (item : Bool) (column b : ℕ) (bs : List ℕ) → (b == 32) ≡ false
    → (b == 45 && ends_indicator bs) ≡ false
    → words_at line item column (b ∷ bs) ≡ rest_words line item column (b ∷ bs)
rest-at line item column b bs e k = rw (e, words_at) (rw (k, words_at) refl)

no_dash : (t : Bool) (bs : List ℕ)
    → None ≡ (elim t as (λ _. Option (List ℕ)) [ true ↦ Some bs | false ↦ None ]) → t ≡ false
no_dash t bs h = grind arith

solid-here : (b : ℕ) (bs : List ℕ) → without_spaces (b ∷ bs) ≡ b ∷ bs → (b == 32) ≡ false
solid-here b bs h =
    elim (b == 32) as (λ t. (b == 32) ≡ t → t ≡ false) [
      | true ↦ λ e. absurd (omega (arith, ap length (sym (space-on b bs e) ∙ h), spaces-length bs))
      | false ↦ λ e. refl
    ] refl

pub words-rest : (line : ℕ) (item : Bool) (column : ℕ) (bs : List ℕ) → None ≡ behind_dash bs
    → without_spaces bs ≡ bs → words_at line item column bs ≡ rest_words line item column bs
words-rest line item column bs h s = search (rules, rest-nothing, rest-at, solid-here, no_dash)

pub spaces-twice : (bs : List ℕ) → without_spaces (without_spaces bs) ≡ without_spaces bs
spaces-twice [] = refl
spaces-twice (b ∷ bs) = grind (arith, space-on, space-stop, (spaces-twice bs))

blank-on : (b : ℕ) (bs : List ℕ) → (b == 32) ≡ true → is_blank true (b ∷ bs) ≡ is_blank true bs
blank-on b bs e = grind arith

pub dash_not_blank : (b : ℕ) (bs : List ℕ) → (b == 45) ≡ true → is_blank true (b ∷ bs) ≡ false
dash_not_blank b bs e = grind arith

blank_no_dash : (b : ℕ) (bs : List ℕ) → is_blank true (b ∷ bs) ≡ true
    → (b == 45 && ends_indicator bs) ≡ false
blank_no_dash b bs h = grind (arith, dash_not_blank)

blank-at : (line column b : ℕ) (bs : List ℕ) → (b == 32) ≡ false
    → (b == 45 && ends_indicator bs) ≡ false → is_blank true (b ∷ bs) ≡ true
    → words_at line false column (b ∷ bs) ≡ []
blank-at line column b bs e k h = rw (e, words_at) (rw (k, words_at) (rw (h, last_words) refl))

-- a blank line has no words
pub words-blank : (line column : ℕ) (bs : List ℕ) → is_blank true bs ≡ true
    → words_at line false column bs ≡ []
words-blank line column [] h = refl
words-blank line column (b ∷ bs) h =
    elim (b == 32) as (λ t. (b == 32) ≡ t → words_at line false column (b ∷ bs) ≡ []) [
      | true ↦ λ e. words-on line false column b bs e
          ∙ words-blank line (suc column) bs (sym (blank-on b bs e) ∙ h)
      | false ↦ λ e. blank-at line column b bs e (blank_no_dash b bs h) h
    ] refl

dash-length : (bs behind : List ℕ) → Some behind ≡ behind_dash bs → length bs ≡ suc (length behind)
dash-length bs behind h = grind arith

-- a dash, and the words behind it from the next character that is no space
pub words-next : (line : ℕ) (item : Bool) (n : ℕ) (bs behind : List ℕ)
    → Some behind ≡ behind_dash bs → length bs ≤ n →
    words_at line item (n - length bs) bs ≡ word_at line (n - length bs) (dash (item_name behind))
    ∷ words_at line true (n - length (without_spaces behind)) (without_spaces behind)
words-next line item n bs behind h small =
    let shift : suc (n - length bs) + (length behind - length (without_spaces behind))
    ≡ n - length (without_spaces behind) =
    omega (arith, dash-length bs behind h, spaces-length behind) in
    words-dash line item (n - length bs) bs behind h
    ∙ ap (λ ws. word_at line (n - length bs) (dash (item_name behind)) ∷ ws)
    (words-spaces line true (suc (n - length bs)) behind
    ∙ ap (λ k. words_at line true k (without_spaces behind)) shift)

pub words-first : (line : ℕ) (bs : List ℕ) → words_at line false 0 bs
    ≡ words_at line false (length bs - length (without_spaces bs)) (without_spaces bs)
words-first line bs = grind (arith, words-spaces)
