-- The words of whole lines.
use Rattle.std.proofs.Common.{◌≡◌, ℕ, Bool, true, false, List, [], ◌∷◌, Ok, refl, sym, ap}
use Rattle.std.proofs.Common.{IsUtf8}
use Rattle.std.specs.Prelude.{◌==◌}
use Rattle.std.specs.Str.{is_utf8}
use Rattle.std.proofs.Common.{arith}
use Rattle.rvs_yaml_text.specs.Scalar.{is_blank}
use Rattle.rvs_yaml.specs.Front.{checked_front}
use Rattle.rvs_yaml.specs.Reader.{checked_line}
use Rattle.rvs_yaml.proofs.Lining.{words-blank, dash_not_blank}
use Rattle.std.proofs.lemmas.Str.{IsUtf8-from_is_utf8, is_utf8-from_IsUtf8}
use Rattle.rvs_yaml.specs.Checks.{Checked, ◌>>=◌}
use Rattle.rvs_yaml_text.specs.Word.{Word, refused}
use Rattle.rvs_yaml.specs.Stack.{Open, step, steps}
use Rattle.rvs_yaml.specs.Filling.{Flow, flow_of, hollow, filled}
use Rattle.rvs_yaml.proofs.Filling.{step-hollow}
use Rattle.rvs_yaml_text.specs.Text.{word_at, words_at, is_mark, line_words}
use Rattle.rvs_yaml_text.specs.declared.kind.YamlKind.TheVariants.{NotUtf8, Unsupported}

one-more : (m : Checked (List Open)) → m ≡ (m >>= λ cs. let r : Checked (List Open) = Ok cs in r)
one-more m = grind arith

pub steps-one : (bs : List Open) (w : Word) → step bs w ≡ steps bs (w ∷ [])
steps-one bs w = one-more (step bs w)

pub steps-next : (bs after : List Open) (w : Word) (ws : List Word) → step bs w ≡ Ok after
    → steps after ws ≡ steps bs (w ∷ ws)
steps-next bs after w ws e = sym (ap (λ m. m >>= λ cs. steps cs ws) e)

pub not_text : (bytes : List ℕ) → (IsUtf8 bytes → ⊥) → is_utf8 bytes ≡ false
not_text bytes h =
    elim (is_utf8 bytes) as (λ t. is_utf8 bytes ≡ t → t ≡ false) [
      | true ↦ λ e. absurd (h (IsUtf8-from_is_utf8 bytes e))
      | false ↦ λ e. refl
    ] refl

pub line-bad : (line : ℕ) (started : Bool) (bytes : List ℕ) → (IsUtf8 bytes → ⊥)
    → line_words line started bytes ≡ word_at line 0 (refused NotUtf8) ∷ []
line-bad line started bytes h = rw (not_text bytes h, line_words) refl

pub line-again : (line : ℕ) (started : Bool) (bytes : List ℕ) → IsUtf8 bytes
    → is_mark 45 bytes ≡ true → started ≡ true
    → line_words line started bytes ≡ word_at line 0 (refused Unsupported) ∷ []
line-again line started bytes t m s = grind (arith, is_utf8-from_IsUtf8)

pub line-start : (line : ℕ) (started : Bool) (bytes : List ℕ) → IsUtf8 bytes
    → is_mark 45 bytes ≡ true → started ≡ false → line_words line started bytes ≡ []
line-start line started bytes t m s = grind (arith, is_utf8-from_IsUtf8)

pub line-dots : (line : ℕ) (started : Bool) (bytes : List ℕ) → IsUtf8 bytes
    → is_mark 45 bytes ≡ false → is_mark 46 bytes ≡ true
    → line_words line started bytes ≡ word_at line 0 (refused Unsupported) ∷ []
line-dots line started bytes t m d = grind (arith, is_utf8-from_IsUtf8)

pub line-plain : (line : ℕ) (started : Bool) (bytes : List ℕ) → IsUtf8 bytes
    → is_mark 45 bytes ≡ false → is_mark 46 bytes ≡ false
    → line_words line started bytes ≡ words_at line false 0 bytes
line-plain line started bytes t m d = grind (arith, is_utf8-from_IsUtf8)

dots_not_blank : (b : ℕ) (bs : List ℕ) → (b == 46) ≡ true → is_blank true (b ∷ bs) ≡ false
dots_not_blank b bs e = grind arith

never : (m b : ℕ) (bs : List ℕ) → ((b == m) ≡ true → is_blank true (b ∷ bs) ≡ false)
    → is_blank true (b ∷ bs) ≡ true → (b == m) ≡ false
never m b bs f h = grind arith

blank_no_mark : (m : ℕ) (bytes : List ℕ)
    → ((b : ℕ) (bs : List ℕ) → (b == m) ≡ true → is_blank true (b ∷ bs) ≡ false)
    → is_blank true bytes ≡ true → is_mark m bytes ≡ false
blank_no_mark m bytes f h = grind arith

-- a blank line has no words
pub line-blank : (line : ℕ) (started : Bool) (bytes : List ℕ) → is_utf8 bytes ≡ true
    → is_blank true bytes ≡ true → line_words line started bytes ≡ []
line-blank line started bytes t h =
    grind (arith, line-plain, blank_no_mark, dash_not_blank, dots_not_blank, words-blank)

-- a line without words changes nothing
pub checked-nothing : (bs after : List Open) (line : ℕ) (started : Bool) (bytes : List ℕ)
    → line_words line started bytes ≡ [] → checked_front bs ≡ Ok tt
    → steps bs (line_words line started bytes) ≡ Ok after
    → checked_line bs line started bytes ≡ Ok after
checked-nothing bs after line started bytes none kept e = grind arith

-- a word alone, from what it is without its flow collection
pub word-parts : (bs : List Open) (w u : Word) (f : Flow) (ws : List Word) → ws ≡ w ∷ []
    → u ≡ hollow w → f ≡ flow_of w.shape → (step bs u >>= filled f) ≡ steps bs ws
word-parts bs w u f ws e h k = grind (arith, step-hollow, steps-one)
