-- The words of the languages of expressions.
use Rattle.std.proofs.Common.{◌≡◌, ℕ, Bool, true, false, List, [], Option, Some, None, is_some}
use Rattle.std.proofs.Common.{sym, ap, ◌∙◌, arith}
use Rattle.std.specs.Prelude.{◌||◌, if◌then◌else◌, option_map}
use Rattle.std.specs.Option.{option_or}
use Rattle.rvs_expr_text.specs.declared.lexeme.RegName.TheVariants.{Rd, Rs1, Rs2}
use Rattle.rvs_expr_text.specs.declared.lexeme.Word.{Word}
use Rattle.rvs_expr_text.specs.declared.lexeme.Word.TheVariants.{Register, Fixed}
use Rattle.rvs_expr_text.specs.declared.words.Language.TheVariants.{Registers}
use Rattle.rvs_expr_text.specs.Words.{own_or_foreign, field_word, number_word}
use Rattle.rvs_expr_text.specs.Words.{word_of}
use Rattle.rvs_cross.specs.Entries.{is_known}

-- a word of registers, by the tests that it begins with
abbrev pub field_by : Bool → Bool → Bool → Option ℕ → Option Word
field_by a b c n = if a then Some (Register Rd) else (if b then Some (Register Rs1)
    else (if c then Some (Register Rs2) else option_map Fixed n))

known_by : (a b c : Bool) (n : Option ℕ) (o : Option Word)
    → is_known (own_or_foreign (option_or (field_by a b c n) None) o)
    ≡ (is_some (field_by a b c n) || is_some o)
known_by a b c n o = grind arith

known : (name : List ℕ) → is_known (word_of Registers [] name)
    ≡ (is_some (field_word name) || is_some (number_word name))
known name = simp known_by

pub known_field : (name : List ℕ) → is_some (field_word name) ≡ true
    → true ≡ is_known (word_of Registers [] name)
known_field name h = sym (known name ∙ ap (λ b. b || is_some (number_word name)) h)

pub known_other : (name : List ℕ) → is_some (field_word name) ≡ false
    → is_some (number_word name) ≡ is_known (word_of Registers [] name)
known_other name h = sym (known name ∙ ap (λ b. b || is_some (number_word name)) h)
