-- The cross point that a text is, its first fault, or that it names a class of instructions.
use Rattle.std.specs.Prelude.{ℕ, ◌-◌, ◌==◌, ◌&&◌, nat_lt, not, Bool, if◌then◌else◌, List}
use Rattle.std.specs.Prelude.{[], ◌∷◌, take, drop, length, Option, Some, None, Result, Ok, Err}
use Rattle.std.specs.Prelude.{bytes_eq, codes}
use Rattle.std.specs.List.{list_any, list_all}
use Rattle.rvs_expr_text.specs.declared.refusal.ExprKind.{ExprKind}
use Rattle.rvs_expr_text.specs.declared.refusal.ExprKind.TheVariants.{UnknownName}
use Rattle.rvs_expr_text.specs.declared.refusal.ExprRefusal.{ExprRefusal}
use Rattle.rvs_expr_text.specs.declared.words.Language.TheVariants.{Registers}
use Rattle.rvs_expr.specs.Typed.{Formula}
use Rattle.rvs_expr.specs.Parse as expr
use Rattle.rvs_text.specs.Bytes.{name_length}
use Rattle.rvs_text.specs.Spaces.{trimmed}
use Rattle.rvs_cross.specs.Cross.{Place}
use Rattle.rvs_cross.specs.CrossView.{cross_view}
use Rattle.rvs_cross.specs.declared.refusal.CrossRead.{CrossRead}
use Rattle.rvs_cross.specs.declared.refusal.CrossRead.TheVariants as code
use Rattle.rvs_cross.specs.declared.refusal.CrossRefusal.{CrossRefusal}
use Rattle.rvs_cross.specs.declared.refusal.CrossRefusal.TheVariants.{BadList, LengthsDiffer}
use Rattle.rvs_cross.specs.declared.refusal.CrossRefusal.TheVariants.{TooManyPlaces}
use Rattle.rvs_cross.specs.declared.refusal.CrossRefusal.TheVariants.{UnassignedVariable}
use Rattle.rvs_cross.specs.declared.refusal.CrossRefusal.TheVariants.{UnknownMnemonic, Expr}
use Rattle.rvs_text.specs.Outcomes.{◌>>=◌}
use Rattle.rvs_cross.specs.Outcomes.{Outcome}
use Rattle.rvs_base.specs.Answers.{AnswersWith}
use Rattle.rvs_base.specs.declared.fault.Fault.{Fault}
use Rattle.rvs_cross.specs.Lists.{Lists, lists, entries}
use Rattle.rvs_cross.specs.Entries.{lists_ops, lists_sets, has_class, first_unknown, ops}
use Rattle.rvs_cross.specs.Variables.{variables, sets}

pub data CrossText : Type 0 where
  read : List Place → CrossText
  -- it names a class of instructions
  skipped : CrossText

abbrev pub Found : Type 0
Found = Result CrossText CrossRefusal

abbrev pub answer_view : CrossRead → CrossText
answer_view (code.Read c) = read (cross_view c)
answer_view code.Skipped = skipped

-- a call's answer is what reading comes to, or want of memory
abbrev pub Answers : Result CrossRead (Fault CrossRefusal) → Found → Type 0
Answers result found = AnswersWith answer_view result found

-- ---- conditions
-- the name at a column
abbrev pub name_at : ℕ → List ℕ → List ℕ
name_at column text = take (name_length (drop (column - 1) text)) (drop (column - 1) text)

abbrev pub refusal_of : List ℕ → ExprRefusal → ExprKind → CrossRefusal
refusal_of text why UnknownName = UnassignedVariable (name_at why.column text)
refusal_of text why _ = Expr why

abbrev pub kept : List ℕ → Result Formula ExprRefusal → Outcome (Option Formula)
kept text (Ok f) = Ok (Some f)
kept text (Err why) = Err (refusal_of text why why.kind)

abbrev pub condition : List (List ℕ) → List ℕ → Outcome (Option Formula)
condition vars text =
    if bytes_eq text (codes "?") then Ok None
    else kept text (expr.parse Registers vars text)

-- ---- places
abbrev pub place : List (List ℕ) → List ℕ → List ℕ → List ℕ → Outcome Place
place vars a b c =
    condition vars (trimmed c)
    >>= (λ f. Ok (record { ops = ops a; sets = sets vars b; condition = f }))

-- one place for each entry of the three lists
abbrev pub places :
    List (List ℕ) → List (List ℕ) → List (List ℕ) → List (List ℕ) → Outcome (List Place)
places vars (a ∷ xs) (b ∷ ys) (c ∷ zs) =
    place vars a b c >>= (λ p. places vars xs ys zs >>= (λ ps. Ok (p ∷ ps)))
places vars _ _ _ = Ok []

-- ---- the checks, in their order
abbrev pub is_shaped : Lists → Bool
is_shaped l =
    list_all lists_ops (entries l.mnemonics) && list_all lists_sets (entries l.assignments)

abbrev pub same_lengths : Lists → Bool
same_lengths l =
    length (entries l.assignments) == length (entries l.mnemonics)
    && length (entries l.conditions) == length (entries l.mnemonics)

-- what the entries of the three lists come to, by their variables
abbrev pub with_variables : List (List ℕ) → List (List ℕ) → List (List ℕ) → List (List ℕ) → Found
with_variables a b c vars = places vars a b c >>= (λ ps. Ok (read ps))

-- the same, where each mnemonic is known
abbrev pub with_known : List (List ℕ) → List (List ℕ) → List (List ℕ) → Found
with_known a b c = variables b >>= with_variables a b c

-- what the lists come to, by the first mnemonic that isn't known
abbrev pub with_unknown : Lists → Option (List ℕ) → Found
with_unknown l (Some part) = Err (UnknownMnemonic (trimmed part))
with_unknown l None =
    with_known (entries l.mnemonics) (entries l.assignments) (entries l.conditions)

abbrev pub with_names : Lists → Found
with_names l = with_unknown l (first_unknown (entries l.mnemonics))

abbrev pub checked : Lists → Found
checked l =
    if not (is_shaped l) then Err BadList
    else (if not (same_lengths l) then Err LengthsDiffer
    else (if nat_lt 6 (length (entries l.mnemonics)) then Err TooManyPlaces
    else (if list_any has_class (entries l.mnemonics) then Ok skipped else with_names l)))

abbrev pub with_lists : Option Lists → Found
with_lists None = Err BadList
with_lists (Some l) = checked l

unfoldable pub parse : List ℕ → Found
parse text = with_lists (lists text)
