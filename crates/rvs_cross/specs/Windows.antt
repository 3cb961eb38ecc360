-- When neighbouring instructions match a cross point.
use Rattle.std.specs.Prelude.{ℕ, ◌==◌, Bool, true, false, ◌&&◌, List, [], ◌∷◌, map, flat_map}
use Rattle.std.specs.Prelude.{Option, Some, None}
use Rattle.std.specs.List.{list_any, list_all, range_with_len}
use Rattle.rvs_insn.specs.declared.op.Op.{Op}
use Rattle.rvs_insn.specs.Fields.{Fields}
use Rattle.rvs_expr_text.specs.declared.lexeme.RegName.{RegName}
use Rattle.rvs_expr_text.specs.declared.lexeme.RegName.TheVariants.{Rd, Rs1, Rs2, Var0, Var1, Var2}
use Rattle.rvs_expr.specs.Typed.{Formula}
use Rattle.rvs_expr.specs.Meaning.{Table, holds}
use Rattle.rvs_facts.specs.Mnemonics.{is_same}
use Rattle.rvs_cross.specs.declared.cross.Variable.{Variable}
use Rattle.rvs_cross.specs.declared.cross.Variable.TheVariants as variable
use Rattle.rvs_cross.specs.declared.cross.Field.{Field}
use Rattle.rvs_cross.specs.declared.cross.Field.TheVariants as field
use Rattle.rvs_cross.specs.declared.cross.Assignment.{Assignment}
use Rattle.rvs_cross.specs.Cross.{Place}

-- the registers that the variables stand for; one that no place sets stands for none
pub record Values : Type 0 where
  pub first : Option ℕ
  pub second : Option ℕ
  pub third : Option ℕ

abbrev pub value_of : Values → Variable → Option ℕ
value_of v variable.First = v.first
value_of v variable.Second = v.second
value_of v variable.Third = v.third

-- the register in a field, where the instruction has that field
abbrev pub register_in : Fields → Field → Option ℕ
register_in i field.Rd = i.rd
register_in i field.Rs1 = i.rs1
register_in i field.Rs2 = i.rs2

-- what the names of an expression stand for
abbrev pub named : Values → Fields → RegName → Option ℕ
named v i Rd = i.rd
named v i Rs1 = i.rs1
named v i Rs2 = i.rs2
named v i Var0 = v.first
named v i Var1 = v.second
named v i Var2 = v.third

abbrev pub facts_with : Values → Fields → Table
facts_with v i = record { reg = named v i; num = λ _. None }

-- the mnemonic is listed; `?` lists all
abbrev pub is_listed : Option (List Op) → Op → Bool
is_listed None op = true
is_listed (Some ops) op = list_any (λ o. is_same o op) ops

-- both are there, and they are one
abbrev pub same_register : Option ℕ → Option ℕ → Bool
same_register (Some r) (Some s) = r == s
same_register _ _ = false

-- the variable is the register in the field
abbrev pub is_set : Values → Fields → Assignment → Bool
is_set v i s = same_register (value_of v s.variable) (register_in i s.field)

-- the expression is defined and true
abbrev pub meets : Values → Fields → Option Formula → Bool
meets v i None = true
meets v i (Some f) = holds (facts_with v i) f

-- an instruction is what a place asks for
abbrev pub fits : Values → Place → Fields → Bool
fits v p i = is_listed p.ops i.op && (list_all (is_set v i) p.sets && meets v i p.condition)

-- what doesn't decode is no instruction
abbrev pub fits_decoded : Values → Place → Option Fields → Bool
fits_decoded v p None = false
fits_decoded v p (Some i) = fits v p i

-- each is what its place asks for, and there are as many as places
abbrev pub all_fit : Values → List Place → List (Option Fields) → Bool
all_fit v [] [] = true
all_fit v (p ∷ ps) (i ∷ is) = fits_decoded v p i && all_fit v ps is
all_fit v _ _ = false

-- a place says something of the variable
abbrev pub same_variable : Variable → Variable → Bool
same_variable variable.First variable.First = true
same_variable variable.Second variable.Second = true
same_variable variable.Third variable.Third = true
same_variable _ _ = false

abbrev pub says_of : Variable → Place → Bool
says_of x p = list_any (λ (s : Assignment). same_variable x s.variable) p.sets

abbrev pub is_used : List Place → Variable → Bool
is_used ps x = list_any (says_of x) ps

-- what a variable may stand for among some registers
abbrev pub choices_for : List ℕ → Bool → List (Option ℕ)
choices_for registers true = map Some registers
choices_for registers false = None ∷ []

-- what the variables may stand for, each over a list, in their order
abbrev pub with_third : List (Option ℕ) → Option ℕ → Option ℕ → List Values
with_third thirds a b = map (λ c. record { first = a; second = b; third = c }) thirds

abbrev pub with_second : List (Option ℕ) → List (Option ℕ) → Option ℕ → List Values
with_second seconds thirds a = flat_map (with_third thirds a) seconds

unfoldable pub values_among : List ℕ → List Place → List Values
values_among registers ps =
    flat_map (with_second (choices_for registers (is_used ps variable.Second))
    (choices_for registers (is_used ps variable.Third)))
    (choices_for registers (is_used ps variable.First))

-- instructions match a cross point where some registers for its variables make each of them what
-- its place asks for
unfoldable pub matches : List Place → List (Option Fields) → Bool
matches ps is = list_any (λ v. all_fit v ps is) (values_among (range_with_len 0 32) ps)
