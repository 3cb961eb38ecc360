-- What a key says under its kind.
use Rattle.std.specs.Prelude.{ℕ, Bool, true, if◌then◌else◌, List, [], Option, Some, None, Ok, Err}
use Rattle.rvs_insn.specs.Isa.{Isa}
use Rattle.rvs_insn.specs.Names.{op_of_name, is_admitted_op}
use Rattle.rvs_insn.specs.declared.op.Op.{Op}
use Rattle.rvs_expr_text.specs.declared.words.Language.{Language}
use Rattle.rvs_expr_text.specs.declared.words.Language.TheVariants.{Numbers, Registers}
use Rattle.rvs_expr_text.specs.Refusal as expr
use Rattle.rvs_expr_text.specs.Words.{register_number}
use Rattle.rvs_expr.specs.Typed.{Formula}
use Rattle.rvs_expr.specs.Parse.{parse}
use Rattle.rvs_cross.specs.Cross as cross
use Rattle.rvs_cross.specs.Parse as crosses
use Rattle.rvs_points.specs.Keys.{is_skipped}
use Rattle.rvs_points.specs.declared.group.Kind.{Kind}
use Rattle.rvs_points.specs.declared.group.Kind.TheVariants as kind
use Rattle.rvs_points.specs.declared.refusal.CgfKind.{CgfKind}
use Rattle.rvs_points.specs.declared.refusal.CgfKind.TheVariants as fault

-- what a point means: a mnemonic, a register, an expression over registers or over numbers, or the
-- places of neighbouring instructions
pub data Meaning : Type 0 where
  op_is : Op → Meaning
  reg_is : ℕ → Meaning
  regs : Formula → Meaning
  nums : Formula → Meaning
  window : List cross.Place → Meaning

-- a meaning, nothing (its entry is listed as skipped), or why the key is refused
pub data Said : Type 0 where
  means : Meaning → Said
  nothing : Said
  wrong : CgfKind → Said

-- a mnemonic of the table
abbrev pub of_op : Option Op → Said
of_op None = wrong fault.UnknownMnemonic
of_op (Some op) = means (op_is op)

-- a register by its number
abbrev pub of_register : Option ℕ → Said
of_register None = wrong fault.BadRegister
of_register (Some r) = means (reg_is r)

-- an expression that was parsed
abbrev pub of_formula : (Formula → Meaning) → expr.Found Formula → Said
of_formula mean (Ok f) = means (mean f)
of_formula mean (Err e) = wrong (fault.BadExpr e)

-- an expression, unless it has an operator or a call that isn't read
abbrev pub of_expression : (Formula → Meaning) → Language → List ℕ → Said
of_expression mean language key =
    if is_skipped key then nothing else of_formula mean (parse language [] key)

-- a cross point that was parsed
abbrev pub of_cross : crosses.Found → Said
of_cross (Ok (crosses.read ps)) = means (window ps)
of_cross (Ok crosses.skipped) = nothing
of_cross (Err e) = wrong (fault.BadCross e)

-- what a key says under its kind
abbrev pub says : Kind → List ℕ → Said
says kind.Mnemonic key = of_op (op_of_name key)
says kind.Rs1 key = of_register (register_number key)
says kind.Rs2 key = of_register (register_number key)
says kind.Rd key = of_register (register_number key)
says kind.OpComb key = of_expression regs Registers key
says kind.ValComb key = of_expression nums Numbers key
says kind.CrossComb key = of_cross (crosses.parse key)

-- a core admits the mnemonic that a meaning is of
abbrev pub admits : Isa → Meaning → Bool
admits isa (op_is op) = is_admitted_op isa op
admits isa _ = true
