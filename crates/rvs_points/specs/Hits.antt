-- When an instruction hits a point.
use Rattle.std.specs.Prelude.{ℕ, ◌==◌, Bool, false, ◌&&◌, List, Option, Some, None}
use Rattle.std.specs.List.{list_any}
use Rattle.rvs_insn.specs.declared.op.Op.{Op}
use Rattle.rvs_expr_text.specs.declared.lexeme.RegName.TheVariants as register
use Rattle.rvs_expr.specs.Meaning as expr
use Rattle.rvs_expr.specs.Meaning.{Table}
use Rattle.rvs_facts.specs.Mnemonics.{is_same}
use Rattle.rvs_points.specs.Points.{Meaning, op_is, reg_is, regs, nums, window, Point}
use Rattle.rvs_points.specs.declared.group.Kind.{Kind}
use Rattle.rvs_points.specs.declared.group.Kind.TheVariants as kind

-- the field that a point of registers is a point of
abbrev pub field_of : Kind → Table → Option ℕ
field_of kind.Rs1 facts = facts.reg register.Rs1
field_of kind.Rs2 facts = facts.reg register.Rs2
field_of kind.Rd facts = facts.reg register.Rd
field_of _ facts = None

-- there, and this register
abbrev pub is_register : ℕ → Option ℕ → Bool
is_register number None = false
is_register number (Some field) = field == number

-- an instruction of this mnemonic and with these facts is what the point means: its mnemonic is the
-- key, or its field, or the expression is defined and true; no instruction alone is what a cross
-- point means
abbrev pub is_meant : Kind → Meaning → Op → Table → Bool
is_meant k (op_is mnemonic) op facts = is_same mnemonic op
is_meant k (reg_is number) op facts = is_register number (field_of k facts)
is_meant k (regs f) op facts = expr.holds facts f
is_meant k (nums f) op facts = expr.holds facts f
is_meant k (window ps) op facts = false

-- what the point means
abbrev pub holds : Point → Op → Table → Bool
holds p op facts = is_meant p.kind p.meaning op facts

-- the evaluations of expressions that it takes to see that
abbrev pub steps_of : Meaning → ℕ
steps_of (op_is mnemonic) = 0
steps_of (reg_is number) = 0
steps_of (regs f) = 1
steps_of (nums f) = 1
steps_of (window ps) = 0

-- the mnemonic is one of the label's
abbrev pub has_op : List Op → Op → Bool
has_op ops op = list_any (is_same op) ops

-- an instruction hits a point of a label with these mnemonics
abbrev pub hits : List Op → Point → Op → Table → Bool
hits ops p op facts = has_op ops op && holds p op facts
