-- How the search for the instruction of a place goes.
use Rattle.std.specs.Prelude.{ℕ, Bool, true, false, not, ◌||◌, List, [], Option}
use Rattle.rvs_cross.specs.Variables.{same_field}
use Rattle.std.specs.List.{list_all}
use Rattle.rvs_insn.specs.declared.op.Op.{Op}
use Rattle.rvs_insn.specs.Isa.{Isa}
use Rattle.rvs_insn.specs.Names.{is_admitted_op}
use Rattle.rvs_insn.specs.Fields.{Fields}
use Rattle.rvs_cross.specs.declared.cross.Field.{Field}
use Rattle.rvs_cross.specs.declared.cross.Assignment.{Assignment}
use Rattle.rvs_cross.specs.Windows.{Values, value_of, same_register}
use Rattle.rvs_sequences.specs.Sequences.{insns_of}

-- an assignment doesn't exclude the register from the field
abbrev pub allows_one : Values → Field → Option ℕ → Assignment → Bool
allows_one v f r s = not (same_field f s.field) || same_register (value_of v s.variable) r

abbrev pub allows : Values → List Assignment → Field → Option ℕ → Bool
allows v sets f r = list_all (allows_one v f r) sets

-- the instructions of a mnemonic that the core admits
abbrev pub insns_if : Bool → Op → List Fields
insns_if true op = insns_of op
insns_if false op = []

abbrev pub admitted_insns : Isa → Op → List Fields
admitted_insns spec op = insns_if (is_admitted_op spec op) op
