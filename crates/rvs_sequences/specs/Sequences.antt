-- The instructions that solve a cross point.
use Rattle.std.specs.Prelude.{◌≡◌, ℕ, ◌*◌, ℤ, pos, true, List, [], ◌∷◌, map, filter, flat_map, find}
use Rattle.std.specs.Prelude.{length, sum_by, Option, Some, None, All, Contains}
use Rattle.std.specs.List.{range_with_len}
use Rattle.rvs_insn.specs.declared.op.Op.{Op}
use Rattle.rvs_insn.specs.declared.op.Format.{Format}
use Rattle.rvs_insn.specs.declared.op.Format.TheVariants.{R, I, Shift}
use Rattle.rvs_insn.specs.Isa.{Isa}
use Rattle.rvs_insn.specs.Table.{row, all_ops}
use Rattle.rvs_insn.specs.Names.{is_admitted_op}
use Rattle.rvs_insn.specs.Fields.{Fields}
use Rattle.rvs_cross.specs.Cross.{Place}
use Rattle.rvs_cross.specs.Windows.{Values, fits, matches, values_among}

-- x8 to x15
abbrev pub middle_registers : List ℕ
middle_registers = range_with_len 8 8

-- instructions of a mnemonic by rd, rs1 and rs2, each over a list
abbrev pub at_rs1 : Op → Option ℤ → List (Option ℕ) → Option ℕ → Option ℕ → List Fields
at_rs1 op imm rs2s d s =
    map (λ t. record { op = op; rd = d; rs1 = s; rs2 = t; imm = imm }) rs2s

abbrev pub at_rd : Op → Option ℤ → List (Option ℕ) → List (Option ℕ) → Option ℕ → List Fields
at_rd op imm rs1s rs2s d = flat_map (at_rs1 op imm rs2s d) rs1s

unfoldable pub over_registers : Op → Option ℤ → List (Option ℕ) → List (Option ℕ) → List (Option ℕ)
    → List Fields
over_registers op imm rds rs1s rs2s = flat_map (at_rd op imm rs1s rs2s) rds

abbrev pub middle : List (Option ℕ)
middle = map Some middle_registers

-- those that compute in registers, the immediate being 1 where there is one
abbrev pub in_format : Format → Op → List Fields
in_format R op = over_registers op None middle middle middle
in_format I op = over_registers op (Some (pos 1)) middle middle (None ∷ [])
in_format Shift op = over_registers op (Some (pos 1)) middle middle (None ∷ [])
in_format _ op = []

unfoldable pub insns_of : Op → List Fields
insns_of op = in_format (row op).form op

-- the mnemonics of a place, `?` being all in the table's order
unfoldable pub listed : Option (List Op) → List Op
listed None = all_ops
listed (Some ops) = ops

-- the instructions that a place may have, in their order
abbrev pub candidates : Isa → Place → List Fields
candidates spec p = flat_map insns_of (filter (is_admitted_op spec) (listed p.ops))

-- how many instructions all places may have
abbrev pub count_of : Isa → List Place → ℕ
count_of spec ps = sum_by (λ p. length (candidates spec p)) ps

-- the first that is what the place asks for
abbrev pub solution : Isa → Values → Place → Option Fields
solution spec v p = find (fits v p) (candidates spec p)

-- the first of each place, where each has one
abbrev pub onto : Option Fields → Option (List Fields) → Option (List Fields)
onto (Some i) (Some is) = Some (i ∷ is)
onto _ _ = None

abbrev pub solutions : Isa → Values → List Place → Option (List Fields)
solutions spec v [] = Some []
solutions spec v (p ∷ ps) = onto (solution spec v p) (solutions spec v ps)

-- the registers of the variables, in their order
abbrev pub assignments : List Place → List Values
assignments ps = values_among middle_registers ps

-- the first that there is
abbrev pub first_of : Option (List Fields) → Option (List Fields) → Option (List Fields)
first_of (Some is) other = Some is
first_of None other = other

abbrev pub first_solutions : Isa → List Place → List Values → Option (List Fields)
first_solutions spec ps [] = None
first_solutions spec ps (v ∷ vs) = first_of (solutions spec v ps) (first_solutions spec ps vs)

-- the instructions under the first registers for which every place has one
unfoldable pub first_sequence : Isa → List Place → Option (List Fields)
first_sequence spec ps = first_solutions spec ps (assignments ps)

-- how many evaluations of expressions it takes at most
unfoldable pub bound : Isa → List Place → ℕ
bound spec ps = length (assignments ps) * count_of spec ps

-- instructions that compute in x8 to x15, and that the core admits
pub record IsComputing (spec : Isa) (i : Fields) : Type 0 where
  pub admitted : is_admitted_op spec i.op ≡ true
  pub among : Contains (insns_of i.op) i

-- some such instructions match
pub record Solvable (spec : Isa) (ps : List Place) : Type 0 where
  pub insns : List Fields
  pub computing : All (IsComputing spec) insns
  pub matching : matches ps (map (λ i. Some i) insns) ≡ true
