-- One line whose symbol no line has had yet.
use Rattle.std.specs.Prelude.{◌≡◌, ℕ, ◌+◌, List, [], ◌∷◌, None, codes}
use Rattle.rvs_insn.specs.Isa.{Isa}
use Rattle.rvs_insn.specs.Memory.{Memory, HasRoom}
use Rattle.rvs_asm.specs.declared.mend.MendForm.TheVariants.{Branch}
use Rattle.rvs_asm.specs.Symbols.{find_mark}
use Rattle.rvs_asm.specs.Begun.{AreBegun, text_begun, places_begun, symbols_begun}

-- a branch to a line that is still to come
abbrev pub branch_alone : List (List ℕ)
branch_alone = codes "beq x0, x0, far" ∷ []

-- no core refuses it
abbrev pub BranchIsBegun : Type 0
BranchIsBegun = (isa : Isa) → HasRoom isa.memory → AreBegun isa branch_alone

-- its word has the distance 0
abbrev pub BranchIsMade : Type 0
BranchIsMade = (memory : Memory) → text_begun memory branch_alone ≡ 0x63 ∷ 0 ∷ 0 ∷ 0 ∷ []

-- its place waits for the symbol, which has no address
abbrev pub BranchWaits : Type 0
BranchWaits = (memory : Memory) → places_begun memory branch_alone
    ≡ record { line = 1; at = memory.text_base + 0; symbol = codes "far"; form = Branch } ∷ []

abbrev pub TargetIsMissing : Type 0
TargetIsMissing = (memory : Memory) → find_mark (symbols_begun memory branch_alone) (codes "far")
    ≡ None
