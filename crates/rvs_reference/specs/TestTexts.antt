-- Why a test is refused, and the line of a run.
use Rattle.std.specs.Prelude.{ℕ, List, [], ◌++◌, codes, decimal}
use Rattle.rvs_base.specs.Number.{hex_word_of}
use Rattle.rvs_machine.specs.TrapNumbers.{trap_number}
use Rattle.rvs_machine.specs.declared.event.Trap.{Trap}
use Rattle.rvs_machine.specs.declared.event.TrapKind.{TrapKind}
use Rattle.rvs_machine.specs.declared.event.TrapKind.TheVariants.{Illegal, MisalignedTarget}
use Rattle.rvs_machine.specs.declared.event.TrapKind.TheVariants.{MisalignedAccess, AccessFault}
use Rattle.rvs_machine.specs.declared.event.TrapKind.TheVariants.{Ecall, Ebreak}

-- the word that isn't an instruction of the core, or the address that can't be reached
abbrev pub trap_detail : TrapKind → List ℕ
trap_detail (Illegal word) = codes " 0x" ++ hex_word_of word
trap_detail (MisalignedTarget target) = codes " 0x" ++ hex_word_of target
trap_detail (MisalignedAccess addr) = codes " 0x" ++ hex_word_of addr
trap_detail (AccessFault addr) = codes " 0x" ++ hex_word_of addr
trap_detail Ecall = []
trap_detail Ebreak = []

-- the instruction of the named test that wasn't executed: the number of the cause, its address, and
-- the word or address at fault
unfoldable pub trap_text : List ℕ → Trap → List ℕ
trap_text name trap = name ++ (codes ": trap " ++ (decimal (trap_number trap.kind)
    ++ (codes " pc 0x" ++ (hex_word_of trap.pc ++ trap_detail trap.kind))))

-- the named test doesn't halt within so many instructions
unfoldable pub steps_text : List ℕ → ℕ → List ℕ
steps_text name limit = name ++ (codes ": steps " ++ decimal limit)

-- so many instructions were executed, and the signature has so many words
unfoldable pub ran_line : ℕ → ℕ → List ℕ
ran_line instructions words =
    decimal instructions ++ (codes " instructions, " ++ (decimal words ++ codes " words\n"))
