-- The kinds of refusals, numbered, and what fault lines say of a refusal.
use Rattle.std.specs.Prelude.{ℕ, List, [], ◌++◌, codes, decimal}
use Rattle.std.specs.Fmt.{signed_decimal}
use Rattle.rvs_asm.specs.declared.refusal.AsmKind.{AsmKind}
use Rattle.rvs_asm.specs.declared.refusal.AsmKind.TheVariants.{BadLine, UnknownInstruction}
use Rattle.rvs_asm.specs.declared.refusal.AsmKind.TheVariants.{BadOperand, OutOfRange}
use Rattle.rvs_asm.specs.declared.refusal.AsmKind.TheVariants.{UnknownSymbol, DoubleSymbol}
use Rattle.rvs_asm.specs.declared.refusal.AsmKind.TheVariants.{MisalignedCode, TextFull, DataFull}
use Rattle.rvs_asm.specs.declared.refusal.AsmKind.TheVariants.{MissingSymbol, NotInIsa, BadRegion}
use Rattle.rvs_asm.specs.declared.refusal.AsmRefusal.{AsmRefusal}

abbrev pub kind_number : AsmKind → ℕ
kind_number BadLine = 1
kind_number UnknownInstruction = 2
kind_number BadOperand = 3
kind_number (OutOfRange z) = 4
kind_number UnknownSymbol = 5
kind_number DoubleSymbol = 6
kind_number MisalignedCode = 7
kind_number TextFull = 8
kind_number DataFull = 9
kind_number (MissingSymbol name) = 10
kind_number NotInIsa = 11
kind_number BadRegion = 12

-- the number that is out of its range, or the symbol that is missing
abbrev pub detail : AsmKind → List ℕ
detail (OutOfRange value) = codes " value " ++ signed_decimal value
detail (MissingSymbol name) = codes " name " ++ name
detail kind = []

-- the number of the kind, the line, and what the kind names
abbrev pub refusal_text : AsmRefusal → List ℕ
refusal_text refusal = codes "asm " ++ (decimal (kind_number refusal.kind)
    ++ (codes " line " ++ (decimal refusal.line ++ detail refusal.kind)))
