-- The name of an instruction set.
use Rattle.std.specs.Prelude.{ℕ, Bool, true, false, List, [], ◌++◌, if◌then◌else◌, codes}
use Rattle.rvs_insn.specs.Isa.{Isa}

-- the extensions of more than one letter, joined by _
abbrev pub long_names : Bool → Bool → List ℕ
long_names false false = []
long_names true false = codes "Zicsr"
long_names false true = codes "Zifencei"
long_names true true = codes "Zicsr_Zifencei"

-- RV32, the base, the letters M and A, and the long names
abbrev pub isa_name : Isa → List ℕ
isa_name s =
    codes "RV32" ++ ((if s.e then codes "E" else codes "I")
    ++ ((if s.m then codes "M" else [])
    ++ ((if s.a then codes "A" else []) ++ long_names s.zicsr s.zifencei)))
