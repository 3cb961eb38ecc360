-- The register misa.
use Rattle.std.specs.Prelude.{ℕ, ◌+◌, ◌^◌, if◌then◌else◌}
use Rattle.rvs_insn.specs.Isa.{Isa}

-- MXL is 1, for 32 bits, and a letter's bit is its place in the alphabet
abbrev pub misa_word : Isa → ℕ
misa_word spec =
    0x40000000 + (if spec.e then 2 ^ 4 else 2 ^ 8) + (if spec.m then 2 ^ 12 else 0)
    + (if spec.a then 2 ^ 0 else 0)
