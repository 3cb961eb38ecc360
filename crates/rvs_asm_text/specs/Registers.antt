-- How a register is written: x0 to x31, or its name in the calling convention.
use Rattle.std.specs.Prelude.{ℕ, ◌==◌, Bool, false, Option, None, List, [], ◌∷◌, if◌then◌else◌}
use Rattle.std.specs.Prelude.{codes}
use Rattle.std.specs.Option.{option_map, option_or}
use Rattle.std.specs.List.{find}
use Rattle.std.specs.Str.{bytes_eq}
use Rattle.rvs_asm_text.specs.declared.registers.AbiName.{AbiName}
use Rattle.rvs_asm_text.specs.declared.registers.AbiName.TheVariants.{Zero, Ra, Sp, Gp, Tp, T0, T1}
use Rattle.rvs_asm_text.specs.declared.registers.AbiName.TheVariants.{T2, S0, Fp, S1, A0, A1, A2}
use Rattle.rvs_asm_text.specs.declared.registers.AbiName.TheVariants.{A3, A4, A5, A6, A7, S2, S3}
use Rattle.rvs_asm_text.specs.declared.registers.AbiName.TheVariants.{S4, S5, S6, S7, S8, S9, S10}
use Rattle.rvs_asm_text.specs.declared.registers.AbiName.TheVariants.{S11, T3, T4, T5, T6}
use Rattle.rvs_base.specs.Digits.{number_below}

-- the names of the calling convention, and the registers that they are
abbrev pub abi_name : AbiName → List ℕ
abi_name Zero = codes "zero"
abi_name Ra = codes "ra"
abi_name Sp = codes "sp"
abi_name Gp = codes "gp"
abi_name Tp = codes "tp"
abi_name T0 = codes "t0"
abi_name T1 = codes "t1"
abi_name T2 = codes "t2"
abi_name S0 = codes "s0"
abi_name Fp = codes "fp"
abi_name S1 = codes "s1"
abi_name A0 = codes "a0"
abi_name A1 = codes "a1"
abi_name A2 = codes "a2"
abi_name A3 = codes "a3"
abi_name A4 = codes "a4"
abi_name A5 = codes "a5"
abi_name A6 = codes "a6"
abi_name A7 = codes "a7"
abi_name S2 = codes "s2"
abi_name S3 = codes "s3"
abi_name S4 = codes "s4"
abi_name S5 = codes "s5"
abi_name S6 = codes "s6"
abi_name S7 = codes "s7"
abi_name S8 = codes "s8"
abi_name S9 = codes "s9"
abi_name S10 = codes "s10"
abi_name S11 = codes "s11"
abi_name T3 = codes "t3"
abi_name T4 = codes "t4"
abi_name T5 = codes "t5"
abi_name T6 = codes "t6"

abbrev pub abi_number : AbiName → ℕ
abi_number Zero = 0
abi_number Ra = 1
abi_number Sp = 2
abi_number Gp = 3
abi_number Tp = 4
abi_number T0 = 5
abi_number T1 = 6
abi_number T2 = 7
abi_number S0 = 8
abi_number Fp = 8
abi_number S1 = 9
abi_number A0 = 10
abi_number A1 = 11
abi_number A2 = 12
abi_number A3 = 13
abi_number A4 = 14
abi_number A5 = 15
abi_number A6 = 16
abi_number A7 = 17
abi_number S2 = 18
abi_number S3 = 19
abi_number S4 = 20
abi_number S5 = 21
abi_number S6 = 22
abi_number S7 = 23
abi_number S8 = 24
abi_number S9 = 25
abi_number S10 = 26
abi_number S11 = 27
abi_number T3 = 28
abi_number T4 = 29
abi_number T5 = 30
abi_number T6 = 31

abbrev pub abi_names : List AbiName
abi_names = Zero ∷ Ra ∷ Sp ∷ Gp ∷ Tp ∷ T0 ∷ T1 ∷ T2 ∷ S0 ∷ Fp ∷ S1 ∷ A0 ∷ A1 ∷ A2 ∷ A3 ∷ A4 ∷ A5
    ∷ A6 ∷ A7 ∷ S2 ∷ S3 ∷ S4 ∷ S5 ∷ S6 ∷ S7 ∷ S8 ∷ S9 ∷ S10 ∷ S11 ∷ T3 ∷ T4 ∷ T5 ∷ T6 ∷ []

-- the convention's name that a text is
unfoldable pub abi_of : List ℕ → Option AbiName
abi_of text = find (λ a. bytes_eq (abi_name a) text) abi_names

abbrev pub has_leading_zero : List ℕ → Bool
has_leading_zero (c ∷ d ∷ cs) = c == 48
has_leading_zero _ = false

-- 0 to 31, without leading zeros
abbrev pub register_digits : List ℕ → Option ℕ
register_digits text = if has_leading_zero text then None else number_below 32 10 text

-- the digits after an x
abbrev pub numbered : List ℕ → Option ℕ
numbered [] = None
numbered (c ∷ cs) = if c == 120 then register_digits cs else None

abbrev pub register_of : List ℕ → Option ℕ
register_of text = option_or (numbered text) (option_map abi_number (abi_of text))
