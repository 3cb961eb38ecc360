use Rattle.std.proofs.Common.{◌≡◌, ℕ, Bool, true, false, refl, arith}
use Rattle.std.specs.Prelude.{nat_le}
use Rattle.std.proofs.lemmas.Bool.{le-leb}
use Rattle.std.proofs.lemmas.Bool.Decides.{nat_tests}
use Rattle.rvs_insn.specs.Isa.{Isa}
use Rattle.rvs_insn.specs.Memory.{Memory, HasRoom, text_limit, data_limit}
use Rattle.rvs_insn.specs.Names.{op_of_name}
use Rattle.rvs_base.specs.Digits.{digits_of}
use Rattle.rvs_asm_text.specs.Text.{tokens}
use Rattle.rvs_asm_text.specs.Registers.{abi_of}
use Rattle.rvs_asm_text.specs.Directives.{directive_of}
use Rattle.rvs_asm_text.specs.Lines.{read_line}
use Rattle.rvs_asm.specs.Begun.{AreBegun}
use Rattle.rvs_asm.specs.Waiting.{branch_alone}
use Rattle.rvs_asm.proofs.laws.a_branch_waits_for_its_symbol.Goals as goal

abbrev core : Bool → Bool → Bool → Bool → Bool → Bool → ℕ → Memory → Isa
core e m a zicsr zifencei misaligned bits memory = record {
  e = e;
  m = m;
  a = a;
  zicsr = zicsr;
  zifencei = zifencei;
  misaligned = misaligned;
  address_bits = bits;
  memory = memory;
}

-- there is room for a word of text
room : (memory : Memory) → HasRoom memory → nat_le 4 (text_limit memory) ≡ true
room memory h =
    let e = h.text_page in
    let f = h.data_page in
    let n = h.apart in
    let l = h.text_low in
    le-leb 4 (text_limit memory) (grind (arith, nat_tests))

none : (n : ℕ) → nat_le 0 n ≡ true
none n = le-leb 0 n (omega arith)

begun : (e m a zicsr zifencei misaligned : Bool) (bits : ℕ) (memory : Memory)
    → nat_le 4 (text_limit memory) ≡ true
    → AreBegun (core e m a zicsr zifencei misaligned bits memory) branch_alone
unfolding digits_of tokens read_line op_of_name directive_of abi_of
begun true m a zicsr zifencei misaligned bits memory r =
    record { placed = rw (r, none (data_limit memory)) refl; near = refl }
begun false m a zicsr zifencei misaligned bits memory r =
    record { placed = rw (r, none (data_limit memory)) refl; near = refl }

pub returns-clause-begun : goal.returns-clause-begun
returns-clause-begun c = λ isa h.
    begun isa.e isa.m isa.a isa.zicsr isa.zifencei isa.misaligned isa.address_bits isa.memory
    (room isa.memory h)

pub returns-clause-made : goal.returns-clause-made
unfolding digits_of tokens read_line op_of_name directive_of abi_of
returns-clause-made c = λ memory. refl

pub returns-clause-waits : goal.returns-clause-waits
unfolding digits_of tokens read_line op_of_name directive_of abi_of
returns-clause-waits c = λ memory. refl

pub returns-clause-missing : goal.returns-clause-missing
unfolding digits_of tokens read_line op_of_name directive_of abi_of
returns-clause-missing c = λ memory. refl
