-- What a case of any kind runs, and what its statements make.
use Rattle.std.proofs.lemmas.Bool.Decides.{nat_tests}
use Rattle.std.proofs.Common.{◌≡◌, ℕ, ◌+◌, ◌*◌, ◌%◌, ◌^◌, ◌≤◌, Bool, true, List}
use Rattle.std.proofs.Common.{length, Option, Some, None, arith, ◌⊎◌}
use Rattle.std.specs.Prelude.{ℤ, pos, negsuc, unwrap_or}
use Rattle.rvs_insn.specs.Memory.{Memory, HasRoom, text_limit}
use Rattle.rvs_insn.specs.declared.op.Op.{Op}
use Rattle.rvs_insn.specs.declared.op.Format.{Format}
use Rattle.rvs_insn.specs.declared.op.Format.TheVariants.{JumpReg, Store, Branch, Jump, Amo}
use Rattle.rvs_insn.specs.declared.op.Format.TheVariants.{LoadReserved}
use Rattle.rvs_insn.specs.Isa.{Isa}
use Rattle.rvs_insn.specs.Table.{row}
use Rattle.rvs_machine.specs.Machine.{Setup}
use Rattle.rvs_machine.proofs.Loads.{IsAligned}
use Rattle.rvs_machine.proofs.Stores.{store_size}
use Rattle.rvs_choice.specs.Choice.{ChoiceValue, fields_of}
use Rattle.rvs_test_text.specs.declared.statement.Name.{Name}
use Rattle.rvs_test_text.specs.declared.statement.Name.TheVariants.{Slot, Scratch}
use Rattle.rvs_test_text.specs.Sound.{access_size}
use Rattle.rvs_test_text.specs.TestText.{pointer, marker, store_case, between}
use Rattle.rvs_test_text.specs.TestText.{atomic_case}
use Rattle.rvs_test_text.proofs.Short.{IsShort}
use Rattle.rvs_test_text.proofs.Cases.{Case}
use Rattle.rvs_test_text.proofs.Shapes.{source_size}
use Rattle.rvs_test_text.specs.Claim.{is_taken, filled_word}
use Rattle.rvs_test_text.proofs.AtomicRuns.{atomic_code}
use Rattle.rvs_test_text.proofs.AtomicGood.{atomic_of}
use Rattle.rvs_test_text.proofs.CaseParts.{AtomicRegisters, StoreRegisters, imm_of}
use Rattle.rvs_test_text.proofs.CaseNames.{DataAt}
use Rattle.rvs_machine.proofs.Jumps.{is_taken as machine_taken}
use Rattle.rvs_test_text.proofs.Frames.{forward_mark, backward_mark}
use Rattle.rvs_test_text.proofs.JumpGood.{jump_of}
use Rattle.rvs_test_text.proofs.JalrGood.{jalr_of}
use Rattle.rvs_test_text.proofs.StoreRuns.{scratch_after as scratch}
use Rattle.rvs_test_text.proofs.StoreGood.{store_code, store_of}
use Rattle.rvs_test_text.proofs.Assembled.{made_all}
use Rattle.rvs_test_text.proofs.PlainCases.{HasPattern, case_of as plain_case_of}

abbrev pub jump_case_of : ℤ → ChoiceValue → (ℕ → Option ℕ) → Bool → ℕ → ℕ → Case
jump_case_of (pos n) c value t pc slot =
    jump_of (fields_of c) c.w1 c.w2 (value (pc + source_size c.rs1 + source_size c.rs2 + 4)) pc
    (source_size c.rs1 + source_size c.rs2 + 8 + 4 * between (pos n) + 16)
    (pc + source_size c.rs1 + source_size c.rs2 + 4) (33 + between (pos n))
    (forward_mark t (between (pos n))) slot
jump_case_of (negsuc n) c value t pc slot =
    jump_of (fields_of c) c.w1 c.w2
    (value (pc + source_size c.rs1 + source_size c.rs2 + 12 + 4 * between (negsuc n))) pc
    (source_size c.rs1 + source_size c.rs2 + 16 + 4 * between (negsuc n) + 16)
    (pc + source_size c.rs1 + source_size c.rs2 + 12 + 4 * between (negsuc n))
    (33 + between (negsuc n)) (backward_mark t (between (negsuc n))) slot

abbrev pub jump_value : Format → ℕ → Option ℕ
jump_value Branch at = None
jump_value _ at = Some (at + 4)

abbrev pub jump_taken : Format → ChoiceValue → Bool
jump_taken Branch c = is_taken c.op c.w1 c.w2
jump_taken _ c = true

abbrev pub case_of_by : Memory → Format → ChoiceValue → ℕ → ℕ → Case
case_of_by memory Store c pc slot = store_of (fields_of c) c.w1 c.w2 c.align pc slot
case_of_by memory JumpReg c pc slot =
    jalr_of (fields_of c) (unwrap_or c.rd 0) (unwrap_or c.imm (pos 0)) pc slot
case_of_by memory Amo c pc slot = atomic_of memory (fields_of c) c.w2 filled_word pc slot
case_of_by memory LoadReserved c pc slot = atomic_of memory (fields_of c) c.w2 filled_word pc slot
case_of_by memory Branch c pc slot =
    jump_case_of (imm_of c) c (jump_value Branch) (jump_taken Branch c) pc slot
case_of_by memory Jump c pc slot = jump_case_of (imm_of c) c (jump_value Jump) (jump_taken Jump c)
    pc slot
case_of_by memory _ c pc slot = plain_case_of c pc slot

abbrev pub case_of : Memory → ChoiceValue → ℕ → ℕ → Case
case_of memory c pc slot = case_of_by memory (row c.op).form c pc slot

pub store_made : (memory : Memory) (env : Name → ℕ) (pc k : ℕ) (c : ChoiceValue)
    (r : StoreRegisters c)
    → env Scratch ≡ memory.data_base
    → made_all env pc (store_case k c)
    ≡ store_code memory (fields_of c) r.a r.b c.w1 c.w2 (pointer c) (marker c) (env (Slot k))
store_made memory env pc k c r scratch = grind (arith, nat_tests)

pub atomic_made : (memory : Memory) (env : Name → ℕ) (pc k : ℕ) (c : ChoiceValue)
    (r : AtomicRegisters c) → DataAt memory env
    → c.w1 ≡ memory.data_base
    → made_all env pc (atomic_case k c)
    ≡ atomic_code memory (fields_of c) r.a c.w2 (pointer c) (marker c) (env (Slot k))
atomic_made memory env pc k c r places w1 = grind (arith, nat_tests)

pub taken : (isa : Isa) → HasRoom isa.memory → (op : Op) → (row op).form ≡ Store → (a : ℕ)
    → (a % access_size op ≡ 0) ⊎ (isa.misaligned ≡ true)
    → IsAligned isa (store_size op) (isa.memory.data_base + a)
taken isa room op form a h = grind arith

-- what is asked of the place of a case of so many bytes; the halt and the loop stand behind it
pub record IsPlaced (setup : Setup) (ram0 : List ℕ) (pc slot size : ℕ) : Type 0 where
  pub room : pc + size + 20 ≤ 2 ^ 32
  pub aligned : pc % 4 ≡ 0
  pub words : slot % 4 ≡ 0
  pub later : 32 ≤ slot
  pub fits : slot + 8 ≤ length ram0
  pub short : IsShort setup.isa.memory (length ram0)
  pub tohost : setup.tohost ≡ setup.isa.memory.data_base + 16
  pub pattern : HasPattern ram0
  pub text : length setup.text ≤ text_limit setup.isa.memory

pub same_taken : (op : Op) → (row op).form ≡ Branch → (v1 v2 : ℕ)
    → machine_taken op v1 v2 ≡ is_taken op v1 v2
same_taken op h v1 v2 = grind arith
