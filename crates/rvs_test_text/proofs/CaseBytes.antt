-- The bytes of a case.
use Rattle.std.proofs.Common.{◌≡◌, ℕ, ◌+◌, ◌%◌, List, ◌∷◌, ◌++◌, Option, refl}
use Rattle.std.proofs.Common.{arith}
use Rattle.std.specs.Prelude.{pos, unwrap_or}
use Rattle.rvs_insn.specs.declared.op.Format.{Format}
use Rattle.rvs_insn.specs.declared.op.Format.TheVariants.{JumpReg, Store, Branch, Jump, Amo}
use Rattle.rvs_insn.specs.declared.op.Format.TheVariants.{LoadReserved}
use Rattle.rvs_insn.specs.Isa.{Isa}
use Rattle.rvs_insn.specs.Table.{row}
use Rattle.rvs_insn.specs.Word.{IsEncodable}
use Rattle.rvs_choice.specs.Choice.{ChoiceValue, fields_of}
use Rattle.rvs_test_text.specs.declared.statement.Name.TheVariants.{Case as CaseName, Scratch}
use Rattle.rvs_test_text.specs.declared.statement.Statement.{Statement}
use Rattle.rvs_test_text.specs.declared.statement.Statement.TheVariants.{Label, Plain}
use Rattle.rvs_test_text.specs.TestText.{pointer, marker, save}
use Rattle.rvs_test_text.specs.TestText.{copy_word, case_by, choice_statements}
use Rattle.rvs_test_text.specs.TestText.{get_word, reserve}
use Rattle.rvs_test_text.specs.TestText.{bytes_all}
use Rattle.rvs_test_text.proofs.AtomicRuns.{atomic_lead}
use Rattle.rvs_test_text.proofs.Shapes.{lead, source_size}
use Rattle.rvs_test_text.proofs.JumpNames.{frame_size}
use Rattle.rvs_test_text.proofs.CaseParts.{IsMade, imm_of, sources}
use Rattle.rvs_test_text.proofs.CaseParts.{frame_lead}

abbrev pub size_by : Format → ChoiceValue → ℕ
size_by Store c = 84
size_by JumpReg c = 44
size_by Amo c = atomic_lead (fields_of c) + 32
size_by LoadReserved c = atomic_lead (fields_of c) + 32
size_by Branch c = sources c + frame_size (imm_of c) + 16
size_by Jump c = sources c + frame_size (imm_of c) + 16
size_by _ c = lead (fields_of c) + 20

abbrev pub case_size : ChoiceValue → ℕ
case_size c = size_by (row c.op).form c

abbrev pub lead_by : Format → ChoiceValue → ℕ
lead_by Store c = 32
lead_by JumpReg c = 20
lead_by Amo c = atomic_lead (fields_of c)
lead_by LoadReserved c = atomic_lead (fields_of c)
lead_by Branch c = sources c + frame_lead (imm_of c)
lead_by Jump c = sources c + frame_lead (imm_of c)
lead_by _ c = lead (fields_of c)

abbrev pub case_lead : ChoiceValue → ℕ
case_lead c = lead_by (row c.op).form c

abbrev pub store_tail : ℕ → ChoiceValue → List Statement
store_tail k c =
    Label (CaseName k) ∷ Plain (fields_of c)
    ∷ (copy_word (pointer c) (marker c) k (pos 0) ++ copy_word (pointer c) (marker c) k (pos 4))

abbrev pub atomic_tail : ℕ → ChoiceValue → List Statement
atomic_tail k c =
    Label (CaseName k) ∷ Plain (fields_of c)
    ∷ (get_word (pointer c) (marker c) Scratch
    ++ save (pointer c) k (unwrap_or c.rd 0) (marker c))

-- what follows the sources
abbrev pub atomic_rest : ℕ → ChoiceValue → List Statement
atomic_rest k c = reserve c.op (unwrap_or c.rs1 0) (marker c) ++ atomic_tail k c

bytes_by : (f : Format) (k : ℕ) (c : ChoiceValue) → (row c.op).form ≡ f → IsEncodable (fields_of c)
    → bytes_all (case_by f k c) ≡ size_by f c
bytes_by f k c e h = grind arith

pub case_bytes : (isa : Isa) (k : ℕ) (c : ChoiceValue) → IsMade isa c
    → bytes_all (choice_statements k c) ≡ case_size c
case_bytes isa k c is = bytes_by (row c.op).form k c refl is.sound.encodable

pub source_four : (r : Option ℕ) → source_size r % 4 ≡ 0
source_four r = grind arith
