-- The sizes, symbols and instructions of a case with a jump frame.
use Rattle.std.proofs.lemmas.Bool.Decides.{nat_tests}
use Rattle.std.proofs.Common.{◌≡◌, ℕ, ◌+◌, ◌*◌, ◌^◌, ◌<◌, true, List, []}
use Rattle.std.proofs.Common.{◌∷◌, ◌++◌, arith, append-nil, rules}
use Rattle.std.specs.Prelude.{ℤ, pos, negsuc}
use Rattle.rvs_insn.specs.Memory.{Memory}
use Rattle.rvs_insn.specs.Fields.{Fields}
use Rattle.rvs_asm.specs.declared.location.Location.{Location}
use Rattle.rvs_asm.specs.Bytes.{distance, with_imm}
use Rattle.rvs_test_text.specs.declared.statement.Name.{Name}
use Rattle.rvs_test_text.specs.declared.statement.Name.TheVariants.{Case as CaseName, Target, Done}
use Rattle.rvs_test_text.specs.declared.statement.Name.TheVariants.{Slot}
use Rattle.rvs_test_text.specs.declared.statement.Statement.{Statement}
use Rattle.rvs_test_text.specs.Statements.{addi}
use Rattle.rvs_test_text.specs.TestText.{save, between, filler, skip, back_body, frame}
use Rattle.rvs_test_text.specs.TestText.{bytes_all}
use Rattle.rvs_test_text.proofs.Tables.{Marks, Lacks, lacks_join}
use Rattle.rvs_test_text.proofs.Passes.{own_marks, marks}
use Rattle.rvs_test_text.proofs.Passes.{after, Distinct, distinct_join}
use Rattle.rvs_test_text.proofs.Assembled.{made_all, made_join}
use Rattle.rvs_test_text.proofs.Assembled.{text_at}
use Rattle.rvs_test_text.proofs.Frames.{skip_code, back_code, to_place}
use Rattle.rvs_test_text.proofs.Shapes.{save as save_code}

-- ---- sizes
filler_bytes : (n : ℕ) → bytes_all (filler n) ≡ 4 * n
filler_bytes n = grind arith

skip_bytes : (m q : ℕ) → bytes_all (skip m q) ≡ 4 * q
skip_bytes m q = grind arith

back_bytes : (k m q : ℕ) → bytes_all (back_body k m q) ≡ 4 + 4 * q
back_bytes k m q = grind arith

abbrev pub frame_size : ℤ → ℕ
frame_size (pos n) = 8 + 4 * between (pos n)
frame_size (negsuc n) = 16 + 4 * between (negsuc n)

pub frame_bytes : (z : ℤ) (k m : ℕ) (j : Fields) (rest : List Statement)
    → bytes_all (frame z k m j rest) ≡ frame_size z + bytes_all rest
frame_bytes z k m j rest = grind arith

-- ---- places

pub back_after : (memory : Memory) (k m q a r : ℕ)
    → after (back_body k m q) (text_at memory a r) ≡ text_at memory (a + 4 + 4 * q) r
back_after memory k m q a r = grind arith

-- ---- lines without a label

skip_marks : (m q : ℕ) (p : Location) → marks (skip m q) p ≡ []
skip_marks m q p = grind arith

back_marks : (k m q : ℕ) (p : Location) → marks (back_body k m q) p ≡ []
back_marks k m q p = grind arith

-- ---- symbols
abbrev pub frame_marks : Memory → ℤ → ℕ → ℕ → Marks
frame_marks memory (pos n) k s =
    (CaseName k, record { at = memory.text_base + (s + 4); in_text = true })
    ∷ (Target k, record { at = memory.text_base + (s + 8 + 4 * between (pos n)); in_text = true }) ∷
    []
frame_marks memory (negsuc n) k s =
    (Target k, record { at = memory.text_base + (s + 8); in_text = true })
    ∷ (
      CaseName k,
      record {
        at = memory.text_base + (s + 12 + 4 * between (negsuc n));
        in_text =
            true;
      },
    )
    ∷ (Done k, record { at = memory.text_base + (s + 16 + 4 * between (negsuc n)); in_text = true })
    ∷ []

-- ---- instructions

back_made : (env : Name → ℕ) (pc k m q : ℕ)
    → made_all env pc (back_body k m q) ≡ back_code m pc q (env (Done k))
back_made env pc k m q = search rules

pub forward_made : (env : Name → ℕ) (pc n k m p d sig : ℕ) (j i : Fields) → env (Slot k) ≡ sig
    → with_imm j (distance (env (Target k)) (pc + 4)) ≡ i
    → made_all env pc (frame (pos n) k m j (save p k m d))
    ≡ addi m 0 (pos 1) ∷ i ∷ (skip_code m (between (pos n)) ++ save_code p sig m d)
forward_made env pc n k m p d sig j i slot is = grind (arith, nat_tests)

pub backward_made : (env : Name → ℕ) (pc n k m p d sig at done : ℕ) (j i : Fields)
    → env (Slot k) ≡ sig → env (CaseName k) ≡ at → env (Done k) ≡ done
    → at ≡ pc + 12 + 4 * between (negsuc n) → with_imm j (distance (env (Target k)) at) ≡ i
    → made_all env pc (frame (negsuc n) k m j (save p k m d))
    ≡ addi m 0 (pos 1) ∷ to_place (pc + 4) at
    ∷ (back_code m (pc + 8) (between (negsuc n)) done ++ (i ∷ save_code p sig m d))
backward_made env pc n k m p d sig at done j i slot case_at done_at at_is is =
    grind (arith, back_bytes, made_all, save_code, back_code, made_join, back_made, to_place)

lacks_more : (t own : Marks) (name : Name) → own ≡ [] → Lacks t name → Lacks (t ++ own) name
lacks_more t own name e a = grind (arith, append-nil, Lacks)

pub frame_distinct : (z : ℤ) (k m p d : ℕ) (j : Fields) (t : Marks) (at : Location) → k < 2 ^ 32
    → Lacks t (CaseName k) → Lacks t (Target k) → Lacks t (Done k)
    → Distinct t (frame z k m j (save p k m d)) at
frame_distinct (pos n) k m p d j t at small lc lt ld =
    grind (arith, Marks, own_marks, Lacks, lacks_more, lacks_join, marks, skip_marks, distinct_join)
frame_distinct (negsuc n) k m p d j t at small lc lt ld =
    grind (arith, Marks, own_marks, Lacks, lacks_more, marks, back_marks, after, lacks_join)
