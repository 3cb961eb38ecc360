-- How many bytes the statements of a case have.
use Rattle.std.proofs.Common.{◌≡◌, ℕ, ◌+◌, ◌*◌, List, [], ◌++◌, length}
use Rattle.std.proofs.Common.{ap, ◌∙◌, arith}
use Rattle.std.proofs.lemmas.Int.{ints}
use Rattle.std.specs.Prelude.{ℤ, pos, negsuc, ◌≤ℤ◌, unwrap_or}
use Rattle.rvs_insn.specs.declared.op.Format.{Format}
use Rattle.rvs_insn.specs.declared.op.Op.{Op}
use Rattle.rvs_insn.specs.Table.{row}
use Rattle.rvs_insn.specs.Fields.{Fields}
use Rattle.rvs_solver.specs.Choices.{ChoiceValue}
use Rattle.rvs_choice.specs.declared.solved.Solved.{Solved}
use Rattle.rvs_choice.specs.declared.solved.Solved.TheVariants.{Many}
use Rattle.rvs_test_text.specs.declared.statement.Statement.{Statement}
use Rattle.rvs_test_text.specs.TestText.{bytes_all, source}
use Rattle.rvs_test_text.specs.TestText.{reserve, plain_case, store_case, atomic_case}
use Rattle.rvs_test_text.specs.TestText.{filler, skip, back_body, forward_frame, backward_frame}
use Rattle.rvs_test_text.specs.TestText.{between, frame, jump_case, case_by}
use Rattle.rvs_test_text.specs.TestText.{choice_statements, case_statements}
use Rattle.rvs_test_text.proofs.Assembled.{bytes_join}
use Rattle.rvs_test_text.proofs.CrossCases.{cross_bytes}
use Rattle.rvs_test_text.proofs.JumpNames.{frame_bytes}

-- ---- cases without a jump
abbrev pub sources : ChoiceValue → ℕ
sources c = bytes_all (source c.rs1 c.w1) + bytes_all (source c.rs2 c.w2)

-- both source registers, and what comes behind them
with_sources : (c : ChoiceValue) (rest : List Statement)
    → bytes_all (source c.rs1 c.w1 ++ (source c.rs2 c.w2 ++ rest)) ≡ sources c + bytes_all rest
with_sources c rest = grind (arith, bytes_join)

pub plain_is : (n : ℕ) (c : ChoiceValue) → n ≡ sources c
    → (k : ℕ) → n + 20 ≡ bytes_all (plain_case k c)
plain_is n c h k = grind (arith, with_sources)

pub store_is : (n : ℕ) (c : ChoiceValue) → n ≡ sources c
    → (k : ℕ) → n + 68 ≡ bytes_all (store_case k c)
store_is n c h k = grind (arith, with_sources)

pub atomic_is : (n m : ℕ) (op : Op) (c : ChoiceValue) → n ≡ sources c → op ≡ c.op
    → ((address r : ℕ) → m ≡ bytes_all (reserve op address r))
    → (k : ℕ) → n + m + 60 ≡ bytes_all (atomic_case k c)
atomic_is n m op c h same g k = grind (arith, bytes_join, with_sources)

-- ---- the frame of a jump
filler_bytes : (n : ℕ) → bytes_all (filler n) ≡ 4 * n
filler_bytes n = grind arith

skip_bytes : (m q : ℕ) → bytes_all (skip m q) ≡ 4 * q
skip_bytes m q = grind arith

back_bytes : (k m q : ℕ) → bytes_all (back_body k m q) ≡ 4 + 4 * q
back_bytes k m q = grind arith

pub forward_is : (n q : ℕ) → n ≡ q
    → (k m : ℕ) (j : Fields) → 8 + 4 * n ≡ bytes_all (forward_frame q k m j [])
forward_is n q h k m j = grind (arith, bytes_join, skip_bytes)

pub backward_is : (n q : ℕ) → n ≡ q
    → (k m : ℕ) (j : Fields) → 16 + 4 * n ≡ bytes_all (backward_frame q k m j [])
backward_is n q h k m j = grind (arith, bytes_join, back_bytes)

pub forward_at : (z : ℤ) (n q : ℕ) → pos 0 ≤ℤ z → q ≡ between z
    → ((k m : ℕ) (j : Fields) → n ≡ bytes_all (forward_frame q k m j []))
    → (k m : ℕ) (j : Fields) → n ≡ bytes_all (frame z k m j [])
forward_at (pos x) n q h e g k m j =
    g k m j ∙ ap (λ w. bytes_all (forward_frame w k m j [])) e
forward_at (negsuc x) n q h e g k m j = absurd (grind (arith, ints))

-- what comes behind a frame
frame_then : (z : ℤ) (k m : ℕ) (j : Fields) (rest : List Statement)
    → bytes_all (frame z k m j rest) ≡ bytes_all (frame z k m j []) + bytes_all rest
frame_then z k m j rest = grind (arith, frame_bytes)

pub jump_is : (n m : ℕ) (z : ℤ) (c : ChoiceValue) → n ≡ sources c
    → z ≡ unwrap_or c.imm (pos 0)
    → ((k r : ℕ) (j : Fields) → m ≡ bytes_all (frame z k r j []))
    → (k : ℕ) → n + m + 16 ≡ bytes_all (jump_case k c)
jump_is n m z c h same g k = grind (arith, frame_then, with_sources)

-- ---- each case
pub by_form : (f g : Format) (c : ChoiceValue) (n : ℕ) → f ≡ (row c.op).form → f ≡ g
    → ((k : ℕ) → n ≡ bytes_all (case_by g k c))
    → (k : ℕ) → n ≡ bytes_all (choice_statements k c)
by_form f g c n is e h k = grind arith

pub window_is : (s : Solved) (is xs : List Fields) → s ≡ Many is → xs ≡ is
    → (k : ℕ) → 80 + 4 * length xs ≡ bytes_all (case_statements k s)
window_is s is xs e same k = grind (arith, length, cross_bytes)
