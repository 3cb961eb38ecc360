-- Where the regions of a core have room for a test.
use Rattle.std.proofs.Common.{◌≡◌, ℕ, ◌+◌, ◌*◌, ◌<◌, ◌≤◌, true, List, length, take}
use Rattle.std.proofs.Common.{get_or, ap, ◌∙◌, arith, rules}
use Rattle.std.proofs.lemmas.Bool.Decides.{nat_tests}
use Rattle.rvs_insn.specs.Isa.{Isa}
use Rattle.rvs_insn.specs.Memory.{Memory, HasRoom}
use Rattle.rvs_points.specs.Points.{Label}
use Rattle.rvs_points.specs.Valid.{IsValid}
use Rattle.rvs_choice.specs.declared.solved.Solved.{Solved}
use Rattle.rvs_test_text.specs.TestText.{bytes_all, case_statements, cases, last_register}
use Rattle.rvs_test_text.specs.TestText.{code_part}
use Rattle.rvs_test_text.specs.Claim.{IsReady, AreReady}
use Rattle.rvs_test_text.proofs.Assembled.{bytes_join}
use Rattle.rvs_test_text.proofs.Every.{case_bytes, case_size, size_low}
use Rattle.rvs_test_text.proofs.Fits.{code_is_short}
use Rattle.rvs_test_text.proofs.TestNames.{clear_bytes}
use Rattle.rvs_test.specs.Made.{has_room}
use Rattle.rvs_test.specs.Room.{hold}
use Rattle.rvs_test.proofs.Grows.{made_of_ready, ready_at}
use Rattle.rvs_test.proofs.Loops.{one_case_more}
use Rattle.rvs_test.proofs.Solvings.{cases_ready, cases_within}

-- ---- the bytes of the code, case by case
pub code_is : (isa : Isa) (cs : List Solved)
    → bytes_all (code_part isa cs) ≡ 4 * last_register isa + 20 + bytes_all (cases 0 cs)
code_is isa cs = grind (arith, clear_bytes, bytes_join)

-- a case more
pub bytes_more : (cs : List Solved) (i : ℕ) (d : Solved) → i < length cs
    → bytes_all (cases 0 (take (i + 1) cs))
    ≡ bytes_all (cases 0 (take i cs)) + bytes_all (case_statements i (get_or cs i d))
bytes_more cs i d h =
    ap bytes_all (one_case_more cs i d h)
    ∙ bytes_join (cases 0 (take i cs)) (case_statements i (get_or cs i d))

case_low : (isa : Isa) (k : ℕ) (s : Solved) → IsReady isa s
    → bytes_all (case_statements k s) ≤ 2100
case_low isa k s h =
    let made = made_of_ready isa s h in
    let e : bytes_all (case_statements k s) ≡ case_size s = case_bytes isa k s made in
    let low : case_size s ≤ 2100 = size_low isa s made in
    omega (arith, e, low)

pub case_at_low : (isa : Isa) (cs : List Solved) (k : ℕ) (s : Solved) → AreReady isa cs
    → k < length cs → s ≡ get_or cs k s → bytes_all (case_statements k s) ≤ 2100
case_at_low isa cs k s ready h is = case_low isa k s (ready_at isa cs k s ready h is)

-- ---- regions that hold more
pub hold_less : (m : Memory) (a b n k : ℕ) → a ≤ b → n ≤ k → hold m b k ≡ true → hold m a n ≡ true
hold_less m a b n k low few h = grind (arith, nat_tests)

-- regions that hold the greatest cases, one for each point
pub large_enough : (isa : Isa) (l : Label) (n : ℕ) → HasRoom isa.memory → IsValid isa l
    → n ≡ length l.points → hold isa.memory (144 + 2100 * n) n ≡ true → has_room isa l ≡ true
large_enough isa l n room valid e h =
    search (rules, length, cases_within, code_is_short, cases_ready, hold_less)
