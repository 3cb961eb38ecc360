-- Which tests fit the regions of their core.
use Rattle.std.proofs.Common.{◌≡◌, ℕ, ◌+◌, ◌*◌, ◌^◌, ◌<◌, ◌≤◌, Bool, true, cond, List, []}
use Rattle.std.proofs.Common.{◌∷◌, length, arith}
use Rattle.std.proofs.lemmas.Bool.Decides.{nat_tests}
use Rattle.std.specs.Prelude.{◌&&◌, nat_le, nat_lt}
use Rattle.rvs_insn.specs.Memory.{Memory, usual_memory, text_limit, data_limit}
use Rattle.rvs_insn.specs.Isa.{Isa}
use Rattle.rvs_test_text.specs.Claim.{most_cases}
use Rattle.rvs_choice.specs.declared.solved.Solved.{Solved}
use Rattle.rvs_choice.specs.declared.solved.Solved.TheVariants.{One, Many}
use Rattle.rvs_test_text.specs.TestText.{code_part, bytes_all}
use Rattle.rvs_test_text.specs.Claim.{AreReady, FitsRegions, fits_regions}
use Rattle.rvs_test_text.proofs.CaseList.{AllMade, size_of_all, sizes_low}
use Rattle.rvs_test_text.proofs.TestNames.{text_size, code_bytes}

-- ---- the test and the record say the same
abbrev all_fit : ℕ → ℕ → ℕ → ℕ → ℕ → ℕ → Bool
all_fit a b c d e f = nat_le a b && nat_le c d && nat_lt e f

record AllFit (a b c d e f : ℕ) : Type 0 where
  text : a ≤ b
  ram : c ≤ d
  last : e < f

fits_then : (a b c d e f : ℕ) → all_fit a b c d e f ≡ true → AllFit a b c d e f
fits_then a b c d e f h = grind arith

then_fits : (a b c d e f : ℕ) → a ≤ b → c ≤ d → e < f → all_fit a b c d e f ≡ true
then_fits a b c d e f text ram last = grind (arith, nat_tests)

pub regions_fit : (isa : Isa) (cs : List Solved) → fits_regions isa cs ≡ true → FitsRegions isa cs
regions_fit isa cs h = grind (arith, fits_then, length)

pub fit_regions : (isa : Isa) (cs : List Solved) → FitsRegions isa cs → fits_regions isa cs ≡ true
fit_regions isa cs h = grind (arith, then_fits, length)

-- ---- how long the code may be
pub all_made : (isa : Isa) (cs : List Solved) → AreReady isa cs → AllMade isa cs
all_made isa [] h = tt
all_made isa (One c ∷ cs) h = (record { sound = h.0.0; made = h.0.1 }, all_made isa cs h.1)
all_made isa (Many is ∷ cs) h = (h.0, all_made isa cs h.1)

pub last_low : (e : Bool) → cond e 15 31 ≤ 31
last_low e = grind arith

pub code_is_short : (isa : Isa) (cs : List Solved) → AreReady isa cs
    → bytes_all (code_part isa cs) ≤ 4 * 31 + 20 + 2100 * length cs
code_is_short isa cs h =
    grind (arith, all_made, last_low, text_size, code_bytes, size_of_all, length, sizes_low)

-- ---- at the usual memory each test fits
fits_at : (isa : Isa) (m : Memory) (cs : List Solved) → usual_memory ≡ m
    → bytes_all (code_part isa cs) ≤ 2 ^ 24 → length cs ≤ 2048
    → AllFit (bytes_all (code_part isa cs)) (text_limit m) (32 + 8 * length cs) (data_limit m)
    (m.data_base + (32 + 8 * length cs)) (2 ^ 32)
fits_at isa m cs e text few = grind (arith, length)

pub usual_fits : (isa : Isa) (cs : List Solved) → isa.memory ≡ usual_memory
    → length cs ≤ most_cases → AreReady isa cs → FitsRegions isa cs
usual_fits isa cs e few h = grind (arith, length, code_is_short, fits_at)
