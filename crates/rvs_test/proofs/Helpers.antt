-- The helper registers.
use Rattle.std.proofs.Common.{◌≡◌, ◌<◌, ℕ, Bool, Some, arith}
use Rattle.std.specs.Prelude.{find}
use Rattle.rvs_test_text.specs.TestText.{helpers}

pub first-low : (p : ℕ → Bool) (r : ℕ) → find p helpers ≡ Some r → r < 32
first-low p r e = grind arith
