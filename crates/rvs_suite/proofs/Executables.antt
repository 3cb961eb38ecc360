-- The executable of a test, which is written where the device asks for it.
use Rattle.std.proofs.Common.{◌≡◌, ◌≢◌, ℕ, Bool, true, List, Some, rules}
use Rattle.rvs_base.specs.Host.{Files}
use Rattle.rvs_run.specs.RunTests.{if_asked}
use Rattle.rvs_suite.specs.RunLeft.{with_executable}

-- ---- files
pub kept-executable : (wants : Bool) (name executable : List ℕ) (files : Files) (other : List ℕ)
    → (wants ≡ true → other ≢ name)
    → with_executable name (if_asked wants executable) files other ≡ files other
kept-executable wants name executable files other apart = search rules

pub there-executable : (wants : Bool) (name executable : List ℕ) (files : Files) → wants ≡ true
    → with_executable name (if_asked wants executable) files name ≡ Some executable
there-executable wants name executable files wanted = search rules
