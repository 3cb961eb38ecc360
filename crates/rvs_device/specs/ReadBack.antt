-- What reading a signature file back comes to.
use Rattle.std.specs.Prelude.{◌≡◌, ◌+◌, ℕ, ℤ, List, Option, Result, Ok, Err}
use Rattle.rvs_base.specs.Faults.{raised}
use Rattle.rvs_base.specs.Host.{Files, HostState, ReadsOnly, Tells}
use Rattle.rvs_base.specs.File.{ReadsAtMost}
use Rattle.rvs_device.specs.Judged.{signature_limit, verdict_on}
use Rattle.rvs_device.specs.Judging.{Verdicts}
use Rattle.rvs_device.specs.declared.verdicts.TestVerdict.{TestVerdict}
use Rattle.rvs_device.specs.declared.judging.JudgeFault.{JudgeFault}
use Rattle.rvs_device.specs.declared.judging.JudgeFault.TheVariants.{Write, Run, Read, NoMemory}

-- the verdict is that of what the file holds, where that is told, and of something else where it
-- isn't
pub record Finds (signature : List ℕ) (status : ℤ) (reference : List ℕ)
    (old new : HostState) (verdict : TestVerdict) : Type 0 where
  pub of_file : (files : Files) → Tells old files
      → verdict ≡ verdict_on status reference (files signature)
  pub of_some : (found : Option (List ℕ)) × (verdict ≡ verdict_on status reference found)
  pub counts : Verdicts old new verdict

-- why there is none: reading failed, or want of memory
abbrev pub Misses : HostState → HostState → JudgeFault → Type 0
Misses old new Write = ⊥
Misses old new Run = ⊥
Misses old new Read = new.read_faults ≡ raised old.read_faults
Misses old new NoMemory = new.read_faults ≡ old.read_faults

abbrev pub Comes : List ℕ → ℤ → List ℕ → HostState → HostState → Result TestVerdict JudgeFault
    → Type 0
Comes signature status reference old new (Ok verdict) =
    Finds signature status reference old new verdict
Comes signature status reference old new (Err fault) = Misses old new fault

-- what reading the signature file back after a run with this status comes to
pub record ReadsBack (signature : List ℕ) (status : ℤ) (reference : List ℕ)
    (old new : HostState) (result : Result TestVerdict JudgeFault) : Type 0 where
  pub reads_only : ReadsOnly old new
  pub at_most : ReadsAtMost 1 (signature_limit + 1) old new
  pub comes : Comes signature status reference old new result
