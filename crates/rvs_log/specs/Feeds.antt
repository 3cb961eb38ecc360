-- A log that was fed to a reader.
use Rattle.std.specs.Prelude.{◌≡◌, ℕ, ◌+◌, ◌<◌, List, ◌++◌, length, Some}
use Rattle.rvs_base.specs.Faults.{raised}
use Rattle.rvs_base.specs.Host.{HostState, Files, Tells, LacksFile}
use Rattle.rvs_base.specs.declared.host.OpenFault.{OpenFault}
use Rattle.rvs_base.specs.declared.host.OpenFault.TheVariants as fault
use Rattle.rvs_log.specs.Grammar.{Reading}
use Rattle.rvs_log.specs.Lines.{log_limit}
use Rattle.rvs_log.specs.Taken.{Taken, IsTold, state_for}
use Rattle.rvs_log.specs.declared.fault.LogFault.{LogFault}
use Rattle.rvs_log.specs.declared.fault.LogFault.TheVariants.{NoFile, Failed, TooLong, NoMemory}
use Rattle.rvs_log.specs.declared.fault.LogFault.TheVariants.{Untold}

-- a log is read in pieces of at most this many bytes
abbrev pub piece_limit : ℕ
piece_limit = 16384

-- these bytes were fed after all that came before
pub record Fed {T : Type 0} (step : T → Reading → T) (c c' : Taken T) (bytes : List ℕ) : Type 0
  where
    pub state : (told : List Reading → T) → IsTold step told → (before : List ℕ) (n : ℕ)
        → c ≡ state_for told before n
        → c' ≡ state_for told (before ++ bytes) (n + length bytes)
    pub fed : c'.fed ≡ c.fed + length bytes

-- all the bytes of the file were
pub record FeedsFile {T : Type 0} (step : T → Reading → T) (name : List ℕ) (old : HostState)
    (c c' : Taken T) : Type 0 where
  pub bytes : List ℕ
  pub fed : Fed step c c' bytes
  pub whole : (files : Files) → Tells old files → files name ≡ Some bytes

-- a front of them was
pub record FeedsFront {T : Type 0} (step : T → Reading → T) (name : List ℕ) (old : HostState)
    (c c' : Taken T) : Type 0 where
  pub bytes : List ℕ
  pub fed : Fed step c c' bytes
  pub front : (files : Files) (file : List ℕ) → Tells old files → files name ≡ Some file
      → (rest : List ℕ) × (file ≡ bytes ++ rest)

-- the file's bytes would be more than may be fed
pub record IsLong {T : Type 0} (name : List ℕ) (old : HostState) (c : Taken T) : Type 0 where
  pub longer : (files : Files) → Tells old files
      → (file : List ℕ) × (files name ≡ Some file) × (log_limit < c.fed + length file)

-- when a log isn't fed to its end
abbrev pub FeedCause : {T : Type 0} → List ℕ → HostState → HostState → Taken T → Taken T → LogFault
    → Type 0
FeedCause name old new c c' NoFile = LacksFile name old new × (c' ≡ c)
FeedCause name old new c c' Failed = new.read_faults ≡ raised old.read_faults
FeedCause name old new c c' TooLong = IsLong name old c × (new.read_faults ≡ old.read_faults)
FeedCause name old new c c' NoMemory = new.read_faults ≡ old.read_faults
FeedCause name old new c c' Untold = new.read_faults ≡ old.read_faults

-- the fault that a fault in opening leads to
abbrev pub fault_of : OpenFault → LogFault
fault_of fault.NoFile = NoFile
fault_of fault.Failed = Failed
