-- What a host in memory holds.
use Rattle.std.specs.Prelude.{◌≡◌, ◌≤◌, ◌<◌, ◌⊎◌, ℕ, ℤ, Bool, false, not, List, [], ◌∷◌, filter}
use Rattle.std.specs.Prelude.{length, slice_index_or, Option, Some, None}
use Rattle.std.specs.Prelude.{if◌then◌else◌, bytes_eq, Contains}
use Rattle.rvs_base.specs.Faults.{raised}
use Rattle.rvs_base.specs.Host.{HostState, Files}
use Rattle.rvs_base.specs.declared.host.DeviceRun.{DeviceRun}
use Rattle.rvs_memory.specs.declared.answers.Answer.{Answer}
use Rattle.rvs_memory.specs.declared.answers.Leaves.{Leaves}
use Rattle.rvs_memory.specs.declared.answers.Leaves.TheVariants.{Untouched, Absent, Holds}

-- the files of a list of names and bytes; of two files of one name the first counts
abbrev pub held : List (List ℕ × List ℕ) → Files
held [] name = None
held (file ∷ files) name = if bytes_eq file.0 name then Some file.1 else held files name

pub record MemoryHostState : Type 0 where
  -- names and bytes
  pub files : List (List ℕ × List ℕ)
  pub is_open : Bool
  -- what is left of the open file
  pub rest : List ℕ
  pub read_faults : ℕ
  pub write_faults : ℕ
  pub run_faults : ℕ
  -- how often a file was opened, and how many bytes were taken
  pub openings : ℕ
  pub taken : ℕ
  -- what the runs of devices answer, from the first on, and the runs so far
  pub answers : List Answer
  pub runs : List DeviceRun
  -- the number of the next call
  pub calls : ℕ
  -- the numbers of the calls that fail
  pub fail : List ℕ
  -- how often a call failed for want of memory
  pub starved : ℕ

-- what such a host tells, which is all
abbrev pub told_by : MemoryHostState → HostState
told_by h = record {
  is_open = h.is_open;
  files = Some (held h.files);
  rest = Some h.rest;
  runs = Some h.runs;
  read_faults = h.read_faults;
  write_faults = h.write_faults;
  run_faults = h.run_faults;
  openings = h.openings;
  taken = h.taken;
}

-- before the first call
abbrev pub new_host : List (List ℕ × List ℕ) → List ℕ → List Answer → MemoryHostState
new_host files fail answers = record {
  files = files;
  is_open = false;
  rest = [];
  read_faults = 0;
  write_faults = 0;
  run_faults = 0;
  openings = 0;
  taken = 0;
  answers = answers;
  runs = [];
  calls = 0;
  fail = fail;
  starved = 0;
}

-- what a run leaves in its signature file, which held this before
abbrev pub left_of : Leaves → Option (List ℕ) → Option (List ℕ)
left_of Untouched before = before
left_of Absent before = None
left_of (Holds bytes) before = Some bytes

-- the files without those of this name
abbrev pub without : List ℕ → List (List ℕ × List ℕ) → List (List ℕ × List ℕ)
without name files = filter (λ (file : List ℕ × List ℕ). not (bytes_eq file.0 name)) files

-- a call that wants no memory was made
pub record IsCounted (old new : MemoryHostState) : Type 0 where
  pub numbered : new.calls ≡ raised old.calls
  pub same_list : new.fail ≡ old.fail
  pub same_answers : new.answers ≡ old.answers
  pub fed : new.starved ≡ old.starved

-- a call that may want memory was made
pub record IsNumbered (old new : MemoryHostState) : Type 0 where
  pub numbered : new.calls ≡ raised old.calls
  pub same_list : new.fail ≡ old.fail
  pub same_answers : new.answers ≡ old.answers

-- why such a call failed: its number is listed, or it isn't, and the call wanted memory and says so
abbrev pub HasReason : MemoryHostState → MemoryHostState → Type 0
HasReason old new =
    (Contains old.fail old.calls × (new.starved ≡ old.starved))
    ⊎ ((Contains old.fail old.calls → ⊥) × (new.starved ≡ raised old.starved))

-- why a run of a device failed: its number is listed, no answer is left for it, or it wanted memory
-- and says so
abbrev pub HasRunReason : MemoryHostState → MemoryHostState → Type 0
HasRunReason old new =
    HasReason old new
    ⊎ ((length old.answers ≤ length old.runs) × (new.starved ≡ old.starved))

-- a run of a device was answered by the first answer that is left
pub record IsAnswered (signature : List ℕ) (old new : MemoryHostState) (status : ℤ) : Type 0 where
  pub answer : Answer
  pub within : length old.runs < length old.answers
  pub first : answer ≡ slice_index_or old.answers (length old.runs) answer
  pub status_is : status ≡ answer.status
  pub left : held new.files signature ≡ left_of answer.leaves (held old.files signature)
