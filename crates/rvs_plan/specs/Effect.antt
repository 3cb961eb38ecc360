-- What a command does to the outside.
use Rattle.std.specs.Prelude.{◌≡◌, ℕ, ℤ, List, [], ◌∷◌, ◌++◌, Option, Some, None}
use Rattle.rvs_base.specs.Host.{Files, MaySpoil, written, with_left, run_over, ChangesOne}
use Rattle.rvs_base.specs.declared.host.DeviceRun.{DeviceRun}
use Rattle.rvs_base.specs.Sink.{appended}
use Rattle.rvs_plan.specs.World.{Contents}

-- what a run of a device leaves in its signature file, and its exit status
pub record Answer : Type 0 where
  pub left : Option (List ℕ)
  pub status : ℤ

-- what is done without asking anything of the outside
pub data Deed : Type 0 where
  -- the named file is made to hold these bytes
  Write : List ℕ → List ℕ → Deed
  -- these bytes are put to the output
  Out : List ℕ → Deed

pub data Effect : Type 0 where
  -- the named file is read, and these bytes are found, or it isn't there
  Read : List ℕ → Option (List ℕ) → Effect
  -- a device is started with these words on the named test file, and this is what it leaves in the
  -- named signature file
  Device : List (List ℕ) → List ℕ → List ℕ → Answer → Effect
  Did : Deed → Effect

-- the files after a run, where they are told
abbrev pub left_by : List ℕ → Answer → Option Files → Option Files
left_by signature answer None = None
left_by signature answer (Some files) = Some (with_left signature answer.left files)

-- the runs with one more, where files and runs are told
abbrev pub run_added : List (List ℕ) → List ℕ → List ℕ → Answer → Option Files
    → Option (List DeviceRun) → Option (List DeviceRun)
run_added words test signature answer (Some files) (Some runs) =
    Some (runs ++ run_over words test signature files answer.left answer.status ∷ [])
run_added words test signature answer files runs = None

-- what a deed that is done whole makes of the contents
abbrev pub after_deed : Deed → Contents → Contents
after_deed (Write name bytes) c = record c { files = written name bytes c.files }
after_deed (Out bytes) c = record c { out = appended c.out bytes }

-- the same of an effect
abbrev pub after_one : Effect → Contents → Contents
after_one (Read name found) c = c
after_one (Device words test signature answer) c = record c {
  files = left_by signature answer c.files;
  runs = run_added words test signature answer c.files c.runs;
}
after_one (Did deed) c = after_deed deed c

-- the same of several effects, the first of them first
abbrev pub after : List Effect → Contents → Contents
after [] c = c
after (effect ∷ effects) c = after effects (after_one effect c)

-- where files are told, a read found what they then held
abbrev pub SawOne : Effect → Contents → Type 0
SawOne (Read name found) c = (files : Files) → c.files ≡ Some files → files name ≡ found
SawOne (Device words test signature answer) c = Unit {0}
SawOne (Did deed) c = Unit {0}

-- the same of several effects, each in its turn
abbrev pub Saw : List Effect → Contents → Type 0
Saw [] c = Unit {0}
Saw (effect ∷ effects) c = SawOne effect c × Saw effects (after_one effect c)

-- a front of these bytes is out, and nothing else is changed
pub record PutsPart (bytes : List ℕ) (old new : Contents) : Type 0 where
  pub front : List ℕ
  pub rest : List ℕ
  pub split : bytes ≡ front ++ rest
  pub put : new ≡ record old { out = appended old.out front }

-- the named file is as before, absent, or a front of these bytes, and nothing else is changed
pub record Spoiling (name bytes : List ℕ) (old new : Contents) : Type 0 where
  pub files : MaySpoil name bytes old.files new.files
  pub runs : new.runs ≡ old.runs
  pub out : new.out ≡ old.out

-- what a deed that failed may leave
abbrev pub Breaks : Deed → Contents → Contents → Type 0
Breaks (Write name bytes) old new = Spoiling name bytes old new
Breaks (Out bytes) old new = PutsPart bytes old new

-- what a run of a device that failed may leave
pub record Changing (signature : List ℕ) (old new : Contents) : Type 0 where
  pub files : ChangesOne signature old.files new.files
  pub runs : new.runs ≡ old.runs
  pub out : new.out ≡ old.out
