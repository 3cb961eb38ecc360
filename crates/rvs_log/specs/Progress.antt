-- The lines that tell how far a file has been read, and what a sink has of them.
use Rattle.std.specs.Prelude.{◌≡◌, ◌≤◌, ℕ, zero, suc, ◌*◌, ◌/◌, ◌^◌, Bool, true, false, List, []}
use Rattle.std.specs.Prelude.{◌++◌}
use Rattle.std.specs.Prelude.{length, codes, Option, Some, None, IsTrue}
use Rattle.std.specs.Fmt.{decimal}
use Rattle.rvs_base.specs.Faults.{raised}
use Rattle.rvs_base.specs.Host.{HostState, Files, Tells}
use Rattle.rvs_base.specs.Sink.{SinkState, appended, PutsFront}
use Rattle.rvs_log.specs.declared.fault.LogFault.{LogFault}
use Rattle.rvs_log.specs.declared.fault.LogFault.TheVariants.{NoFile, Failed, TooLong, NoMemory}
use Rattle.rvs_log.specs.declared.fault.LogFault.TheVariants.{Untold}

-- a line is put for each of so many bytes: 1,024 MiB
abbrev pub step : ℕ
step = 2 ^ 30

-- so many steps of the named file were read
unfoldable pub progress_line : List ℕ → ℕ → List ℕ
progress_line name steps =
    codes "rvsuite: " ++ (name ++ (codes ": read " ++ (decimal (1024 * steps) ++ codes " MiB\n")))

-- the lines of the first steps
abbrev pub lines_of_steps : List ℕ → ℕ → List ℕ
lines_of_steps name zero = []
lines_of_steps name (suc steps) = lines_of_steps name steps ++ progress_line name (suc steps)

-- the lines of a file of which so many bytes were read
unfoldable pub progress_lines : List ℕ → ℕ → List ℕ
progress_lines name bytes = lines_of_steps name (bytes / step)

-- the lines of a file that is read to its end, where it is there
abbrev pub lines_of_file : List ℕ → Option (List ℕ) → List ℕ
lines_of_file name None = []
lines_of_file name (Some bytes) = progress_lines name (length bytes)

-- the sink with these bytes more
abbrev pub put : List ℕ → SinkState → SinkState
put bytes sink = record { bytes = appended sink.bytes bytes; faults = sink.faults }

-- the sink where putting failed at last
abbrev pub left_by : Bool → SinkState → SinkState
left_by true sink = record { bytes = sink.bytes; faults = raised sink.faults }
left_by false sink = sink

abbrev pub IsFront : List ℕ → List ℕ → Type 0
IsFront front bytes = (rest : List ℕ) × (bytes ≡ front ++ rest)

-- what was put of lines that are by the files that a host tells: all of them where the work behind
-- them came to its end, otherwise a front of them, behind which putting has failed once where the
-- work was lost for that; and none where none were asked for
pub record HasTold (asked : Bool) (lines : Files → List ℕ) (host : HostState) (old new : SinkState)
    (whole lost : Bool) : Type 0 where
  pub front : List ℕ
  pub left : new ≡ left_by lost (put front old)
  pub later : old.faults ≤ new.faults
  pub part : (files : Files) → Tells host files → IsFront front (lines files)
  pub all : whole ≡ true → asked ≡ true → (files : Files) → Tells host files → front ≡ lines files
  pub unasked : asked ≡ false → (front ≡ []) × (lost ≡ false)

-- a line wasn't put whole
abbrev pub Loses : Bool → List ℕ → SinkState → SinkState → LogFault → Type 0
Loses asked line old new NoFile = ⊥
Loses asked line old new Failed = ⊥
Loses asked line old new TooLong = ⊥
Loses asked line old new NoMemory = IsTrue asked × (new ≡ old)
Loses asked line old new Untold =
    IsTrue asked × PutsFront line old new × (new.faults ≡ raised old.faults)
    × (old.faults ≤ new.faults)

-- the file wasn't read to its end since a line couldn't be put
abbrev pub is_untold : LogFault → Bool
is_untold Untold = true
is_untold _ = false
