-- What every call of `coverage` promises.
use Rattle.std.specs.Prelude.{◌≡◌, ◌≤◌, ◌+◌, ◌++◌, List, [], ◌∷◌, ℕ, map, length, Contains}
use Rattle.std.specs.Prelude.{Option, Some, Ok, IsTrue}
use Rattle.rvs_base.specs.Host.{Files, Tells}
use Rattle.rvs_base.specs.Sink.{appended}
use Rattle.rvs_plan.specs.declared.status.Status.TheVariants.{Done}
use Rattle.rvs_insn.specs.Isa.{Isa}
use Rattle.rvs_log.specs.Entries.{Entry, entries_of}
use Rattle.rvs_cgf.specs.Groups.{Label, Point}
use Rattle.rvs_points.specs.Valid.{IsValid}
use Rattle.rvs_index.specs.Counting.{Aim, aims_of, count, hits, kept}
use Rattle.rvs_log.specs.Logs.{log_of, as_entry}
use Rattle.rvs_count.specs.Report.{report_of}
use Rattle.rvs_promises.specs.Answered.{Answered, OnDone}
use Rattle.rvs_promises.specs.Call.{Call, Asks}
use Rattle.rvs_coverage.specs.Coverage.{report_in}
use Rattle.rvs_coverage.specs.LogReport.{AreLogs}
use Rattle.rvs_coverage.specs.LogLines.{log_line, lines_of_many}
use Rattle.rvs_coverage.specs.Summing.{over}
use Rattle.rvs_base.specs.declared.asked.Window.{Window}
use Rattle.rvs_log.specs.Lines.{log_limit}
use Rattle.rvs_inputs.specs.GroupFiles.{Inputs, inputs_in}
use Rattle.rvs_promises.specs.Halting.{BothHalt, HoldsOctets}
use Rattle.rvs_reference.specs.declared.test_run.Run.{Run}
use Rattle.rvs_words.specs.declared.command.Command.TheVariants.{Coverage}
use Rattle.rvs_words.specs.declared.command.CoverageArguments.{CoverageArguments}

-- the output has this report
abbrev pub HasReported : Call → List ℕ → Type 0
HasReported call report = call.new.out.bytes ≡ appended call.old.out.bytes report

-- the instructions of a log, each with the words that its source registers held before it
abbrev pub IsLogOf : Files → List ℕ → List Entry → Type 0
IsLogOf files log entries = (bytes : List ℕ) × (files log ≡ Some bytes) × (length bytes ≤ log_limit)
    × (entries_of bytes ≡ entries)

-- the same of several logs, in their order
pub record AreLogsOf (files : Files) (names : List (List ℕ)) (logs : List (List Entry)) : Type
    0 where
  pub bytes : List (List ℕ)
  pub there : AreLogs files names bytes
  pub entries : map entries_of bytes ≡ logs

-- how often a point is hit by the instructions of several logs that the windows leave, each log by
-- itself: no cross point goes over from one to the next
abbrev pub counted_in : List Window → List (List Entry) → Aim → ℕ
counted_in windows logs a = over (λ es. count (kept windows es) a) logs

-- how many instructions of each log the windows leave, and of all together
abbrev pub ran_in : List Window → List (List Entry) → List ℕ
ran_in windows logs = map (λ es. length (kept windows es)) logs

abbrev pub instructions_in : List Window → List (List Entry) → ℕ
instructions_in windows logs = over (λ es. length (kept windows es)) logs

-- a call of `coverage` on these of these files
pub record Covers (call : Call) (files : Files) (asked : CoverageArguments) : Type 0 where
  -- it is done where all files are accepted, and has put the report; it is refused, or the host
  -- fails, at the first file that isn't
  pub answered : Answered call (report_in files asked)
      (OnDone (HasReported call))
  -- the numbers of the report are those of the logs' instructions that the windows leave: how many
  -- hit each point of the groups, and how many there are, each log by itself and then added up;
  -- before it stands a line for each log, where there are several
  pub counts : (inputs : Inputs) (logs : List (List Entry))
      → inputs_in files asked.isa asked.families asked.groups ≡ Ok inputs
      → AreLogsOf files asked.logs logs → call.status ≡ Done
      → HasReported call (lines_of_many asked.logs (ran_in asked.windows logs)
      ++ report_of inputs.groups (map (counted_in asked.windows logs) (aims_of inputs.groups))
      (instructions_in asked.windows logs))
  -- so of two logs, each counted by itself, the numbers are added
  pub two : (inputs : Inputs) (log other : List ℕ) (first second : List Entry)
      → inputs_in files asked.isa asked.families asked.groups ≡ Ok inputs → asked.logs
      ≡ log ∷ other ∷ []
      → IsLogOf files log first → IsLogOf files other second → call.status ≡ Done
      → HasReported call
      ((log_line log (length (kept asked.windows first))
      ++ (log_line other (length (kept asked.windows second)) ++ []))
      ++ report_of inputs.groups
      (map (λ a. count (kept asked.windows first) a + count (kept asked.windows second) a)
      (aims_of inputs.groups))
      (length (kept asked.windows first) + length (kept asked.windows second)))
  -- and those of one log are its own
  pub alone : (inputs : Inputs) (log : List ℕ) (entries : List Entry)
      → inputs_in files asked.isa asked.families asked.groups ≡ Ok inputs → asked.logs ≡ log ∷ []
      → IsLogOf files log entries → call.status ≡ Done
      → HasReported call (report_of inputs.groups
      (map (count (kept asked.windows entries)) (aims_of inputs.groups))
      (length (kept asked.windows entries)))
  -- so where one instruction is all that the log has, and it hits the one point of the one label,
  -- the report counts one
  pub one : (isa' : Isa) (l : Label) (p : Point) (log : List ℕ) (e : Entry)
      → inputs_in files asked.isa asked.families asked.groups
      ≡ Ok (record { isa = isa'; groups = l ∷ [] })
      → IsTrue l.selected → l.points ≡ p ∷ [] → asked.windows ≡ [] → asked.logs ≡ log ∷ []
      → IsLogOf files log (e ∷ [])
      → IsTrue (hits (record { ops = l.ops; point = p }) e) → call.status ≡ Done
      → HasReported call (report_of (l ∷ []) (1 ∷ []) 1)
  -- so of the log that `reference` writes of a test it counts what the test's run hits
  pub of_run : (inputs : Inputs) (log test : List ℕ) (steps : Option ℕ) (run : Run)
      → inputs_in files asked.isa asked.families asked.groups ≡ Ok inputs
      → BothHalt files asked.isa test steps run
      → HoldsOctets files test → asked.logs ≡ log ∷ []
      → files log ≡ Some (log_of run.trace) → length (log_of run.trace) ≤ log_limit
      → call.status ≡ Done → HasReported call (report_of inputs.groups
      (map (count (kept asked.windows (map as_entry run.trace))) (aims_of inputs.groups))
      (length (kept asked.windows (map as_entry run.trace))))
  -- A selected label of the groups is valid for the core. So no two of the lines of its points name
  -- one kind and key, and what each of these points means is what its key says.
  pub valid : (inputs : Inputs) (l : Label) → inputs_in files asked.isa asked.families asked.groups
      ≡ Ok inputs
      → Contains inputs.groups l → IsTrue l.selected → IsValid inputs.isa l
  -- it writes no file, however it ends
  pub files_kept : call.new.host.files ≡ call.old.host.files

-- the same of every call: over told files, where its words ask for `coverage`
abbrev pub Promise : Call → Type 0
Promise call =
    (files : Files) (asked : CoverageArguments)
    → Tells call.old.host files → Asks call (Coverage asked)
    → Covers call files asked
