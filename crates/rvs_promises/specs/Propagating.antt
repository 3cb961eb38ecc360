-- What every call of `propagate` promises.
use Rattle.std.specs.Prelude.{◌≡◌, ◌≤◌, ◌==◌, ◌++◌, List, [], ◌∷◌, ℕ, false, true, map, length}
use Rattle.std.specs.Prelude.{Contains, Some, Ok, IsTrue}
use Rattle.std.specs.List.{zip}
use Rattle.rvs_base.specs.Host.{Files, Tells}
use Rattle.rvs_plan.specs.declared.status.Status.TheVariants.{Done}
use Rattle.rvs_insn.specs.Isa.{Isa}
use Rattle.rvs_log.specs.Entries.{entries_of}
use Rattle.rvs_cgf.specs.Groups.{Label, Point}
use Rattle.rvs_points.specs.Valid.{IsValid}
use Rattle.rvs_index.specs.Counting.{Aim, aims_of, hits}
use Rattle.rvs_prop.specs.Acts.{Act, acts_of}
use Rattle.rvs_prop.specs.Reach.{reached, saves_register, target_of}
use Rattle.rvs_prop.specs.Report.{report_of}
use Rattle.rvs_prop.specs.State.{hit_count}
use Rattle.rvs_promises.specs.Answered.{Answered, OnDone}
use Rattle.rvs_promises.specs.Call.{Call, Asks}
use Rattle.rvs_promises.specs.Covering.{HasReported}
use Rattle.rvs_inputs.specs.GroupFiles.{Inputs, inputs_in}
use Rattle.rvs_log.specs.Lines.{log_limit}
use Rattle.rvs_propagate.specs.Propagate.{file_name, report_in}
use Rattle.rvs_coverage.specs.LogReport.{AreLogs}
use Rattle.rvs_coverage.specs.LogLines.{lines_of_many}
use Rattle.rvs_coverage.specs.Summing.{over}
use Rattle.rvs_words.specs.declared.command.SignedLog.{SignedLog}
use Rattle.rvs_words.specs.declared.command.Command.TheVariants.{Propagate}
use Rattle.rvs_words.specs.declared.command.PropagateArguments.{PropagateArguments}

-- the named log has these bytes
abbrev pub IsLog : Files → List ℕ → List ℕ → Type 0
IsLog files log bytes = (files log ≡ Some bytes) × (length bytes ≤ log_limit)

-- of several logs: how many hits of a point reach the signature, each log with its own; how many
-- hits there are; and how many instructions, of each log and of all together
abbrev pub reached_of : Aim → SignedLog × List ℕ → ℕ
reached_of a log = reached log.0.signature.lo log.0.signature.hi (acts_of log.1) a

abbrev pub reached_in : List SignedLog → List (List ℕ) → Aim → ℕ
reached_in signed logs a = over (reached_of a) (zip signed logs)

abbrev pub hits_in : List (List ℕ) → Aim → ℕ
hits_in logs a = over (λ log. hit_count (entries_of log) a) logs

abbrev pub ran_in : List (List ℕ) → List ℕ
ran_in logs = map (λ log. length (entries_of log)) logs

abbrev pub entries_in : List (List ℕ) → ℕ
entries_in logs = over (λ log. length (entries_of log)) logs

-- the first of two instructions alone hits the point
abbrev pub IsFirst : Aim → Act → Act → Type 0
IsFirst aim hit other = (hits aim hit.entry ≡ true) × (hits aim other.entry ≡ false)

-- a call of `propagate` on these of these files
pub record Propagates (call : Call) (files : Files) (asked : PropagateArguments) : Type 0 where
  -- it is done where all files are accepted, and has put the report; it is refused, or the host
  -- fails, at the first file that isn't
  pub answered : Answered call (report_in files asked) (OnDone (HasReported call))
  -- the numbers of the report are those of the logs, each by itself and then added up: how many of
  -- the hits of each point of the groups reach the signature, how many hits there are, and how many
  -- instructions; before it stands a line for each log, where there are several
  pub numbers : (inputs : Inputs) (logs : List (List ℕ))
      → inputs_in files asked.isa asked.families asked.groups ≡ Ok inputs
      → AreLogs files (map file_name asked.logs) logs → call.status ≡ Done
      → HasReported call (lines_of_many (map file_name asked.logs) (ran_in logs)
      ++ report_of inputs.groups (map (reached_in asked.logs logs) (aims_of inputs.groups))
      (map (hits_in logs) (aims_of inputs.groups)) (entries_in logs))
  -- so those of one log are its own
  pub single : (inputs : Inputs) (log : SignedLog) (bytes : List ℕ)
      → inputs_in files asked.isa asked.families asked.groups ≡ Ok inputs → asked.logs ≡ log ∷ []
      → IsLog files log.name bytes → call.status ≡ Done
      → HasReported call (report_of inputs.groups
      (map (reached log.signature.lo log.signature.hi (acts_of bytes)) (aims_of inputs.groups))
      (map (hit_count (entries_of bytes)) (aims_of inputs.groups)) (length (entries_of bytes)))
  -- so where the log has two instructions, of which the first alone hits the one point of the one
  -- label, and the second stores its result in the signature, the report counts one of one
  pub one : (isa' : Isa) (l : Label) (p : Point) (hit store : Act) (log : SignedLog)
      (bytes : List ℕ)
      → inputs_in files asked.isa asked.families asked.groups
      ≡ Ok (record { isa = isa'; groups = l ∷ [] })
      → IsTrue l.selected → l.points ≡ p ∷ [] → asked.logs ≡ log ∷ []
      → IsLog files log.name bytes → acts_of bytes ≡ hit ∷ store ∷ []
      → IsFirst (record { ops = l.ops; point = p }) hit store
      → (target_of hit.entry == 0) ≡ false
      → saves_register log.signature.lo log.signature.hi (target_of hit.entry) store.entry
      ≡ true → call.status ≡ Done → HasReported call (report_of (l ∷ []) (1 ∷ []) (1 ∷ []) 2)
  -- A selected label of the groups is valid for the core. So no two of the lines of its points name
  -- one kind and key, and what each of these points means is what its key says.
  pub valid : (inputs : Inputs) (l : Label) → inputs_in files asked.isa asked.families asked.groups
      ≡ Ok inputs
      → Contains inputs.groups l → IsTrue l.selected → IsValid inputs.isa l
  -- it writes no file, however it ends
  pub files_kept : call.new.host.files ≡ call.old.host.files

-- the same of every call: over told files, where its words ask for `propagate`
abbrev pub Promise : Call → Type 0
Promise call =
    (files : Files) (asked : PropagateArguments)
    → Tells call.old.host files → Asks call (Propagate asked)
    → Propagates call files asked
