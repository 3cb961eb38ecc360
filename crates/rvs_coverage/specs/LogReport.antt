-- Commands that put a report on execution logs, for an ISA file and group files.
use Rattle.std.specs.Prelude.{◌≡◌, ◌≤◌, ℕ, ◌+◌, nat_lt, if◌then◌else◌, List, [], ◌∷◌, length}
use Rattle.std.specs.Prelude.{Option, Some, None, Result, Ok, Err, ⊤}
use Rattle.rvs_base.specs.File.{ReadsAtMost}
use Rattle.rvs_base.specs.Host.{Files, HostState, ReadsOnly, Tells}
use Rattle.rvs_abstract.specs.declared.families.Families.{Families}
use Rattle.rvs_plan.specs.Plan.{Plan, Ends, Asks, gives, ◌>>=◌}
use Rattle.rvs_plan.specs.Inputs.{too_long_text}
use Rattle.rvs_plan.specs.declared.stop.Stop.{Stop}
use Rattle.rvs_plan.specs.declared.stop.Stop.TheVariants.{Refused, NoFile}
use Rattle.rvs_cgf.specs.Groups.{Label}
use Rattle.rvs_log.specs.Grammar.{Reading}
use Rattle.rvs_log.specs.Lines.{log_limit}
use Rattle.rvs_log.specs.Taken.{IsTold, Taken, ended, state_for}
use Rattle.rvs_log.specs.Feeds.{piece_limit}
use Rattle.rvs_inputs.specs.GroupFiles.{and_then, inputs_in, group_inputs}

-- at most so many bytes of a log are taken: all that it may have, and the piece that passes that
abbrev pub log_bound : ℕ
log_bound = log_limit + piece_limit

-- what is known of logs, for groups: of none, with the bytes of one more, and as a report; and what
-- the file of a log is called
pub record Measure (L A : Type 0) : Type 0 where
  pub name : L → List ℕ
  pub none : List Label → A
  pub more : List Label → L → A → List ℕ → A
  pub report : List Label → List L → A → List ℕ

-- with the named log more, where it is there
abbrev pub with_found : {A : Type 0} → (A → List ℕ → A) → A → List ℕ → Option (List ℕ)
    → Result A Stop
with_found more known name None = Err (NoFile name)
with_found more known name (Some log) =
    if nat_lt log_limit (length log) then Err (Refused (too_long_text name log_limit))
    else Ok (more known log)

-- a log was read to its end, and taken where nothing was fed before
pub record TakesLog {T : Type 0} (step : T → Reading → T) (name : List ℕ) (old new : HostState)
    (c c' : Taken T) : Type 0 where
  pub bytes : List ℕ
  pub state : (told : List Reading → T) → IsTold step told → c ≡ state_for told [] 0
      → c' ≡ state_for told (ended bytes) (length bytes)
  pub short : c.fed ≡ 0 → length bytes ≤ log_limit
  pub reads_only : ReadsOnly old new
  pub unfaulted : new.read_faults ≡ old.read_faults
  pub at_most : ReadsAtMost 1 log_bound old new
  pub whole : (files : Files) → Tells old files → files name ≡ Some bytes

-- ---- over given files
-- with these logs more, in their order; the first that isn't there, or is too long, is told
abbrev pub logs_in : {L A : Type 0} → Files → (L → List ℕ) → (L → A → List ℕ → A) → A → List L
    → Result A Stop
logs_in files named more known [] = Ok known
logs_in files named more known (log ∷ logs) =
    and_then (with_found (more log) known (named log) (files (named log)))
    (λ now. logs_in files named more now logs)

-- the report on logs, for these groups
abbrev pub reported_in : {L A : Type 0} → Measure L A → Files → List L → List Label
    → Result (List ℕ) Stop
reported_in m files logs groups =
    and_then (logs_in files m.name (m.more groups) (m.none groups) logs)
    (λ known. Ok (m.report groups logs known))

-- that for the groups that the ISA file and the group files give
abbrev pub log_report_in : {L A : Type 0} → Measure L A → Files → List ℕ → Families
    → List (List ℕ) → List L → Result (List ℕ) Stop
log_report_in m files isa families names logs =
    and_then (inputs_in files isa families names) (λ inputs. reported_in m files logs inputs.groups)

-- the named logs are there, with these bytes, and none is too long
abbrev pub AreLogs : Files → List (List ℕ) → List (List ℕ) → Type 0
AreLogs files [] [] = ⊤
AreLogs files [] (log ∷ logs) = ⊥
AreLogs files (name ∷ names) [] = ⊥
AreLogs files (name ∷ names) (log ∷ logs) =
    (files name ≡ Some log) × (length log ≤ log_limit) × AreLogs files names logs

-- ---- as plans
-- a log is read, and known with those before it
abbrev pub takes_log : {A : Type 0} → (A → List ℕ → A) → A → List ℕ → Plan A
takes_log more known name = Asks name log_bound (λ found. Ends (with_found more known name found))

-- logs are read, one after the other
abbrev pub takes_logs : {L A : Type 0} → (L → List ℕ) → (L → A → List ℕ → A) → A → List L → Plan A
takes_logs named more known [] = gives known
takes_logs named more known (log ∷ logs) =
    takes_log (more log) known (named log) >>= (λ now. takes_logs named more now logs)

abbrev pub reports : {L A : Type 0} → Measure L A → List L → List Label → A → Plan (List ℕ)
reports m logs groups known = gives (m.report groups logs known)

-- all logs are read, and the report made
abbrev pub reads_logs : {L A : Type 0} → Measure L A → List L → List Label → Plan (List ℕ)
reads_logs m logs groups =
    takes_logs m.name (m.more groups) (m.none groups) logs >>= reports m logs groups

-- the ISA file and the group files are read and checked, and then the logs are read
abbrev pub log_reported : {L A : Type 0} → Measure L A → List ℕ → Families → List (List ℕ)
    → List L → Plan (List ℕ)
log_reported m isa families names logs = do
  inputs ← group_inputs isa families names
  reads_logs m logs inputs.groups
