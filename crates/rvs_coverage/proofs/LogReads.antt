-- Reading logs for a report: it only reads, and what it finds over given files.
use Rattle.std.proofs.Common.{◌≡◌, ◌≤◌, ◌<◌, ◌+◌, ◌-◌, ◌*◌, ℕ, List, [], ◌∷◌, length, nat_lt, Some}
use Rattle.std.proofs.Common.{Result, Ok, Err, refl, sym, ap, ◌∙◌, arith}
use Rattle.std.specs.Prelude.{map}
use Rattle.std.specs.List.{zip}
use Rattle.std.proofs.lemmas.Bool.{lt-ltb, le-ltb, cond-true, cond-false}
use Rattle.rvs_base.specs.Host.{Files, HostState}
use Rattle.rvs_base.specs.File.{ReadsAtMost}
use Rattle.rvs_abstract.specs.declared.families.Families.{Families}
use Rattle.rvs_base.specs.Sink.{SinkState}
use Rattle.rvs_plan.specs.Inputs.{too_long_text}
use Rattle.rvs_plan.specs.Meets.{Meets}
use Rattle.rvs_plan.specs.World.{world}
use Rattle.rvs_plan.proofs.Stepping.{asks-accepted, asks-no_memory}
use Rattle.rvs_plan.specs.declared.stop.Stop.{Stop}
use Rattle.rvs_plan.specs.declared.stop.Stop.TheVariants.{NoMemory, Refused}
use Rattle.rvs_cgf.specs.Groups.{Label}
use Rattle.rvs_inputs.specs.GroupFiles.{Inputs, and_then, inputs_in, group_inputs}
use Rattle.rvs_log.specs.Grammar.{Reading}
use Rattle.rvs_log.specs.Lines.{log_limit}
use Rattle.rvs_log.specs.Taken.{Taken}
use Rattle.rvs_log.specs.Feeds.{piece_limit}
use Rattle.rvs_coverage.specs.LogReport.{Measure, AreLogs, TakesLog, log_bound, with_found, logs_in}
use Rattle.rvs_coverage.specs.LogReport.{reported_in, log_report_in, takes_log, takes_logs, reports}
use Rattle.rvs_coverage.specs.LogReport.{reads_logs, log_reported}
use Rattle.rvs_inputs.proofs.Readers.{OnlyReads, OnlyReads-then}
use Rattle.rvs_inputs.proofs.Finding.{Finds}
use Rattle.rvs_inputs.proofs.GroupInputs.{reads-inputs, finds-inputs, finds-and_then}

pub reads-logs : {L A : Type 0} (named : L → List ℕ) (more : L → A → List ℕ → A) (known : A)
    (logs : List L) → OnlyReads (takes_logs named more known logs)
reads-logs named more known [] = tt
reads-logs named more known (log ∷ logs) = OnlyReads-then (takes_log (more log) known (named log))
    (λ now. takes_logs named more now logs) (λ found. tt) (λ now. reads-logs named more now logs)

reads-report : {L A : Type 0} (m : Measure L A) (logs : List L) (groups : List Label)
    → OnlyReads (reads_logs m logs groups)
reads-report m logs groups =
    OnlyReads-then (takes_logs m.name (m.more groups) (m.none groups) logs)
    (reports m logs groups) (reads-logs m.name (m.more groups) (m.none groups) logs) (λ known. tt)

pub reads-reported : {L A : Type 0} (m : Measure L A) (isa : List ℕ) (families : Families)
    (names : List (List ℕ))
    (logs : List L) → OnlyReads (log_reported m isa families names logs)
reads-reported m isa families names logs = OnlyReads-then (group_inputs isa families names)
    (λ inputs. reads_logs m logs inputs.groups)
    (reads-inputs isa families names) (λ inputs. reads-report m logs inputs.groups)

pub finds-logs : {L A : Type 0} (files : Files) (named : L → List ℕ) (more : L → A → List ℕ → A)
    (known : A) (logs : List L)
    → Finds files (takes_logs named more known logs) (logs_in files named more known logs)
finds-logs files named more known [] = refl
finds-logs files named more known (log ∷ logs) =
    finds-and_then files (takes_log (more log) known (named log))
    (λ now. takes_logs named more now logs)
    (with_found (more log) known (named log) (files (named log)))
    (λ now. logs_in files named more now logs) refl (λ now. finds-logs files named more now logs)

finds-report : {L A : Type 0} (files : Files) (m : Measure L A) (logs : List L)
    (groups : List Label)
    → Finds files (reads_logs m logs groups) (reported_in m files logs groups)
finds-report files m logs groups =
    finds-and_then files (takes_logs m.name (m.more groups) (m.none groups) logs)
    (reports m logs groups) (logs_in files m.name (m.more groups) (m.none groups) logs)
    (λ known. Ok (m.report groups logs known))
    (finds-logs files m.name (m.more groups) (m.none groups) logs) (λ known. refl)

pub finds-reported : {L A : Type 0} (files : Files) (m : Measure L A) (isa : List ℕ)
    (families : Families)
    (names : List (List ℕ)) (logs : List L)
    → Finds files (log_reported m isa families names logs)
    (log_report_in m files isa families names logs)
finds-reported files m isa families names logs =
    finds-and_then files (group_inputs isa families names)
    (λ inputs. reads_logs m logs inputs.groups)
    (inputs_in files isa families names) (λ inputs. reported_in m files logs inputs.groups)
    (finds-inputs files isa families names) (λ inputs. finds-report files m logs inputs.groups)

-- a log that is kept, and one that is too long
pub accepts-log : {A : Type 0} (more : A → List ℕ → A) (known : A) (name bytes : List ℕ) (now : A)
    → length bytes ≤ log_limit → now ≡ more known bytes
    → with_found more known name (Some bytes) ≡ Ok now
accepts-log more known name bytes now short is =
    cond-false (nat_lt log_limit (length bytes)) _ _ (le-ltb log_limit (length bytes) short)
    ∙ ap Ok (sym is)

pub refuses-log : {A : Type 0} (more : A → List ℕ → A) (known : A) (name bytes text : List ℕ)
    → log_limit < length bytes → text ≡ too_long_text name log_limit
    → with_found more known name (Some bytes) ≡ Err (Refused text)
refuses-log more known name bytes text long is =
    cond-true (nat_lt log_limit (length bytes)) _ _ (lt-ltb log_limit (length bytes) long)
    ∙ ap (λ (t : List ℕ). Err (Refused t)) (sym is)

-- ---- logs that are there
pub as-many : (files : Files) (names logs : List (List ℕ)) → AreLogs files names logs
    → length logs ≡ length names
as-many files [] [] are = refl
as-many files [] (log ∷ logs) are = absurd are
as-many files (name ∷ names) [] are = absurd are
as-many files (name ∷ names) (log ∷ logs) are =
    omega (arith, as-many files names logs are.2)

pub few-logs : (files : Files) (names logs : List (List ℕ)) → AreLogs files names logs
    → length names ≤ 4096 → 0 + 1_099_511_627_776 * length logs ≤ 18_446_744_073_709_551_615
few-logs files names logs are few = omega (arith, as-many files names logs are, few)

-- what logs with these bytes come to together
abbrev pub known_of : {L A : Type 0} → (L → A → List ℕ → A) → A → List (L × List ℕ) → A
known_of more known [] = known
known_of more known (log ∷ logs) = known_of more (more log.0 known log.1) logs

found-logs : {L A : Type 0} (files : Files) (named : L → List ℕ) (more : L → A → List ℕ → A)
    (known : A) (logs : List L) (bytes : List (List ℕ)) → AreLogs files (map named logs) bytes
    → logs_in files named more known logs ≡ Ok (known_of more known (zip logs bytes))
found-logs files named more known [] [] are = refl
found-logs files named more known [] (log ∷ bytes) are = absurd are
found-logs files named more known (log ∷ logs) [] are = absurd are
found-logs {L} {A} files named more known (log ∷ logs) (here ∷ bytes) are =
    ap (λ (r : Result A Stop). and_then r (λ now. logs_in files named more now logs))
    (ap (with_found (more log) known (named log)) are.0
    ∙ accepts-log (more log) known (named log) here (more log known here) are.1 refl)
    ∙ found-logs files named more (more log known here) logs bytes are.2

-- the report over given files, where these are accepted and the logs are there
pub found-report : {L A : Type 0} (files : Files) (m : Measure L A) (isa : List ℕ)
    (families : Families)
    (names : List (List ℕ)) (logs : List L) (inputs : Inputs) (bytes : List (List ℕ))
    → inputs_in files isa families names ≡ Ok inputs → AreLogs files (map m.name logs) bytes
    → log_report_in m files isa families names logs ≡ Ok (m.report inputs.groups logs
    (known_of (m.more inputs.groups) (m.none inputs.groups) (zip logs bytes)))
found-report {L} {A} files m isa families names logs inputs bytes given are =
    ap (λ (r : Result Inputs Stop). and_then r (λ i. reported_in m files logs i.groups)) given
    ∙ ap (λ (r : Result A Stop). and_then r (λ known. Ok (m.report inputs.groups logs known)))
    (found-logs files m.name (m.more inputs.groups) (m.none inputs.groups) logs bytes are)

-- what is left to a counter that was fed before is no more than what a new one takes of a log
pub at_most-log : {old new : HostState} (fed : ℕ)
    → ReadsAtMost 1 (log_limit - fed + piece_limit) old new → ReadsAtMost 1 log_bound old new
at_most-log fed reads = record { opened = reads.opened; taken = omega (arith, reads.taken) }

-- what comes to be known of a log that was read
pub knows-log : {T A : Type 0} {step : T → Reading → T} {name : List ℕ} {old new : HostState}
    {c c' : Taken T} (out : SinkState) (more : A → List ℕ → A) (known now : A)
    (log : TakesLog step name old new c c') → c.fed ≡ 0 → now ≡ more known log.bytes
    → Meets (takes_log more known name) (world old out) (world new out) (Ok now)
knows-log {name = name} out more known now log none is =
    asks-accepted out name log_bound (with_found more known name) log.bytes now log.reads_only
    log.whole (accepts-log more known name log.bytes now (log.short none) is) log.unfaulted
    log.at_most

-- and for which memory was wanting then
pub wants-log : {T A : Type 0} {step : T → Reading → T} {name : List ℕ} {old new : HostState}
    {c c' : Taken T} (out : SinkState) (more : A → List ℕ → A) (known : A)
    → TakesLog step name old new c c'
    → Meets (takes_log more known name) (world old out) (world new out) (Err NoMemory)
wants-log out more known log =
    asks-no_memory out _ log_bound _ log.reads_only log.unfaulted log.at_most
