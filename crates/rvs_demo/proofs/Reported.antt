-- What the counter reports of the run.
use Rattle.std.proofs.Common.{◌≡◌, ℕ, zero, suc, ◌+◌, List, [], ◌∷◌, refl, ap, subst, ◌∙◌, length}
use Rattle.std.proofs.Common.{map, replicate, arith}
use Rattle.rvs_insn.specs.Fields.{Fields}
use Rattle.rvs_points.specs.PointView.{label_view}
use Rattle.rvs_points.specs.Points as group
use Rattle.rvs_points.specs.declared.group.Label.{Label}
use Rattle.rvs_machine.specs.Machine.{Whole, started}
use Rattle.rvs_machine.specs.Run.{run_of}
use Rattle.rvs_log.specs.Entries.{Entry, entries_of}
use Rattle.rvs_log.specs.Logs.{log_of}
use Rattle.rvs_log.proofs.Octets.{AreBytes, bytes_below, joined, word_bytes}
use Rattle.rvs_log.proofs.RunLogs.{run_entries}
use Rattle.rvs_index.specs.Counting.{aims_of, count, kept}
use Rattle.rvs_count.specs.Report.{report_of}
use Rattle.rvs_log.specs.Taken.{IsTold, ended, state_for}
use Rattle.rvs_log.specs.Grammar.{Reading}
use Rattle.rvs_index.specs.State.{CountState, Tallied, state_of, tally_of, with_reading}
use Rattle.rvs_log.specs.Feeds.{Fed}
use Rattle.rvs_base.specs.declared.asked.Window.{Window}
use Rattle.rvs_count.proofs.Streams.{tally_told}
use Rattle.rvs_count.proofs.Ends.{counted_all, counted_instructions, counted_labels}
use Rattle.rvs_demo.specs.Program.{code, core, image, program}
use Rattle.rvs_demo.specs.Label.{label}
use Rattle.rvs_demo.specs.Demo.{run, entries, report}

-- ---- the log has the run's instructions as its entries
code_bytes : (is : List Fields) → AreBytes (code is)
code_bytes [] = tt
code_bytes (i ∷ is) = grind (arith, joined, word_bytes, (code_bytes is))

zero_bytes : (n : ℕ) → AreBytes (replicate n 0)
zero_bytes zero = tt
zero_bytes (suc n) = (omega arith, zero_bytes n)

log_entries : (n : ℕ) → entries_of (log_of (run n).trace) ≡ entries n
unfolding run
log_entries n =
    run_entries (image n) core (n + 11) (omega arith)
    (bytes_below (code (program n)) (code_bytes (program n)))
    (bytes_below (replicate 8 0) (zero_bytes 8))

-- ---- no windows leave all in
all_kept : (es : List Entry) → kept [] es ≡ es
all_kept [] = refl
all_kept (e ∷ es) = ap (λ l. e ∷ l) (all_kept es)

-- ---- what is reported
abbrev pub report_in : CountState → List ℕ
report_in s = report_of (map label_view s.told.labels) s.told.counts s.told.instructions

abbrev reported : List group.Label → List Entry → List ℕ
reported labels es = report_of labels (map (count es) (aims_of labels)) (length es)

run_report : (labels : List Label) (n fed : ℕ) → map label_view labels ≡ label ∷ []
    → report_in (state_of labels [] (ended (log_of (run n).trace)) fed) ≡ report n
run_report labels n fed is =
    let log = log_of (run n).trace in
    (λ i. report_of (map label_view (counted_labels labels [] (ended log) fed i))
    (counted_all labels [] log fed i) (counted_instructions labels [] log fed i))
    ∙ ap (reported (map label_view labels)) (all_kept (entries_of log) ∙ log_entries n)
    ∙ ap (λ ls. reported ls (entries n)) is

run_log : (n : ℕ) (m : Whole) → m ≡ started (image n) core
    → log_of (run_of m.setup (n + 11) m.state).trace ≡ log_of (run n).trace
unfolding run
run_log n m is = ap (λ (m : Whole). log_of (run_of m.setup (n + 11) m.state).trace) is

-- the run's log is fed to a counter, and ended
pub fed_report : (n : ℕ) (m : Whole) (labels : List Label) (windows : List Window)
    (first now last : CountState) → m ≡ started (image n) core → windows ≡ []
    → map label_view labels ≡ label ∷ [] → first ≡ state_of labels windows [] 0
    → Fed with_reading first now (log_of (run_of m.setup (n + 11) m.state).trace)
    → ((told : List Reading → Tallied) → IsTold with_reading told → (bytes : List ℕ) (k : ℕ)
    → now ≡ state_for told bytes k → last ≡ state_for told (ended bytes) k)
    → report_in last ≡ report n
fed_report n m labels windows first now last machine none groups start fed finish =
    let log = log_of (run n).trace in
    let whole : Fed with_reading first now log =
    subst (Fed with_reading first now) (run_log n m machine) fed in
    let k = 0 + length log in
    let told = tally_of labels windows in
    let is = tally_told labels windows in
    ap report_in (finish told is log k (whole.state told is [] 0 start))
    ∙ ap (λ ws. report_in (state_of labels ws (ended log) k)) none
    ∙ run_report labels n k groups
