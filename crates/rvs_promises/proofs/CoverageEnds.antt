-- What every call of `coverage` promises.
use Rattle.std.proofs.Common.{◌≡◌, ◌≤◌, ◌+◌, ℕ, List, [], ◌∷◌, map, length, Result, Ok, refl, sym}
use Rattle.std.proofs.Common.{ap, subst, ◌∙◌, arith, ◌++◌, append_assoc, append-nil}
use Rattle.rvs_base.specs.Host.{Files}
use Rattle.rvs_plan.specs.World.{Contents, IsFault}
use Rattle.rvs_plan.specs.declared.stop.Stop.{Stop}
use Rattle.rvs_plan.specs.declared.status.Status.TheVariants.{Done}
use Rattle.rvs_log.specs.Entries.{Entry, entries_of}
use Rattle.rvs_cgf.specs.Groups.{Label}
use Rattle.rvs_index.specs.Counting.{Aim, aims_of, count, kept}
use Rattle.rvs_coverage.specs.declared.covering.Covered.{Covered}
use Rattle.rvs_log.specs.Logs.{log_of, as_entry}
use Rattle.rvs_count.specs.Report.{report_of}
use Rattle.rvs_base.specs.declared.asked.Window.{Window}
use Rattle.rvs_plan.specs.declared.status.Finish.TheVariants as finish
use Rattle.rvs_promises.specs.Call.{Call, Asks}
use Rattle.rvs_promises.specs.Answered.{HasLeft, Answered, OnDone}
use Rattle.rvs_inputs.specs.GroupFiles.{Inputs, inputs_in}
use Rattle.rvs_coverage.specs.Coverage.{measure, uncounted, counted_with, counts_more, file_name}
use Rattle.rvs_coverage.specs.Coverage.{report_on, report_with, report_in, reported}
use Rattle.rvs_coverage.specs.LogLines.{log_line, lines_of_many}
use Rattle.std.specs.List.{zip}
use Rattle.rvs_inputs.specs.Printing.{print_text}
use Rattle.rvs_coverage.specs.Coverage.{coverage}
use Rattle.rvs_promises.specs.Covering as covering
use Rattle.rvs_words.specs.declared.command.Command.TheVariants.{Coverage}
use Rattle.rvs_promises.proofs.Answered.{Works, RunsOn, answered}
use Rattle.rvs_promises.proofs.OneCount.{one-count}
use Rattle.rvs_promises.proofs.LogEntries.{halting_entries}
use Rattle.rvs_coverage.specs.LogReport.{AreLogs}
use Rattle.rvs_coverage.specs.Summing.{sum_up_to_most, over, summed}
use Rattle.rvs_coverage.proofs.Sums.{plus_map, AreLow, summed_all, over_map, zeros_map, map_map}
use Rattle.rvs_coverage.proofs.Sums.{total_map}
use Rattle.rvs_promises.proofs.LogAmounts.{log-few, kept-few, count-few}
use Rattle.rvs_promises.proofs.WordLimits.{coverage-few}
use Rattle.rvs_coverage.proofs.LogReads.{reads-reported, finds-reported, known_of, found-report}
use Rattle.rvs_coverage.proofs.LogReads.{few-logs}
use Rattle.rvs_inputs.proofs.Keeping.{WritesNone, WritesNone-then, reads-none}
use Rattle.rvs_promises.proofs.Running.{keeps}
use Rattle.rvs_promises.proofs.Tested.{good-inputs, valid-good}
use Rattle.rvs_words.specs.declared.command.CoverageArguments.{CoverageArguments}

abbrev works : (files : Files) (asked : CoverageArguments) → Works (coverage asked) files
    (report_in files asked)
works files asked = record {
  inputs = reported asked;
  deeds = print_text;
  ends = λ _. finish.Done;
  plan = refl;
  finds = finds-reported files (measure asked.windows) asked.isa asked.families asked.groups
      asked.logs;
  does = λ report. refl;
}

writes-coverage : (asked : CoverageArguments)
    → WritesNone (coverage asked)
writes-coverage asked = WritesNone-then (reported asked)
    print_text
    (reads-none (reported asked)
    (reads-reported (measure asked.windows) asked.isa asked.families asked.groups asked.logs))
    (λ report. tt)

-- ---- what is counted in several logs
abbrev hits-in : List Window → Aim → List ℕ → ℕ
hits-in windows a log = count (kept windows (entries_of log)) a

abbrev all-in : List Window → List ℕ → ℕ
all-in windows log = length (kept windows (entries_of log))

-- what logs of these bytes come to, whatever they are called
abbrev known-in : (Covered → List ℕ → Covered) → Covered → List (List ℕ) → Covered
known-in more known [] = known
known-in more known (log ∷ logs) = known-in more (more known log) logs

names-same : (names : List (List ℕ)) → map file_name names ≡ names
names-same [] = refl
names-same (name ∷ names) = ap (λ (ns : List (List ℕ)). name ∷ ns) (names-same names)

by-bytes : (files : Files) (windows : List Window) (groups : List Label) (known : Covered)
    (names logs : List (List ℕ)) → AreLogs files names logs
    → known_of (counts_more windows groups) known (zip names logs)
    ≡ known-in (counted_with windows groups) known logs
by-bytes files windows groups known [] [] are = refl
by-bytes files windows groups known [] (log ∷ logs) are = absurd are
by-bytes files windows groups known (name ∷ names) [] are = absurd are
by-bytes files windows groups known (name ∷ names) (log ∷ logs) are =
    by-bytes files windows groups (counted_with windows groups known log) names logs are.2

known-all : (windows : List Window) (groups : List Label) (f : Aim → ℕ) (ns : List ℕ)
    (logs : List (List ℕ))
    → known-in (counted_with windows groups)
    (record { counts = map f (aims_of groups); ran = ns }) logs
    ≡ record {
      counts = map (λ a. summed (hits-in windows a) (f a) logs) (aims_of groups);
      ran = ns ++ map (all-in windows) logs;
    }
unfolding counted_with
known-all windows groups f ns [] = λ i. record {
  counts = map f (aims_of groups);
  ran = sym (append-nil ns) i;
}
known-all windows groups f ns (log ∷ logs) =
    let rest = known-all windows groups (λ a. sum_up_to_most (f a) (hits-in windows a log))
    (ns ++ all-in windows log ∷ []) logs in
    ap (λ (cs : List ℕ). known-in (counted_with windows groups) (record {
      counts = cs;
      ran = ns ++ all-in windows log ∷ [];
    }) logs) (plus_map f (λ a. hits-in windows a log) (aims_of groups))
    ∙ rest
    ∙ (λ i. record {
      counts = map (λ a. summed (hits-in windows a) (sum_up_to_most (f a) (hits-in windows a log))
          logs) (aims_of groups);
      ran = append_assoc ns (all-in windows log ∷ []) (map (all-in windows) logs) i;
    })

low-hits : (files : Files) (windows : List Window) (a : Aim) (names logs : List (List ℕ))
    → AreLogs files names logs → AreLow (hits-in windows a) logs
low-hits files windows a [] [] are = tt
low-hits files windows a [] (log ∷ logs) are = absurd are
low-hits files windows a (name ∷ names) [] are = absurd are
low-hits files windows a (name ∷ names) (log ∷ logs) are =
    grind (arith, count-few, kept-few, log-few, (low-hits files windows a names logs are.2))

low-all : (files : Files) (windows : List Window) (names logs : List (List ℕ))
    → AreLogs files names logs → AreLow (all-in windows) logs
low-all files windows [] [] are = tt
low-all files windows [] (log ∷ logs) are = absurd are
low-all files windows (name ∷ names) [] are = absurd are
low-all files windows (name ∷ names) (log ∷ logs) are =
    grind (arith, kept-few, log-few, (low-all files windows names logs are.2))

-- all of it, of logs that are there
known-exact : (files : Files) (windows : List Window) (groups : List Label)
    (names logs : List (List ℕ)) → AreLogs files names logs → length names ≤ 4096
    → known_of (counts_more windows groups) (uncounted groups) (zip names logs) ≡ record {
      counts = map (λ a. over (hits-in windows a) logs) (aims_of groups);
      ran = map (all-in windows) logs;
    }
known-exact files windows groups names logs are few =
    let room = few-logs files names logs are few in
    by-bytes files windows groups (uncounted groups) names logs are
    ∙ ap (λ (cs : List ℕ). known-in (counted_with windows groups)
    (record { counts = cs; ran = [] }) logs) (zeros_map (aims_of groups))
    ∙ known-all windows groups (λ a. 0) [] logs
    ∙ (λ i. record {
      counts = map (λ a. summed_all (hits-in windows a) logs
          (low-hits files windows a names logs are) room i) (aims_of groups);
      ran = map (all-in windows) logs;
    })

the-report : (groups : List Label) (names : List (List ℕ)) (counted : Covered)
    → report_on groups names counted ≡ report_with groups names counted
unfolding report_on
the-report groups names counted = refl

-- the report on the entries of logs
abbrev the-counts : List Window → List Label → List (List Entry) → List ℕ
the-counts windows groups logs = report_of groups
    (map (covering.counted_in windows logs) (aims_of groups))
    (covering.instructions_in windows logs)

abbrev on-entries : List Window → List Label → List (List ℕ) → List (List Entry) → List ℕ
on-entries windows groups names logs =
    lines_of_many names (covering.ran_in windows logs) ++ the-counts windows groups logs

by-entries : (files : Files) (windows : List Window) (groups : List Label)
    (names bytes : List (List ℕ)) → AreLogs files names bytes → length names ≤ 4096
    → report_with groups names (record {
      counts = map (λ a. over (hits-in windows a) bytes) (aims_of groups);
      ran = map (all-in windows) bytes;
    }) ≡ on-entries windows groups names (map entries_of bytes)
by-entries files windows groups names bytes are few =
    let low = low-all files windows names bytes are in
    let room = few-logs files names bytes are few in
    λ i. lines_of_many names (sym (map_map (λ es. length (kept windows es)) entries_of bytes) i)
    ++ report_of groups
    (map (λ a. sym (over_map (λ es. count (kept windows es) a) entries_of bytes) i)
    (aims_of groups))
    ((total_map (all-in windows) bytes low room
    ∙ sym (over_map (λ es. length (kept windows es)) entries_of bytes)) i)

pub counted-report : (call : Call) (found : Result (List ℕ) Stop) (report : List ℕ)
    → found ≡ Ok report
    → HasLeft found (covering.HasReported call) → covering.HasReported call report
counted-report call found report is left = let same : left.given ≡ report = cc in
    subst (covering.HasReported call) same left.left

reported-counts : {call : Call} (files : Files) (asked : CoverageArguments)
    → Answered call (report_in files asked)
    (OnDone (covering.HasReported call)) → length asked.logs ≤ 4096
    → (inputs : Inputs) (logs : List (List Entry))
    → inputs_in files asked.isa asked.families asked.groups ≡ Ok inputs
    → covering.AreLogsOf files asked.logs logs → call.status ≡ Done → covering.HasReported call
    (on-entries asked.windows inputs.groups asked.logs logs)
reported-counts {call} files asked a few inputs logs given are done =
    let m = measure asked.windows in
    let known = known_of (counts_more asked.windows inputs.groups) (uncounted inputs.groups)
    (zip asked.logs are.bytes) in
    let there = subst (λ (ns : List (List ℕ)). AreLogs files ns are.bytes)
    (sym (names-same asked.logs)) are.there in
    let same = the-report inputs.groups asked.logs known
    ∙ ap (report_with inputs.groups asked.logs)
    (known-exact files asked.windows inputs.groups asked.logs are.bytes are.there few)
    ∙ by-entries files asked.windows inputs.groups asked.logs are.bytes are.there few
    ∙ ap (on-entries asked.windows inputs.groups asked.logs) are.entries in
    subst (covering.HasReported call) same
    (counted-report call (report_in files asked) (report_on inputs.groups asked.logs known)
    (found-report files m asked.isa asked.families asked.groups asked.logs inputs are.bytes given
    there)
    (a.done done))

-- ---- one log
one-log : (files : Files) (names : List (List ℕ)) (log : List ℕ) (entries : List Entry)
    → names ≡ log ∷ [] → covering.IsLogOf files log entries
    → covering.AreLogsOf files names (entries ∷ [])
one-log files names log entries is is_log = record {
  bytes = is_log.0 ∷ [];
  there = subst (λ (ns : List (List ℕ)). AreLogs files ns (is_log.0 ∷ [])) (sym is)
      (is_log.1, is_log.2, tt);
  entries = ap (λ (es : List Entry). es ∷ []) is_log.3;
}

no-more : (n : ℕ) → n + 0 ≡ n
no-more n = omega arith

alone-report : (windows : List Window) (groups : List Label) (names : List (List ℕ))
    (log : List ℕ) (entries : List Entry) → names ≡ log ∷ []
    → on-entries windows groups names (entries ∷ [])
    ≡ report_of groups (map (count (kept windows entries)) (aims_of groups))
    (length (kept windows entries))
alone-report windows groups names log entries single =
    ap (λ (ns : List (List ℕ)). on-entries windows groups ns (entries ∷ [])) single
    ∙ (λ i. report_of groups
    (map (λ a. no-more (count (kept windows entries) a) i) (aims_of groups))
    (no-more (length (kept windows entries)) i))

reported-alone : {call : Call} (files : Files) (asked : CoverageArguments)
    → Answered call (report_in files asked)
    (OnDone (covering.HasReported call)) → length asked.logs ≤ 4096
    → (inputs : Inputs) (log : List ℕ) (entries : List Entry)
    → inputs_in files asked.isa asked.families asked.groups ≡ Ok inputs → asked.logs ≡ log ∷ []
    → covering.IsLogOf files log entries → call.status ≡ Done → covering.HasReported call
    (report_of inputs.groups (map (count (kept asked.windows entries)) (aims_of inputs.groups))
    (length (kept asked.windows entries)))
reported-alone {call} files asked a few inputs log entries given single is_log done =
    subst (covering.HasReported call)
    (alone-report asked.windows inputs.groups asked.logs log entries single)
    (reported-counts files asked a few inputs (entries ∷ []) given
    (one-log files asked.logs log entries single is_log) done)

-- ---- two logs
two-logs : (files : Files) (names : List (List ℕ)) (log other : List ℕ)
    (first second : List Entry) → names ≡ log ∷ other ∷ []
    → covering.IsLogOf files log first → covering.IsLogOf files other second
    → covering.AreLogsOf files names (first ∷ second ∷ [])
two-logs files names log other first second is one two = record {
  bytes = one.0 ∷ two.0 ∷ [];
  there = subst (λ (ns : List (List ℕ)). AreLogs files ns (one.0 ∷ two.0 ∷ [])) (sym is)
      (one.1, one.2, (two.1, two.2, tt));
  entries = λ i. one.3 i ∷ two.3 i ∷ [];
}

plus-none : (n m : ℕ) → n + (m + 0) ≡ n + m
plus-none n m = omega arith

-- the report on two logs
abbrev on-two : List Window → List Label → List ℕ → List ℕ → List Entry → List Entry → List ℕ
on-two windows groups log other first second =
    (log_line log (length (kept windows first))
    ++ (log_line other (length (kept windows second)) ++ []))
    ++ report_of groups
    (map (λ a. count (kept windows first) a + count (kept windows second) a) (aims_of groups))
    (length (kept windows first) + length (kept windows second))

two-report : (windows : List Window) (groups : List Label) (names : List (List ℕ))
    (log other : List ℕ) (first second : List Entry) → names ≡ log ∷ other ∷ []
    → on-entries windows groups names (first ∷ second ∷ [])
    ≡ on-two windows groups log other first second
two-report windows groups names log other first second both =
    ap (λ (ns : List (List ℕ)). on-entries windows groups ns (first ∷ second ∷ [])) both
    ∙ (λ i. (log_line log (length (kept windows first))
    ++ (log_line other (length (kept windows second)) ++ []))
    ++ report_of groups
    (map (λ a. plus-none (count (kept windows first) a) (count (kept windows second) a) i)
    (aims_of groups))
    (plus-none (length (kept windows first)) (length (kept windows second)) i))

reported-two : {call : Call} (files : Files) (asked : CoverageArguments)
    → Answered call (report_in files asked)
    (OnDone (covering.HasReported call)) → length asked.logs ≤ 4096
    → (inputs : Inputs) (log other : List ℕ) (first second : List Entry)
    → inputs_in files asked.isa asked.families asked.groups ≡ Ok inputs → asked.logs
    ≡ log ∷ other ∷ []
    → covering.IsLogOf files log first → covering.IsLogOf files other second
    → call.status ≡ Done → covering.HasReported call
    (on-two asked.windows inputs.groups log other first second)
reported-two {call} files asked a few inputs log other first second given both one two done =
    subst (covering.HasReported call)
    (two-report asked.windows inputs.groups asked.logs log other first second both)
    (reported-counts files asked a few inputs (first ∷ second ∷ []) given
    (two-logs files asked.logs log other first second both one two) done)

pub covers : {call : Call} (files : Files) (asked : CoverageArguments)
    → RunsOn call files IsFault (coverage asked)
    → Asks call (Coverage asked) → covering.Covers call files asked
covers {call} files asked r is =
    let few = coverage-few call.words asked is in
    let a : Answered call (report_in files asked)
    (OnDone (covering.HasReported call)) =
    answered (OnDone (covering.HasReported call)) r (works files asked)
    (λ report left. ap (λ (c : Contents). c.out) left) in
    record {
      answered = a;
      counts = reported-counts files asked a few;
      two = reported-two files asked a few;
      alone = reported-alone files asked a few;
      one = λ isa' l p log e given selected points none single is_log hit done.
          subst (covering.HasReported call) (one-count asked.windows l p e selected points none hit)
          (reported-alone files asked a few
          (record { isa = isa'; groups = l ∷ [] }) log (e ∷ []) given single is_log done);
      of_run = λ inputs log test steps run given halts octets single there short done.
          reported-alone files asked a few inputs log (map as_entry run.trace) given single (
            log_of run.trace,
            there,
            short,
            halting_entries files asked.isa test steps run halts octets,
          ) done;
      valid = λ inputs l given there selected. valid-good inputs l
          (good-inputs files asked.isa asked.families asked.groups inputs given) there selected;
      files_kept = keeps r.ran files r.told (writes-coverage asked);
    }
