-- What every call of `propagate` promises.
use Rattle.std.proofs.Common.{◌≡◌, ◌≤◌, ◌+◌, ◌*◌, ℕ, Bool, List, [], ◌∷◌, map, length}
use Rattle.std.proofs.Common.{if◌then◌else◌, Ok, refl, sym, ap, subst, ◌∙◌, arith, ◌++◌}
use Rattle.std.proofs.Common.{append-nil, append_assoc, rules}
use Rattle.std.specs.List.{zip}
use Rattle.std.proofs.lemmas.Slice.Zip.{seconds-zip}
use Rattle.rvs_base.specs.Host.{Files}
use Rattle.rvs_plan.specs.World.{Contents, IsFault}
use Rattle.rvs_plan.specs.declared.status.Status.TheVariants.{Done}
use Rattle.rvs_plan.specs.declared.status.Finish.TheVariants as finish
use Rattle.rvs_log.specs.Entries.{entries_of}
use Rattle.rvs_cgf.specs.Groups.{Label}
use Rattle.std.proofs.lemmas.List.{length-map}
use Rattle.rvs_log.specs.Entries.{Entry}
use Rattle.rvs_cgf.specs.Groups.{Meaning}
use Rattle.rvs_index.specs.Counting.{Aim, aims_of, hits}
use Rattle.rvs_prop.specs.Acts.{Act, acts_of}
use Rattle.rvs_prop.proofs.Listing.{acts_are_entries}
use Rattle.rvs_propagate.specs.declared.propagating.Traced.{Traced}
use Rattle.rvs_prop.specs.Reach.{reached, reaches}
use Rattle.std.specs.Prelude.{◌&&◌}
use Rattle.rvs_prop.specs.Report.{report_of}
use Rattle.rvs_prop.specs.State.{hit_count, hits_for}
use Rattle.rvs_words.specs.declared.command.SignedLog.{SignedLog}
use Rattle.rvs_promises.specs.Call.{Call, Asks}
use Rattle.rvs_promises.specs.Answered.{Answered, OnDone}
use Rattle.rvs_promises.specs.Covering.{HasReported}
use Rattle.rvs_inputs.specs.GroupFiles.{Inputs, inputs_in}
use Rattle.rvs_inputs.specs.Printing.{print_text}
use Rattle.rvs_propagate.specs.Propagate.{measure, untracked, tracked_with, tracks_more, file_name}
use Rattle.rvs_propagate.specs.Propagate.{report_on, report_with, report_in, reported, propagate}
use Rattle.rvs_coverage.specs.LogLines.{lines_of_many}
use Rattle.rvs_coverage.specs.LogReport.{AreLogs}
use Rattle.rvs_coverage.specs.Summing.{sum_up_to_most, over, summed}
use Rattle.rvs_promises.specs.Propagating as propagating
use Rattle.rvs_words.specs.declared.command.Command.TheVariants.{Propagate}
use Rattle.rvs_words.specs.declared.command.PropagateArguments.{PropagateArguments}
use Rattle.rvs_promises.proofs.Answered.{Works, RunsOn, answered}
use Rattle.rvs_promises.proofs.CoverageEnds.{counted-report}
use Rattle.rvs_coverage.proofs.Sums.{plus_map, AreLow, summed_all, over_map, zeros_map, map_map}
use Rattle.rvs_coverage.proofs.Sums.{total_map}
use Rattle.rvs_promises.proofs.LogAmounts.{log-few, count-few}
use Rattle.rvs_promises.proofs.WordLimits.{propagate-few}
use Rattle.rvs_coverage.proofs.LogReads.{reads-reported, finds-reported, known_of, as-many}
use Rattle.rvs_coverage.proofs.LogReads.{few-logs, found-report}
use Rattle.rvs_promises.proofs.OneReached.{one-reached}
use Rattle.rvs_inputs.proofs.Keeping.{WritesNone, WritesNone-then, reads-none}
use Rattle.rvs_promises.proofs.Running.{keeps}
use Rattle.rvs_promises.proofs.Tested.{good-inputs, valid-good}

abbrev works : (files : Files) (asked : PropagateArguments) → Works (propagate asked) files
    (report_in files asked)
works files asked = record {
  inputs = reported asked;
  deeds = print_text;
  ends = λ _. finish.Done;
  plan = refl;
  finds = finds-reported files measure asked.isa asked.families asked.groups asked.logs;
  does = λ report. refl;
}

writes-propagate : (asked : PropagateArguments) → WritesNone (propagate asked)
writes-propagate asked = WritesNone-then (reported asked) print_text
    (reads-none (reported asked)
    (reads-reported measure asked.isa asked.families asked.groups asked.logs))
    (λ report. tt)

-- ---- what is tracked in several logs
-- a log with its bytes
abbrev Log : Type 0
Log = SignedLog × List ℕ

abbrev hits-by : Aim → Log → ℕ
hits-by a log = hit_count (entries_of log.1) a

abbrev all-by : Log → ℕ
all-by log = length (entries_of log.1)

abbrev tracked-at : List Label → (Aim → ℕ) → (Aim → ℕ) → List ℕ → Traced
tracked-at groups f g ns =
    record { reached = map f (aims_of groups); hits = map g (aims_of groups); ran = ns }

known-all : (groups : List Label) (f g : Aim → ℕ) (ns : List ℕ) (logs : List Log)
    → known_of (tracks_more groups) (tracked-at groups f g ns) logs
    ≡ tracked-at groups (λ a. summed (propagating.reached_of a) (f a) logs)
    (λ a. summed (hits-by a) (g a) logs) (ns ++ map all-by logs)
unfolding tracked_with
known-all groups f g ns [] = ap (tracked-at groups f g) (sym (append-nil ns))
known-all groups f g ns (log ∷ logs) =
    let rest = known-all groups (λ a. sum_up_to_most (f a) (propagating.reached_of a log))
    (λ a. sum_up_to_most (g a) (hits-by a log)) (ns ++ all-by log ∷ []) logs in
    (λ i. known_of (tracks_more groups) (record {
      reached = plus_map f (λ a. propagating.reached_of a log) (aims_of groups) i;
      hits = plus_map g (λ a. hits-by a log) (aims_of groups) i;
      ran = ns ++ all-by log ∷ [];
    }) logs)
    ∙ rest
    ∙ ap (tracked-at groups
    (λ a. summed (propagating.reached_of a) (sum_up_to_most (f a) (propagating.reached_of a log))
    logs)
    (λ a. summed (hits-by a) (sum_up_to_most (g a) (hits-by a log)) logs))
    (append_assoc ns (all-by log ∷ []) (map all-by logs))

one-more : (b : Bool) (n m : ℕ) → n ≤ m → (if b then 1 else 0) + n ≤ 1 + m
one-more b n m low = grind arith

acts-few : (lo hi : ℕ) (acts : List Act) (a : Aim) → reached lo hi acts a ≤ length acts
acts-few lo hi [] a = omega arith
acts-few lo hi (act ∷ acts) a =
    omega (
      arith,
      one-more (hits a act.entry && reaches lo hi act.entry acts) (reached lo hi acts a)
          (length acts) (acts-few lo hi acts a),
    )

as-entries : (log : List ℕ) → length (acts_of log) ≡ length (entries_of log)
as-entries log = sym (length-map (acts_of log) (λ (x : Act). x.entry))
    ∙ ap (λ (es : List Entry). length es) (acts_are_entries log)

hits-few : (m : Meaning) (es : List Entry) (a : Aim) → a.point.meaning ≡ m
    → hits_for m es a ≤ length es
hits-few m es a is = search (rules, count-few)

abbrev Have : Files → List SignedLog → List (List ℕ) → Type 0
Have files signed logs = AreLogs files (map file_name signed) logs

low-reached : (files : Files) (a : Aim) (signed : List SignedLog) (logs : List (List ℕ))
    → Have files signed logs → AreLow (propagating.reached_of a) (zip signed logs)
low-reached files a [] [] are = tt
low-reached files a [] (log ∷ logs) are = absurd are
low-reached files a (name ∷ signed) [] are = absurd are
low-reached files a (name ∷ signed) (log ∷ logs) are =
    grind (arith, acts-few, as-entries, log-few, (low-reached files a signed logs are.2))

low-hits : (files : Files) (a : Aim) (signed : List SignedLog) (logs : List (List ℕ))
    → Have files signed logs → AreLow (hits-by a) (zip signed logs)
low-hits files a [] [] are = tt
low-hits files a [] (log ∷ logs) are = absurd are
low-hits files a (name ∷ signed) [] are = absurd are
low-hits files a (name ∷ signed) (log ∷ logs) are =
    grind (arith, hits-few, log-few, (low-hits files a signed logs are.2))

abbrev all-in : List ℕ → ℕ
all-in log = length (entries_of log)

low-all : (files : Files) (names logs : List (List ℕ))
    → AreLogs files names logs → AreLow all-in logs
low-all files [] [] are = tt
low-all files [] (log ∷ logs) are = absurd are
low-all files (name ∷ names) [] are = absurd are
low-all files (name ∷ names) (log ∷ logs) are =
    (omega (arith, log-few log, are.1), low-all files names logs are.2)

-- logs with their bytes, by the bytes alone
as-many-bytes : (files : Files) (signed : List SignedLog) (logs : List (List ℕ))
    → Have files signed logs → length logs ≡ length signed
as-many-bytes files signed logs are = grind (arith, as-many, length-map)

the-bytes : (files : Files) (signed : List SignedLog) (logs : List (List ℕ))
    → Have files signed logs → map (λ (log : Log). log.1) (zip signed logs) ≡ logs
the-bytes files signed logs are = seconds-zip signed logs (as-many-bytes files signed logs are)

over-bytes : (f : List ℕ → ℕ) (files : Files) (signed : List SignedLog) (logs : List (List ℕ))
    → Have files signed logs → over (λ (log : Log). f log.1) (zip signed logs) ≡ over f logs
over-bytes f files signed logs are = grind (arith, over_map, the-bytes)

ran-bytes : (files : Files) (signed : List SignedLog) (logs : List (List ℕ))
    → Have files signed logs → map all-by (zip signed logs) ≡ propagating.ran_in logs
ran-bytes files signed logs are = grind (arith, map_map, the-bytes)

few-names : (signed : List SignedLog) → length signed ≤ 4096
    → length (map file_name signed) ≤ 4096
few-names signed few = omega (arith, length-map signed file_name, few)

room-bytes : (files : Files) (signed : List SignedLog) (logs : List (List ℕ))
    → Have files signed logs → length signed ≤ 4096
    → 0 + 1_099_511_627_776 * length logs ≤ 18_446_744_073_709_551_615
room-bytes files signed logs are few = grind (arith, few-logs, few-names)

room-logs : (files : Files) (signed : List SignedLog) (logs : List (List ℕ))
    → Have files signed logs → length signed ≤ 4096
    → 0 + 1_099_511_627_776 * length (zip signed logs) ≤ 18_446_744_073_709_551_615
room-logs files signed logs are few = grind (arith, length-map, the-bytes, room-bytes)

-- all of it, of logs that are there
known-exact : (files : Files) (groups : List Label) (signed : List SignedLog)
    (logs : List (List ℕ)) → Have files signed logs → length signed ≤ 4096
    → known_of (tracks_more groups) (untracked groups) (zip signed logs)
    ≡ tracked-at groups (propagating.reached_in signed logs) (propagating.hits_in logs)
    (propagating.ran_in logs)
known-exact files groups signed logs are few =
    let room = room-logs files signed logs are few in
    (λ i. known_of (tracks_more groups) (record {
      reached = zeros_map (aims_of groups) i;
      hits = zeros_map (aims_of groups) i;
      ran = [];
    }) (zip signed logs))
    ∙ known-all groups (λ a. 0) (λ a. 0) [] (zip signed logs)
    ∙ (λ i. tracked-at groups
    (λ a. summed_all (propagating.reached_of a) (zip signed logs)
    (low-reached files a signed logs are) room i)
    (λ a. (summed_all (hits-by a) (zip signed logs) (low-hits files a signed logs are) room
    ∙ over-bytes (λ log. hit_count (entries_of log) a) files signed logs are) i)
    (ran-bytes files signed logs are i))

the-report : (groups : List Label) (signed : List SignedLog) (tracked : Traced)
    → report_on groups signed tracked ≡ report_with groups signed tracked
unfolding report_on
the-report groups signed tracked = refl

-- the report on the bytes of logs
abbrev on-bytes : List Label → List SignedLog → List (List ℕ) → List ℕ
on-bytes groups signed logs =
    lines_of_many (map file_name signed) (propagating.ran_in logs)
    ++ report_of groups (map (propagating.reached_in signed logs) (aims_of groups))
    (map (propagating.hits_in logs) (aims_of groups)) (propagating.entries_in logs)

with-total : (files : Files) (groups : List Label) (signed : List SignedLog)
    (logs : List (List ℕ)) → Have files signed logs → length signed ≤ 4096
    → report_with groups signed (tracked-at groups (propagating.reached_in signed logs)
    (propagating.hits_in logs) (propagating.ran_in logs)) ≡ on-bytes groups signed logs
with-total files groups signed logs are few = grind (arith, total_map, low-all, room-bytes)

reported-numbers : {call : Call} (files : Files) (asked : PropagateArguments)
    → Answered call (report_in files asked) (OnDone (HasReported call))
    → length asked.logs ≤ 4096
    → (inputs : Inputs) (logs : List (List ℕ))
    → inputs_in files asked.isa asked.families asked.groups ≡ Ok inputs
    → Have files asked.logs logs → call.status ≡ Done
    → HasReported call (on-bytes inputs.groups asked.logs logs)
reported-numbers {call} files asked a few inputs logs given are done =
    let known = known_of (tracks_more inputs.groups) (untracked inputs.groups)
    (zip asked.logs logs) in
    let same = the-report inputs.groups asked.logs known
    ∙ ap (report_with inputs.groups asked.logs)
    (known-exact files inputs.groups asked.logs logs are few)
    ∙ with-total files inputs.groups asked.logs logs are few in
    subst (HasReported call) same
    (counted-report call (report_in files asked) (report_on inputs.groups asked.logs known)
    (found-report files measure asked.isa asked.families asked.groups asked.logs inputs logs given
    are)
    (a.done done))

-- ---- one log
one-log : (files : Files) (signed : List SignedLog) (log : SignedLog) (bytes : List ℕ)
    → signed ≡ log ∷ [] → propagating.IsLog files log.name bytes
    → Have files signed (bytes ∷ [])
one-log files signed log bytes is is_log = grind arith

no-more : (n : ℕ) → n + 0 ≡ n
no-more n = omega arith

-- the report on one log
abbrev on-one : List Label → SignedLog → List ℕ → List ℕ
on-one groups log bytes = report_of groups
    (map (reached log.signature.lo log.signature.hi (acts_of bytes)) (aims_of groups))
    (map (hit_count (entries_of bytes)) (aims_of groups)) (length (entries_of bytes))

single-report : (groups : List Label) (signed : List SignedLog) (log : SignedLog)
    (bytes : List ℕ) → signed ≡ log ∷ []
    → on-bytes groups signed (bytes ∷ []) ≡ on-one groups log bytes
single-report groups signed log bytes single =
    ap (λ (ls : List SignedLog). on-bytes groups ls (bytes ∷ [])) single
    ∙ (λ i. report_of groups
    (map (λ a. no-more (reached log.signature.lo log.signature.hi (acts_of bytes) a) i)
    (aims_of groups))
    (map (λ a. no-more (hit_count (entries_of bytes) a) i) (aims_of groups))
    (no-more (length (entries_of bytes)) i))

reported-single : {call : Call} (files : Files) (asked : PropagateArguments)
    → Answered call (report_in files asked) (OnDone (HasReported call))
    → length asked.logs ≤ 4096
    → (inputs : Inputs) (log : SignedLog) (bytes : List ℕ)
    → inputs_in files asked.isa asked.families asked.groups ≡ Ok inputs
    → asked.logs ≡ log ∷ [] → propagating.IsLog files log.name bytes → call.status ≡ Done
    → HasReported call (on-one inputs.groups log bytes)
reported-single {call} files asked a few inputs log bytes given single is_log done =
    subst (HasReported call) (single-report inputs.groups asked.logs log bytes single)
    (reported-numbers files asked a few inputs (bytes ∷ []) given
    (one-log files asked.logs log bytes single is_log) done)

pub propagates : {call : Call} (files : Files) (asked : PropagateArguments)
    → RunsOn call files IsFault (propagate asked)
    → Asks call (Propagate asked) → propagating.Propagates call files asked
propagates {call} files asked r is =
    let few = propagate-few call.words asked is in
    let a : Answered call (report_in files asked) (OnDone (HasReported call)) =
    answered (OnDone (HasReported call)) r (works files asked)
    (λ report left. ap (λ (c : Contents). c.out) left) in
    record {
      answered = a;
      numbers = reported-numbers files asked a few;
      single = reported-single files asked a few;
      one = λ isa' l p hit store log bytes given selected points single is_log two first some saved
          done.
          subst (HasReported call)
          (one-reached log.signature.lo log.signature.hi l p hit store bytes selected points
          two first some saved)
          (reported-single files asked a few (record { isa = isa'; groups = l ∷ [] }) log bytes
          given single is_log done);
      valid = λ inputs l given there selected. valid-good inputs l
          (good-inputs files asked.isa asked.families asked.groups inputs given) there selected;
      files_kept = keeps r.ran files r.told (writes-propagate asked);
    }
