-- What `coverage` does.
use Rattle.std.specs.Prelude.{ℕ, List, [], ◌∷◌, ◌++◌, map, length, replicate, Result}
use Rattle.rvs_base.specs.Host.{Files}
use Rattle.rvs_plan.specs.Plan.{Plan, ◌>>=◌}
use Rattle.rvs_plan.specs.declared.stop.Stop.{Stop}
use Rattle.rvs_plan.specs.declared.status.Finish.{Finish}
use Rattle.rvs_log.specs.Entries.{entries_of}
use Rattle.rvs_cgf.specs.Groups.{Label}
use Rattle.rvs_index.specs.Counting.{aims_of, count, kept}
use Rattle.rvs_count.specs.Report.{report_of}
use Rattle.rvs_index.specs.State.{CountState, Tallied}
use Rattle.rvs_coverage.specs.declared.covering.Covered.{Covered}
use Rattle.rvs_base.specs.declared.asked.Window.{Window}
use Rattle.rvs_inputs.specs.GroupsView.{groups_view}
use Rattle.rvs_inputs.specs.Printing.{print_text}
use Rattle.rvs_coverage.specs.Summing.{plus_each, total_of}
use Rattle.rvs_coverage.specs.LogLines.{lines_of_many}
use Rattle.rvs_coverage.specs.LogReport.{Measure, log_report_in, log_reported}
use Rattle.rvs_words.specs.declared.command.CoverageArguments.{CoverageArguments}

-- nothing was counted of these groups' points
abbrev pub uncounted : List Label → Covered
uncounted groups = record { counts = replicate (length (aims_of groups)) 0; ran = [] }

-- with a log more: how many of its instructions the windows leave, and how many of these hit each
-- point; the registers and the neighbours begin anew with it
unfoldable pub counted_with : List Window → List Label → Covered → List ℕ → Covered
counted_with windows groups covered log = record {
  counts = plus_each covered.counts (map (count (kept windows (entries_of log))) (aims_of groups));
  ran = covered.ran ++ length (kept windows (entries_of log)) ∷ [];
}

-- the report of this many hits and instructions; of several logs, their lines stand before it
abbrev pub report_with : List Label → List (List ℕ) → Covered → List ℕ
report_with groups names covered =
    lines_of_many names covered.ran ++ report_of groups covered.counts (total_of covered.ran)

unfoldable pub report_on : List Label → List (List ℕ) → Covered → List ℕ
report_on groups names covered = report_with groups names covered

-- a log is named by its file
abbrev pub file_name : List ℕ → List ℕ
file_name name = name

abbrev pub counts_more : List Window → List Label → List ℕ → Covered → List ℕ → Covered
counts_more windows groups name = counted_with windows groups

-- with what was counted in a log
abbrev pub with_tally : Covered → Tallied → Covered
with_tally covered t = record {
  counts = plus_each covered.counts t.counts;
  ran = covered.ran ++ t.instructions ∷ [];
}

-- by a counter for its windows and groups
abbrev pub taken_more : CountState → List ℕ → Covered → List ℕ → Covered
taken_more c = counts_more c.told.windows (groups_view c.told.labels)

-- for the windows of a command line
abbrev pub measure : List Window → Measure (List ℕ) Covered
measure windows = record {
  name = file_name;
  none = uncounted;
  more = counts_more windows;
  report = report_on;
}

-- ---- over given files
abbrev pub report_in : Files → CoverageArguments → Result (List ℕ) Stop
report_in files asked =
    log_report_in (measure asked.windows) files asked.isa asked.families asked.groups asked.logs

-- ---- as plans
abbrev pub reported : CoverageArguments → Plan (List ℕ)
reported asked =
    log_reported (measure asked.windows) asked.isa asked.families asked.groups asked.logs

-- and then the report is put
abbrev pub coverage : CoverageArguments → Plan Finish
coverage asked = do
  report ← reported asked
  print_text report
