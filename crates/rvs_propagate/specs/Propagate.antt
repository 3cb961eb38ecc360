-- What `propagate` does.
use Rattle.std.specs.Prelude.{◌≡◌, ℕ, List, [], ◌∷◌, ◌++◌, map, length, replicate, Result}
use Rattle.rvs_base.specs.Host.{Files}
use Rattle.rvs_plan.specs.Plan.{Plan, ◌>>=◌}
use Rattle.rvs_plan.specs.declared.stop.Stop.{Stop}
use Rattle.rvs_plan.specs.declared.status.Finish.{Finish}
use Rattle.rvs_log.specs.Entries.{entries_of}
use Rattle.rvs_cgf.specs.Groups.{Label}
use Rattle.rvs_index.specs.Counting.{aims_of}
use Rattle.rvs_prop.specs.Acts.{acts_of}
use Rattle.rvs_prop.specs.Reach.{reached}
use Rattle.rvs_prop.specs.Report.{report_of}
use Rattle.rvs_prop.specs.State.{TrackState, Trailed, hit_count}
use Rattle.rvs_propagate.specs.declared.propagating.Traced.{Traced}
use Rattle.rvs_propagate.specs.declared.propagating.Tracking.{Tracking}
use Rattle.rvs_words.specs.declared.command.SignedLog.{SignedLog}
use Rattle.rvs_base.specs.declared.asked.Window.{Window}
use Rattle.rvs_inputs.specs.GroupsView.{groups_view}
use Rattle.rvs_inputs.specs.Printing.{print_text}
use Rattle.rvs_coverage.specs.Summing.{plus_each, total_of}
use Rattle.rvs_coverage.specs.LogLines.{lines_of_many}
use Rattle.rvs_coverage.specs.LogReport.{Measure, log_report_in, log_reported}
use Rattle.rvs_words.specs.declared.command.PropagateArguments.{PropagateArguments}

-- there are so many numbers of each kind
abbrev pub AreLong : ℕ → Traced → Type 0
AreLong n traced = (length traced.reached ≡ n) × (length traced.hits ≡ n)

-- nothing was tracked of these groups' points
abbrev pub untracked : List Label → Traced
untracked groups = record {
  reached = replicate (length (aims_of groups)) 0;
  hits = replicate (length (aims_of groups)) 0;
  ran = [];
}

-- with a log more, for a range that has the signature: how many instructions there are, how many of
-- them hit each point, and how many of these hits reach the signature; the registers begin anew
-- with it
unfoldable pub tracked_with : Window → List Label → Traced → List ℕ → Traced
tracked_with range groups traced log = record {
  reached = plus_each traced.reached
      (map (reached range.lo range.hi (acts_of log)) (aims_of groups));
  hits = plus_each traced.hits (map (hit_count (entries_of log)) (aims_of groups));
  ran = traced.ran ++ length (entries_of log) ∷ [];
}

-- a log is named by its file
abbrev pub file_name : SignedLog → List ℕ
file_name log = log.name

-- the report of this many hits and instructions; of several logs, their lines stand before it
abbrev pub report_with : List Label → List SignedLog → Traced → List ℕ
report_with groups logs traced = lines_of_many (map file_name logs) traced.ran
    ++ report_of groups traced.reached traced.hits (total_of traced.ran)

unfoldable pub report_on : List Label → List SignedLog → Traced → List ℕ
report_on groups logs traced = report_with groups logs traced

-- with a log more, by its own range
abbrev pub tracks_more : List Label → SignedLog → Traced → List ℕ → Traced
tracks_more groups log = tracked_with log.signature groups

-- with what was tracked in a log
abbrev pub with_trail : Traced → Trailed → Traced
with_trail traced t = record {
  reached = plus_each traced.reached t.reached;
  hits = plus_each traced.hits t.hits;
  ran = traced.ran ++ t.instructions ∷ [];
}

-- by a tracker for its groups
abbrev pub more_by : TrackState → SignedLog → Traced → List ℕ → Traced
more_by t = tracks_more (groups_view t.told.labels)

abbrev pub taken_more : Tracking → SignedLog → Traced → List ℕ → Traced
taken_more t = more_by t.tracker

abbrev pub measure : Measure SignedLog Traced
measure = record {
  name = file_name;
  none = untracked;
  more = tracks_more;
  report = report_on;
}

-- ---- over given files
abbrev pub report_in : Files → PropagateArguments → Result (List ℕ) Stop
report_in files asked =
    log_report_in measure files asked.isa asked.families asked.groups asked.logs

-- ---- as plans
-- the ISA file and the group files are read and checked, and then the logs are tracked
abbrev pub reported : PropagateArguments → Plan (List ℕ)
reported asked = log_reported measure asked.isa asked.families asked.groups asked.logs

-- and then the report is put
abbrev pub propagate : PropagateArguments → Plan Finish
propagate asked = do
  report ← reported asked
  print_text report
