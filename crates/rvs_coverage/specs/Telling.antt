-- The lines of progress that a command puts to the sink for errors, and how it ends that has any.
use Rattle.std.specs.Prelude.{ℕ, Bool, true, false, List, [], ◌∷◌, ◌++◌, Result, Ok, Err}
use Rattle.rvs_base.specs.Host.{HostState, Files}
use Rattle.rvs_base.specs.Sink.{SinkState}
use Rattle.rvs_plan.specs.declared.stop.Stop.{Stop}
use Rattle.rvs_plan.specs.declared.stop.Stop.TheVariants.{NoMemory}
use Rattle.rvs_log.specs.Progress.{HasTold, lines_of_file}
use Rattle.rvs_coverage.specs.declared.unfinished.Unfinished.{Unfinished}
use Rattle.rvs_coverage.specs.declared.unfinished.Unfinished.TheVariants.{Stopped, Untold}

-- the lines of logs that are read to their ends, log after log
abbrev pub lines_of_logs : {L : Type 0} → (L → List ℕ) → List L → Files → List ℕ
lines_of_logs named [] files = []
lines_of_logs named (log ∷ logs) files =
    lines_of_file (named log) (files (named log)) ++ lines_of_logs named logs files

-- ---- ends
-- where a line couldn't be put, the plan of the work was left as it is for want of memory: some of
-- it was done, and no call of the host or of the output failed
abbrev pub stop_of : Unfinished → Stop
stop_of (Stopped stop) = stop
stop_of Untold = NoMemory

abbrev pub as_planned : {A : Type 0} → Result A Unfinished → Result A Stop
as_planned (Ok a) = Ok a
as_planned (Err unfinished) = Err (stop_of unfinished)

abbrev pub unlost : {A : Type 0} → Result A Stop → Result A Unfinished
unlost (Ok a) = Ok a
unlost (Err stop) = Err (Stopped stop)

abbrev pub is_untold : Unfinished → Bool
is_untold (Stopped stop) = false
is_untold Untold = true

-- it was lost for a line that couldn't be put
abbrev pub is_lost : {A : Type 0} → Result A Unfinished → Bool
is_lost (Ok a) = false
is_lost (Err unfinished) = is_untold unfinished

abbrev pub is_whole : {A : Type 0} → Result A Unfinished → Bool
is_whole (Ok a) = true
is_whole (Err unfinished) = false

-- what work that ended so told of these lines
abbrev pub HasToldOf : {A : Type 0} → Bool → (Files → List ℕ) → HostState → SinkState → SinkState
    → Result A Unfinished → Type 0
HasToldOf asked lines host old new result =
    HasTold asked lines host old new (is_whole result) (is_lost result)
