-- What every call of the program promises.
use Rattle.rvs_base.specs.Sink.{SinkState}
use Rattle.rvs_promises.specs.Call.{Call}
use Rattle.rvs_suite.specs.Planned as following
use Rattle.rvs_suite.specs.Causes as answering
use Rattle.rvs_promises.specs.Comparing as comparing
use Rattle.rvs_promises.specs.Validating as validating
use Rattle.rvs_promises.specs.Normalizing as normalizing
use Rattle.rvs_promises.specs.Generating as generating
use Rattle.rvs_promises.specs.Referencing as referencing
use Rattle.rvs_promises.specs.Covering as covering
use Rattle.rvs_promises.specs.Propagating as propagating
use Rattle.rvs_promises.specs.Progressing as progressing
use Rattle.rvs_suite.specs.Judging as judging
use Rattle.rvs_suite.specs.JudgingDatabase as database
use Rattle.rvs_suite.specs.Reporting as reporting
use Rattle.rvs_promises.specs.Selecting as selecting
use Rattle.rvs_promises.specs.Demonstrating as demonstrating

-- The first facts are of every call. Each other is of the calls whose words ask for its command:
-- what the answer means, what leads to it, and what is left. Where a call tells its progress, what
-- is said of a line for errors and of faults is said as from the time when that was told.
pub record Promise (call : Call) : Type 0 where
  -- what the sink for errors had when the work had ended: what it had before, unless the words ask
  -- for progress
  pub told : SinkState
  pub progress : progressing.Promise call told
  -- over told files, what was done is a beginning of the effects that the words mean, and the
  -- status is theirs
  pub planned : following.Promise (progressing.behind call told)
  -- over any host and any sinks, each answer has its cause and its line, and no fault is passed
  -- over
  pub causes : answering.Promise (progressing.behind call told)
  -- it passes where both files spell the same words, and fails where they differ
  pub compare : comparing.Promise call
  -- it is done where the checks accept the ISA file, and puts what this says
  pub validate : validating.Promise call
  -- it puts the groups so that they are read again as the same
  pub normalize : normalizing.Promise call
  -- each label with a point that a choice hits has a test, which of its bytes alone hits each such
  -- point; every other point is listed
  pub generate : generating.Promise call
  -- it writes the signature and the log of a test that halts
  pub reference : referencing.Promise call
  -- it counts the log's instructions that hit each point
  pub coverage : covering.Promise (progressing.behind call told)
  -- it counts how many of these hits have their result stored in the signature
  pub propagate : propagating.Promise (progressing.behind call told)
  -- it makes the same tests, and passes where the device leaves the reference's words on each
  pub run : judging.Promise call
  -- it runs the selected tests of a database, in order, each from its file as it is then
  pub run_database : database.Promise call
  -- it puts the page of what a run left, and passes where the files of each test say that it passes
  pub report : reporting.Promise call
  -- it says of each test of a database whether it is selected
  pub select : selecting.Promise call
  -- it puts the report of the run of the stated program
  pub demo : demonstrating.Promise call
