-- What each command line does.
use Rattle.std.specs.Prelude.{◌≡◌, ◌⊎◌, List, ℕ, Result, Err, ⊤}
use Rattle.rvs_plan.specs.World.{World, Absence, IsFault, IsAnswer}
use Rattle.rvs_plan.specs.Plan.{Plan, ends}
use Rattle.rvs_plan.specs.Meets.{Obeys}
use Rattle.rvs_plan.specs.declared.stop.Stop.{Stop}
use Rattle.rvs_plan.specs.declared.stop.Stop.TheVariants as why
use Rattle.rvs_plan.specs.declared.status.Finish.{Finish}
use Rattle.rvs_words.specs.Commands.{command_of}
use Rattle.rvs_promises.specs.Apart.{IsApart}
use Rattle.rvs_plain.specs.Compare as comparing
use Rattle.rvs_plain.specs.Validate as validating
use Rattle.rvs_coverage.specs.Coverage as covering
use Rattle.rvs_propagate.specs.Propagate as propagating
use Rattle.rvs_generate.specs.Generate as generating
use Rattle.rvs_plain.specs.Normalize as normalizing
use Rattle.rvs_reference.specs.Reference as running
use Rattle.rvs_run.specs.RunTests as judging
use Rattle.rvs_run.specs.RunDatabase as giving
use Rattle.rvs_report.specs.Report as reporting
use Rattle.rvs_plain.specs.Select as selecting
use Rattle.rvs_plain.specs.Demonstrate as demonstrating
use Rattle.rvs_words.specs.declared.command.Command.{Command}
use Rattle.rvs_words.specs.declared.command.Command.TheVariants.{Unknown, Compare, Validate}
use Rattle.rvs_words.specs.declared.command.Command.TheVariants.{Normalize, Generate, Reference}
use Rattle.rvs_words.specs.declared.command.Command.TheVariants.{Coverage, Propagate, Run, Demo}
use Rattle.rvs_words.specs.declared.command.Command.TheVariants.{RunDatabase, Report, Select}

-- the plan of a command
abbrev pub plan_of : Command → Plan Finish
plan_of Unknown = ends why.Usage
plan_of (Compare asked) = comparing.compare asked
plan_of (Validate asked) = validating.validate asked
plan_of (Normalize asked) = normalizing.normalize asked
plan_of (Generate asked) = generating.generate asked
plan_of (Reference asked) = running.reference asked
plan_of (Coverage asked) = covering.coverage asked
plan_of (Propagate asked) = propagating.propagate asked
plan_of (Run asked) = judging.run asked
plan_of (RunDatabase asked) = giving.run_database asked
plan_of (Report asked) = reporting.report asked
plan_of (Select asked) = selecting.select asked
plan_of (Demo count) = demonstrating.demonstrate count

-- the effects that the words of a command line mean, and the status that they lead to
abbrev pub effects_of : List (List ℕ) → Plan Finish
effects_of words = plan_of (command_of words)

-- `run` takes it for an answer that the signature file of a device isn't there, and `report` that a
-- file of a test isn't
abbrev pub absence_of : Command → Absence
absence_of (Run asked) = IsAnswer
absence_of (RunDatabase asked) = IsAnswer
absence_of (Report asked) = IsAnswer
absence_of _ = IsFault

-- a command that reads all of its inputs before its first deed; over a database, `run` reads each
-- test when its turn comes
abbrev pub ReadsFirst : Command → Type 0
ReadsFirst (RunDatabase asked) = ⊥
ReadsFirst _ = ⊤

-- what was done for a command, and how it ended
pub record Performs (command : Command) (old new : World) (result : Result Finish Stop) : Type
    0 where
  pub obeys : Obeys (absence_of command) (plan_of command) old new result
  -- it stops for its words where they are no command
  pub usage : result ≡ Err why.Usage → command ≡ Unknown
  pub no_command : command ≡ Unknown → (result ≡ Err why.Usage) ⊎ (result ≡ Err why.NoMemory)
  pub unchanged : command ≡ Unknown → new ≡ old
  -- `demo` needs no host
  pub apart : (count : ℕ) → command ≡ Demo count
      → IsApart (demonstrating.demonstrate count) old new result
