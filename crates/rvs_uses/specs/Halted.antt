-- What holds of each run that `reference` tells of.
use Rattle.std.specs.Prelude.{◌≡◌, ◌≤◌, ℕ, List, length, map, Option, Ok}
use Rattle.rvs_base.specs.Host.{Files}
use Rattle.rvs_log.specs.Entries.{entries_of}
use Rattle.rvs_log.specs.Logs.{log_of, as_entry}
use Rattle.rvs_promises.specs.Halting.{BothHalt, HoldsOctets}
use Rattle.rvs_promises.specs.Referencing.{run_in}
use Rattle.rvs_reference.specs.TestRun.{limit_of}
use Rattle.rvs_reference.specs.declared.test_run.Run.{Run}
use Rattle.rvs_words.specs.Commands.{command_of, most_steps}
use Rattle.rvs_words.specs.declared.command.Command.TheVariants.{Reference}
use Rattle.rvs_words.specs.declared.command.ReferenceArguments.{ReferenceArguments}

-- it is that of the test's image, and halts
abbrev pub RunsHalt : Type 0
RunsHalt = (files : Files) (isa test : List ℕ) (steps : Option ℕ) (run : Run)
    → run_in files isa test steps ≡ Ok run → BothHalt files isa test steps run

-- the entries of its log are the executed instructions, the store that halts included
abbrev pub LogsTellRuns : Type 0
LogsTellRuns = (files : Files) (isa test : List ℕ) (steps : Option ℕ) (run : Run)
    → run_in files isa test steps ≡ Ok run → HoldsOctets files test
    → entries_of (log_of run.trace) ≡ map as_entry run.trace

-- whatever the test's file holds, its run is ended after 2,000,000 instructions at most
abbrev pub RunsAreLimited : Type 0
RunsAreLimited = (words : List (List ℕ)) (asked : ReferenceArguments)
    → command_of words ≡ Reference asked → (bytes : List ℕ)
    → limit_of asked.steps asked.test bytes ≤ most_steps

-- so it has no more
abbrev pub RunsAreBounded : Type 0
RunsAreBounded = (words : List (List ℕ)) (files : Files) (asked : ReferenceArguments) (run : Run)
    → command_of words ≡ Reference asked → run_in files asked.isa asked.test asked.steps ≡ Ok run
    → length run.trace ≤ most_steps
