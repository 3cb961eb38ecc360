-- That no command stops once it has changed anything, but `run` over a database.
use Rattle.std.proofs.Common.{ℕ, List, [], ◌∷◌, Option, arith}
use Rattle.rvs_plan.specs.declared.stop.Stop.TheVariants as why
use Rattle.rvs_plan.specs.declared.status.Finish.{Finish}
use Rattle.rvs_generate.specs.Tests.{reference_words, held}
use Rattle.rvs_generate.specs.declared.gathering.Test.{Test}
use Rattle.rvs_generate.specs.declared.sources.Source.TheVariants.{Held}
use Rattle.rvs_generate.specs.declared.test_files.TestFiles.{TestFiles}
use Rattle.rvs_run.specs.RunTests.{Bench, files_for, executable_for, announces_made, judges_one}
use Rattle.rvs_run.specs.RunTests.{with_one, judges_all, RunInputs, run_inputs, runs, run}
use Rattle.rvs_report.specs.Report.{finds_page, puts_page, report}
use Rattle.rvs_promises.proofs.Untouched.{NeverStops, StopsUntouched, goes-on, never-then}
use Rattle.rvs_promises.proofs.Untouched.{untouched-end, untouched-then}
use Rattle.rvs_promises.proofs.Untouched.{stops-compare, stops-validate, stops-normalize}
use Rattle.rvs_promises.proofs.Untouched.{stops-generate, stops-coverage, stops-propagate}
use Rattle.rvs_promises.proofs.Untouched.{stops-select, stops-demo, stops-reference}
use Rattle.rvs_suite.specs.Plans.{plan_of, ReadsFirst}
use Rattle.rvs_suite.proofs.RunReads.{reads-run}
use Rattle.rvs_suite.proofs.ReportReads.{reads-page}
use Rattle.rvs_words.specs.declared.command.Command.{Command}
use Rattle.rvs_words.specs.declared.command.Command.TheVariants.{Unknown, Compare, Validate}
use Rattle.rvs_words.specs.declared.command.Command.TheVariants.{Normalize, Generate, Reference}
use Rattle.rvs_words.specs.declared.command.Command.TheVariants.{Coverage, Propagate, Run, Demo}
use Rattle.rvs_words.specs.declared.command.Command.TheVariants.{RunDatabase, Report, Select}
use Rattle.rvs_words.specs.declared.command.RunArguments.{RunArguments}
use Rattle.rvs_words.specs.declared.command.ReportArguments.{ReportArguments}

made-on : (bench : Bench) (test : Test) (files : TestFiles) (words : List ℕ)
    (executable : Option (List ℕ)) → NeverStops (announces_made bench (Held test)
    (record { files = files; executable = executable; words = words }))
made-on bench test files words executable = grind arith

judges-on : (bench : Bench) (passed : ℕ) (tests : List Test)
    → NeverStops (judges_all bench passed (held tests))
judges-on bench passed [] = tt
judges-on bench passed (test ∷ tests) = never-then (judges_one bench (Held test))
    (λ pass. judges_all bench (with_one passed pass) (held tests))
    (made-on bench test (files_for bench test) (reference_words bench.isa test)
    (executable_for bench test))
    (λ pass. judges-on bench (with_one passed pass) tests)

pub runs-on : (program work : List ℕ) (inputs : RunInputs) → NeverStops (runs program work inputs)
runs-on program work inputs = grind (arith, never-then, judges-on)

pub stops-run : (asked : RunArguments) → StopsUntouched (run asked)
stops-run asked =
    untouched-then (run_inputs asked) (runs asked.program asked.work) (reads-run asked)
    (λ inputs effects stop c goes.
    absurd (goes-on (runs asked.program asked.work inputs) effects stop
    (runs-on asked.program asked.work inputs) goes))

pub stops-report : (asked : ReportArguments) → StopsUntouched (report asked)
stops-report asked =
    untouched-then (finds_page asked) puts_page (reads-page asked) (λ page effects stop c goes.
    absurd (goes-on (puts_page page) effects stop tt goes))

pub stops_untouched : (command : Command) → ReadsFirst command → StopsUntouched (plan_of command)
stops_untouched Unknown first = untouched-end Finish why.Usage
stops_untouched (Compare asked) first = stops-compare asked
stops_untouched (Validate asked) first = stops-validate asked
stops_untouched (Normalize asked) first = stops-normalize asked
stops_untouched (Generate asked) first = stops-generate asked
stops_untouched (Reference asked) first = stops-reference asked
stops_untouched (Coverage asked) first = stops-coverage asked
stops_untouched (Propagate asked) first = stops-propagate asked
stops_untouched (Run asked) first = stops-run asked
stops_untouched (RunDatabase asked) first = absurd first
stops_untouched (Report asked) first = stops-report asked
stops_untouched (Select asked) first = stops-select asked
stops_untouched (Demo count) first = stops-demo count
