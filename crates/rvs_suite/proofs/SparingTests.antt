-- That judging tests changes no file but theirs, however it ends.
use Rattle.std.proofs.Common.{◌≡◌, ◌≢◌, ℕ, Bool, true, List, [], ◌∷◌, length, map, Some}
use Rattle.std.proofs.Common.{Result, Ok, Err, Contains, refl, arith, rules}
use Rattle.std.proofs.lemmas.List.Elements.{Contains-append_right}
use Rattle.rvs_base.specs.Host.{Files, Tells}
use Rattle.rvs_base.specs.Sink.{SinkState}
use Rattle.rvs_plan.specs.World.{World, Absence}
use Rattle.rvs_plan.specs.Plan.{followed, ◌>>=◌}
use Rattle.rvs_plan.specs.Inputs.{part_end}
use Rattle.rvs_plan.specs.declared.stop.Stop.{Stop}
use Rattle.rvs_plan.specs.declared.status.Status.{Status}
use Rattle.rvs_machine.specs.Image.{ImageValue}
use Rattle.rvs_device.specs.Command.{wants_elf}
use Rattle.rvs_suite.specs.Judging.{run_inputs_in, tests_in}
use Rattle.rvs_suite.specs.JudgingDatabase.{database_inputs_in, chosen_in, IsNoneOf}
use Rattle.rvs_reference.specs.Reference.{test_limit}
use Rattle.rvs_run.specs.RunDatabase.{DatabaseInputs, database_inputs, database_bench}
use Rattle.rvs_run.specs.RunDatabase.{runs_database, run_database}
use Rattle.rvs_run.specs.RunTests.{Bench, asks_elf, if_asked, files_for, made_by, made_of_image}
use Rattle.rvs_run.specs.RunTests.{made_found, announces_made, judges_one, judges_all, with_one}
use Rattle.rvs_run.specs.RunTests.{tallies, RunInputs, run_inputs, bench_of, runs, run}
use Rattle.rvs_generate.specs.TestFiles.{IsOther, files_of, files_at}
use Rattle.rvs_reference.specs.TestRun.{accepted, then_found, image_found}
use Rattle.rvs_generate.specs.Tests.{reference_words, executable_of}
use Rattle.rvs_generate.specs.declared.gathering.Test.{Test}
use Rattle.rvs_generate.specs.declared.sources.Given.{Given}
use Rattle.rvs_generate.specs.declared.sources.Source.{Source}
use Rattle.rvs_generate.specs.declared.sources.Source.TheVariants.{Held, Read}
use Rattle.rvs_reference.specs.declared.test_run.Run.{Run as TestRun}
use Rattle.rvs_suite.proofs.DatabaseReads.{finds-database-inputs}
use Rattle.rvs_suite.proofs.KeptTrials.{IsNotOf}
use Rattle.rvs_suite.proofs.RunReads.{finds-run}
use Rattle.rvs_promises.proofs.Running.{Ran}
use Rattle.rvs_promises.proofs.Sparing.{Spares, Spares-then, spares-found, spares}
use Rattle.rvs_words.specs.declared.command.RunArguments.{RunArguments}
use Rattle.rvs_words.specs.declared.command.RunDatabaseArguments.{RunDatabaseArguments}

-- ---- one test
spares-held : (other : List ℕ) (bench : Bench) (test : Test) (words : List ℕ) (wants : Bool)
    (executable : List ℕ) → IsOther wants (files_for bench test) other
    → Spares other (announces_made bench (Held test) (record {
      files = files_for bench test;
      executable = if_asked wants executable;
      words = words;
    }))
spares-held other bench test words wants executable this = grind arith

spares-read : (other : List ℕ) (bench : Bench) (given : Given) (words : List ℕ) (wants : Bool)
    (executable : List ℕ)
    → (wants ≡ true → other ≢ (files_at bench.work given.place given.name).executable)
    → IsNoneOf bench given other → Spares other (announces_made bench (Read given) (record {
      files = files_at bench.work given.place given.name;
      executable = if_asked wants executable;
      words = words;
    }))
spares-read other bench given words wants executable apart this = grind arith

-- by what comes of its run
spares-ran : (other : List ℕ) (bench : Bench) (given : Given) (image : ImageValue)
    (ran : Result TestRun (List ℕ)) → IsNoneOf bench given other → Spares other
    (accepted (then_found ran
    (λ run. Ok (made_by bench (files_at bench.work given.place given.name) image run)))
    >>= announces_made bench (Read given))
spares-ran other bench given image ran this = search (rules, spares-read)

-- of its image
spares-image : (other : List ℕ) (bench : Bench) (given : Given) (bytes : List ℕ)
    (found : Result ImageValue (List ℕ)) → IsNoneOf bench given other → Spares other
    (accepted (then_found found
    (made_of_image bench (files_at bench.work given.place given.name) bytes))
    >>= announces_made bench (Read given))
spares-image other bench given bytes found this = search (rules, spares-ran)

-- and of its bytes
spares-bytes : (other : List ℕ) (bench : Bench) (given : Given) (bytes : Result (List ℕ) Stop)
    → IsNoneOf bench given other → Spares other (followed bytes
    (λ b. accepted (made_found bench (files_at bench.work given.place given.name) b))
    >>= announces_made bench (Read given))
spares-bytes other bench given (Ok bytes) this =
    spares-image other bench given bytes (image_found bench.isa given.name bytes) this
spares-bytes other bench given (Err stop) this = tt

spares-one : (other : List ℕ) (bench : Bench) (source : Source) → IsNotOf bench source other
    → Spares other (judges_one bench source)
spares-one other bench (Held test) this = spares-held other bench test
    (reference_words bench.isa test) (asks_elf bench) (executable_of bench.isa test) this
spares-one other bench (Read given) this = λ found. spares-bytes other bench given
    (part_end test_limit given.name given.name test_limit found) this

-- ---- all tests
spares-all : {A : Type 0} (of : A → Source) (other : List ℕ) (bench : Bench) (passed : ℕ)
    (xs : List A) → ((x : A) → Contains xs x → IsNotOf bench (of x) other)
    → Spares other (judges_all bench passed (map of xs))
spares-all of other bench passed [] apart = tt
spares-all of other bench passed (x ∷ xs) apart =
    Spares-then other (judges_one bench (of x)) (λ pass. judges_all bench
    (with_one passed pass) (map of xs))
    (spares-one other bench (of x) (apart x (0, omega arith, refl))) (λ pass.
    spares-all of other bench (with_one passed pass) xs
    (λ y there. apart y (Contains-append_right (x ∷ []) xs y there)))

spares-judging : {A : Type 0} (of : A → Source) (other : List ℕ) (bench : Bench) (xs : List A)
    → ((x : A) → Contains xs x → IsNotOf bench (of x) other)
    → Spares other (judges_all bench 0 (map of xs) >>= tallies (length (map of xs)))
spares-judging of other bench xs apart = Spares-then other (judges_all bench 0 (map of xs))
    (tallies (length (map of xs))) (spares-all of other bench 0 xs apart) (λ passed. tt)

-- ---- of groups
-- a file that is none of the tests of these inputs, where they are accepted
abbrev IsNoTest : Files → RunArguments → List ℕ → Type 0
IsNoTest files asked other = (inputs : RunInputs) (test : Test)
    → run_inputs_in files asked ≡ Ok inputs
    → Contains (tests_in inputs) test
    → IsOther (wants_elf inputs.device.command) (files_of asked.work test.name) other

pub run-spares : {absence : Absence} {old new : World} {err err' : SinkState} {status : Status}
    (asked : RunArguments) → Ran absence (run asked) old new err err' status
    → (files files' : Files) (other : List ℕ) → Tells old.host files → IsNoTest files asked other
    → new.host.files ≡ Some files' → files' other ≡ files other
run-spares asked r files files' other t apart told =
    spares r files files' other t
    (spares-found files other (run_inputs asked) (runs asked.program asked.work)
    (run_inputs_in files asked) (finds-run files asked)
    (λ inputs given. spares-judging (λ (test : Test). Held test) other
    (bench_of asked.program asked.work inputs) (tests_in inputs)
    (λ test there. apart inputs test given there))) told

-- ---- of a database
-- a file that is none of those of the selected tests, where the inputs are accepted
abbrev IsNoFile : Files → RunDatabaseArguments → List ℕ → Type 0
IsNoFile files asked other = (inputs : DatabaseInputs) (given : Given)
    → database_inputs_in files asked ≡ Ok inputs → Contains (chosen_in inputs) given
    → IsNoneOf (database_bench asked.program asked.work inputs) given other

pub database-spares : {absence : Absence} {old new : World} {err err' : SinkState}
    {status : Status} (asked : RunDatabaseArguments)
    → Ran absence (run_database asked) old new err err' status → (files files' : Files)
    (other : List ℕ) → Tells old.host files → IsNoFile files asked other
    → new.host.files ≡ Some files' → files' other ≡ files other
database-spares asked r files files' other t apart told =
    spares r files files' other t
    (spares-found files other (database_inputs asked) (runs_database asked.program asked.work)
    (database_inputs_in files asked) (finds-database-inputs files asked)
    (λ inputs accepts. spares-judging (λ (g : Given). Read g) other
    (database_bench asked.program asked.work inputs) (chosen_in inputs)
    (λ given there. apart inputs given accepts there))) told
