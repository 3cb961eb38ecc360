-- What every call of `run` promises.
use Rattle.std.proofs.Common.{◌≡◌, ◌⊎◌, inl, inr, ℕ, List, [], ◌∷◌, length}
use Rattle.std.proofs.Common.{Some, Result, Ok, Err, refl, sym, ap, subst}
use Rattle.std.proofs.Common.{◌∙◌, Contains, IsTrue, arith, rules}
use Rattle.rvs_base.specs.Host.{Files, Tells}
use Rattle.rvs_base.specs.Sink.{appended}
use Rattle.rvs_base.specs.declared.host.DeviceRun.{DeviceRun}
use Rattle.rvs_plan.specs.World.{Contents, contents, IsAnswer}
use Rattle.rvs_plan.specs.Effect.{Answer, Effect, Out, after, Saw}
use Rattle.rvs_plan.specs.Plan.{Plan, Ends, Goes, followed}
use Rattle.rvs_plan.specs.Performed.{end_of, ComesTo}
use Rattle.rvs_plan.specs.Meets.{Completes}
use Rattle.rvs_plan.specs.Account.{end_status}
use Rattle.rvs_plan.proofs.Answering.{ComesTo-Completes}
use Rattle.rvs_plan.specs.declared.stop.Stop.{Stop}
use Rattle.rvs_plan.specs.declared.stop.Stop.TheVariants as why
use Rattle.rvs_plan.specs.declared.status.Status.{Status}
use Rattle.rvs_plan.specs.declared.status.Status.TheVariants as answer
use Rattle.rvs_plan.specs.declared.status.Finish.{Finish}
use Rattle.rvs_plan.specs.declared.status.Finish.TheVariants as finish
use Rattle.rvs_cgf.specs.Groups.{Label}
use Rattle.rvs_solver.specs.Solving.{IsSolvableAt}
use Rattle.rvs_promises.specs.Call.{Call, world_of}
use Rattle.rvs_generate.specs.Generate.{path_of}
use Rattle.rvs_promises.specs.Headline.{HasProvedTest}
use Rattle.rvs_promises.specs.Answered.{HasLeft, Answered}
use Rattle.rvs_generate.specs.GenerateTexts.{listing}
use Rattle.rvs_run.specs.RunTests.{made_for, tallies, RunInputs, run_inputs, bench_of, runs, run}
use Rattle.rvs_inputs.specs.DeviceInput.{device_in}
use Rattle.rvs_inputs.specs.GroupFiles.{Inputs, and_then, inputs_in, parted_inputs}
use Rattle.rvs_generate.specs.TestedInputs.{tested_in}
use Rattle.rvs_generate.specs.TestedInputs.{labels_in}
use Rattle.rvs_promises.specs.Rooms.{AsksForRoom}
use Rattle.rvs_suite.specs.Signing.{IsSigned}
use Rattle.rvs_suite.specs.Judging.{run_inputs_in, tests_in, HasJudged, HasJudgedTests}
use Rattle.rvs_suite.specs.Judging.{HasTestFiles, Runs}
use Rattle.rvs_suite.specs.RunLeft.{HaveRun}
use Rattle.rvs_generate.specs.Tests.{held}
use Rattle.rvs_generate.specs.declared.gathering.Test.{Test}
use Rattle.rvs_generate.specs.declared.sources.Source.TheVariants.{Held}
use Rattle.rvs_promises.proofs.Answered.{RunsOn}
use Rattle.rvs_promises.proofs.Ends.{means-end, was_refused, was_missing}
use Rattle.rvs_inputs.proofs.Finding.{Behind, behind, end-found}
use Rattle.rvs_promises.proofs.Running.{at_status}
use Rattle.rvs_promises.proofs.Running.{answered as ran_answered}
use Rattle.rvs_suite.proofs.RunReads.{finds-run}
use Rattle.rvs_promises.proofs.RunSteps.{did-step, contents_of, appended-twice}
use Rattle.rvs_suite.proofs.SparingTests.{run-spares}
use Rattle.rvs_suite.proofs.Passed.{never-failed}
use Rattle.rvs_promises.proofs.Signed.{has-test, proved}
use Rattle.rvs_suite.proofs.Signs.{signs}
use Rattle.rvs_suite.proofs.Standing.{files-stand, runs-stand, test_by, test-of}
use Rattle.rvs_promises.proofs.RoomEnds.{asks, asked-room, asked-then}
use Rattle.rvs_promises.proofs.Tested.{good-inputs, placed-inputs}
use Rattle.rvs_suite.proofs.TestedRuns.{groups-accepted, tested-run}
use Rattle.rvs_suite.proofs.Trials.{tried-all, told-runs, has-judged}
use Rattle.rvs_promises.proofs.Untouched.{never-end, untouched}
use Rattle.rvs_suite.proofs.Stopping.{runs-on, stops-run}
use Rattle.rvs_promises.proofs.Written.{apart-labels}
use Rattle.rvs_words.specs.declared.command.RunArguments.{RunArguments}

-- ---- the end, by what the inputs come to
abbrev rest_of : List ℕ → List ℕ → Result RunInputs Stop → Plan Finish
rest_of program work found = followed found (runs program work)

end-rest : (files : Files) (answers : List Answer) (asked : RunArguments)
    → end_of (run asked) files answers ≡ end_of
    (rest_of asked.program asked.work (run_inputs_in files asked)) files answers
end-rest files answers asked = grind (arith, end-found, finds-run)

stopped-rest : (files : Files) (answers : List Answer) (program work : List ℕ)
    (found : Result RunInputs Stop) (stop : Stop) → end_of (rest_of program work found) files
    answers ≡ Some (Err stop) → found ≡ Err stop
stopped-rest files answers program work found stop is = search (rules, never-end, runs-on)

-- a run that stopped did so at its inputs
stopped : (files : Files) (asked : RunArguments)
    (stop : Stop) → ComesTo (run asked) files (Err stop) → run_inputs_in
    files asked ≡ Err stop
stopped files asked stop comes = grind (arith, stopped-rest, end-rest)

stops : (files : Files) (asked : RunArguments)
    (stop : Stop) → run_inputs_in files asked ≡ Err stop → (answers : List Answer)
    → end_of (run asked) files answers ≡ Some (Err stop)
stops files asked stop is answers = grind (arith, end-rest)

ended : (files : Files) (asked : RunArguments)
    (inputs : RunInputs) (status : Status) (end : Result Finish Stop)
    → run_inputs_in files asked ≡ Ok inputs → ComesTo (run asked) files end → status
    ≡ end_status end → (status ≡ answer.Done) ⊎ (status ≡ answer.NotPassed) ⊎
    (status ≡ answer.NoMemory)
ended files asked inputs status (Ok finish.Done) given comes is = inl is
ended files asked inputs status (Ok finish.NotPassed) given comes is = grind (arith, inr, inl)
ended files asked inputs status (Err stop) given comes is =
    let both : Ok inputs ≡ Err stop =
    sym given ∙ stopped files asked stop comes in absurd cc

-- ---- what is left
-- by what the inputs come to
left-by : {call : Call} (files : Files) (asked : RunArguments) (found : Result RunInputs Stop)
    (end : Finish) (effects : List Effect) → Tells call.old.host files
    → Behind (rest_of asked.program asked.work found) (Ok end) effects
    (contents (world_of call.old))
    → contents (world_of call.new) ≡ after effects (contents (world_of call.old))
    → HasLeft found (λ inputs. HasJudgedTests call files asked inputs end)
left-by {call} files asked (Ok inputs) end effects t b did =
    let bench = bench_of asked.program asked.work inputs in
    let said = listing inputs.groups.isa inputs.groups.groups in
    let before = told-runs call.old.host.runs t.runs in
    let out = call.old.out.bytes in
    let now = contents (world_of call.new) in
    let old : contents (world_of call.old) ≡ contents_of files before.0 out =
    λ i. record { files = t.files i; runs = before.1 i; out = out } in
    let first = did-step (Out said) _ (Ok end) b.later (contents_of files before.0 out) b.goes
    (subst (λ (c : Contents). Saw b.later c) old b.saw) in
    record {
      given = inputs;
      accepted = refl;
      left = has-judged (λ (test : Test). Held test) call bench (tests_in inputs) said files
          (appended out said) before.0 end before.1 (λ more. appended-twice out said more)
          (tried-all (λ (test : Test). Held test) bench (tests_in inputs) 0
          (tallies (length (held (tests_in inputs)))) files before.0 (appended out said) (Ok end)
          first.rest now (did ∙ b.same ∙ ap (λ (c : Contents). after b.later c) old ∙ first.same)
          first.goes first.saw);
    }
left-by {call} files asked (Err stop) end effects t b did = absurd (no-end b.later b.goes)
  where
    no-end : (later : List Effect) → Goes (Ends (Err stop)) later (Ends (Ok end)) → ⊥
    no-end [] goes = cc
    no-end (effect ∷ later) goes = goes

-- where it came to its end, all tests were judged
abbrev WasJudged : Call → Files → RunArguments → Finish → Type 0
WasJudged call files asked end =
    HasLeft (run_inputs_in files asked) (λ inputs. HasJudgedTests call files asked inputs end)

left : {call : Call} (files : Files) (asked : RunArguments) (end : Finish)
    → Tells call.old.host files → Completes
    (run asked) (Ok end) (contents (world_of call.old))
    (contents (world_of call.new)) → WasJudged call files asked end
left {call} files asked end t r = left-by files asked (run_inputs_in files asked) end r.effects t
    (behind files (run_inputs asked) (runs asked.program asked.work)
    (run_inputs_in files asked) (Ok end) r.effects (contents (world_of call.old))
    (finds-run files asked) t.files r.saw r.goes) r.did

given-left : {call : Call} (files : Files) (asked : RunArguments) (inputs : RunInputs)
    (end : Finish) → run_inputs_in files asked ≡ Ok inputs → WasJudged call files asked end
    → HasJudgedTests call files asked inputs end
given-left {call} files asked inputs end is l = grind (arith, left)

done-only : (status : Status)
    → (status ≡ answer.Done) ⊎ (status ≡ answer.NotPassed) ⊎ (status ≡ answer.NoMemory)
    → (status ≡ answer.NotPassed → ⊥) → (status ≡ answer.Done) ⊎ (status ≡ answer.NoMemory)
done-only status h never = grind arith

judged-done : {call : Call} (files : Files) (asked : RunArguments)
    → RunsOn call files IsAnswer (run asked)
    → call.status ≡ answer.Done
    → WasJudged call files asked finish.Done
judged-done {call} files asked r is =
    left {call = call} files asked finish.Done r.told
    (at_status r.ran files answer.Done r.told is).completes

judged-not_passed : {call : Call} (files : Files) (asked : RunArguments)
    → RunsOn call files IsAnswer (run asked)
    → call.status ≡ answer.NotPassed
    → WasJudged call files asked finish.NotPassed
judged-not_passed {call} files asked r is =
    left {call = call} files asked finish.NotPassed r.told
    (at_status r.ran files answer.NotPassed r.told is).completes

-- and the files of each are there
there : {call : Call} (files : Files) (asked : RunArguments)
    → RunsOn call files IsAnswer (run asked)
    → (inputs : RunInputs) (test : Test) (files' : Files)
    → run_inputs_in files asked ≡ Ok inputs → Contains (tests_in inputs) test
    → (call.status ≡ answer.Done) ⊎ (call.status ≡ answer.NotPassed)
    → call.new.host.files ≡ Some files'
    → HasTestFiles call (bench_of asked.program asked.work inputs) test files'
there {call} files asked r inputs test files' given inside ended told =
    elim ended [
      | inl is ↦ stand finish.Done (judged-done files asked r is)
      | inr is ↦ stand finish.NotPassed
          (judged-not_passed files asked r is)
    ]
  where
    stand : (end : Finish) → WasJudged call files asked end
        → HasTestFiles call (bench_of asked.program asked.work inputs) test files'
    stand end was = files-stand {call = call} asked inputs end files files' test
        (given-left {call = call} files asked inputs end given was) told
        (apart-labels files asked.part asked.isa asked.families asked.groups inputs.groups
        (groups-accepted files asked inputs given)) inside

-- and the device was run once on each
once : {call : Call} (files : Files) (asked : RunArguments) → RunsOn call files IsAnswer (run asked)
    → (inputs : RunInputs) (before after : List DeviceRun)
    → run_inputs_in files asked ≡ Ok inputs
    → (call.status ≡ answer.Done) ⊎ (call.status ≡ answer.NotPassed)
    → call.old.host.runs ≡ Some before → call.new.host.runs ≡ Some after
    → HaveRun (bench_of asked.program asked.work inputs) (tests_in inputs) before after
once {call} files asked r inputs before after given ended old new =
    elim ended [
      | inl is ↦ stand finish.Done (judged-done files asked r is)
      | inr is ↦ stand finish.NotPassed (judged-not_passed files asked r is)
    ]
  where
    stand : (end : Finish) → WasJudged call files asked end
        → HaveRun (bench_of asked.program asked.work inputs) (tests_in inputs) before after
    stand end was = runs-stand {call = call} asked inputs end files before after
        (given-left {call = call} files asked inputs end given was) old new

-- that of a label with a solvable point has the property
proved-there : {call : Call} (files : Files) (asked : RunArguments)
    → RunsOn call files IsAnswer (run asked)
    → (inputs : RunInputs) (l : Label) (k : ℕ) (files' : Files)
    → run_inputs_in files asked ≡ Ok inputs → Contains inputs.groups.groups l
    → IsTrue l.selected → IsSolvableAt inputs.groups.isa l k
    → (call.status ≡ answer.Done) ⊎ (call.status ≡ answer.NotPassed)
    → call.new.host.files ≡ Some files'
    → HasProvedTest files' (path_of asked.work l.name) inputs.groups.isa l
proved-there {call} files asked r inputs l k files' given inside selected
    solvable ended told =
    let has = has-test inputs.groups.isa l k solvable in
    let at = there files asked r inputs (test_by inputs.groups.isa l has.0) files' given
    (test-of inputs.groups.isa inputs.groups.groups l has.0 inside selected has.1) ended told in
    record {
      bytes = has.0;
      there = at.text;
      proved = proved inputs.groups l has.0 (tested-run files asked inputs given) inside
          selected has.1;
    }

-- how it ends
answers-run : {call : Call} (files : Files) (asked : RunArguments)
    → RunsOn call files IsAnswer (run asked) → Answered call (run_inputs_in files asked)
    (HasJudgedTests call files asked)
answers-run {call} files asked r =
    let old = world_of call.old in
    let new = world_of call.new in
    let plan = run asked in
    record {
      done = judged-done files asked r;
      not_passed = judged-not_passed files asked r;
      by_inputs = λ inputs given none. elim (ran_answered r.ran files r.told none) [
        | inl m ↦ ended files asked inputs call.status m.end given m.comes
            m.status_is
        | inr no_memory ↦ inr (inr no_memory)
      ];
      refused = λ is.
          let was = was_refused plan old new call.old.err call.new.err
          (at_status r.ran files answer.Refused r.told is) in
          record {
            text = was.text;
            refused = stopped files asked (why.Refused was.text)
                (ComesTo-Completes plan (Err (why.Refused was.text)) old new files r.told
                was.completes);
            line = was.line;
          };
      by_refusal = λ text given none. elim (ran_answered r.ran files r.told none) [
        | inl m ↦ inl (means-end plan files call.status (Err (why.Refused text)) m
            (stops files asked (why.Refused text) given))
        | inr no_memory ↦ inr no_memory
      ];
      absent = λ is. elim (was_missing plan old new call.old.err call.new.err
          (at_status r.ran files answer.HostFault r.told is)) [
            | inl was ↦ inl (record {
              name = was.name;
              absent = stopped files asked (why.NoFile was.name)
                  (ComesTo-Completes plan (Err (why.NoFile was.name)) old new files r.told
                  was.completes);
              line = was.line;
            })
            | inr rose ↦ inr rose
          ];
      by_absence = λ name given none. elim (ran_answered r.ran files r.told none) [
        | inl m ↦ inl (means-end plan files call.status (Err (why.NoFile name)) m
            (stops files asked (why.NoFile name) given))
        | inr no_memory ↦ inr no_memory
      ];
    }

-- where there is no room for a test, it is refused
rooms : {call : Call} (files : Files) (asked : RunArguments)
    → RunsOn call files IsAnswer (run asked)
    → (inputs : Inputs) → inputs_in files asked.isa asked.families asked.groups ≡ Ok inputs
    → AsksForRoom call files inputs
rooms {call} files asked r inputs given =
    asks files inputs (run_inputs_in files asked)
    (HasJudgedTests call files asked)
    (good-inputs files asked.isa asked.families asked.groups inputs given)
    (placed-inputs files asked.isa asked.families asked.groups inputs given)
    (asked-then inputs (labels_in files asked.part asked.isa asked.families asked.groups)
    (λ i. and_then (device_in files asked.device) (λ told.
    Ok (record { groups = i; device = told })))
    (asked-then inputs (tested_in files asked.isa asked.families asked.groups)
    (λ i. Ok (parted_inputs asked.part i))
    (asked-room inputs (inputs_in files asked.isa asked.families asked.groups) given)))
    (answers-run files asked r)
    (λ is. untouched r.ran files r.told (stops-run asked) (inr is))
    (λ text refused files' other. run-spares asked r.ran files files' other r.told
    (λ i test accepted. let no : Err (why.Refused text) ≡ Ok i =
    sym refused ∙ accepted in absurd cc))

-- where it is done, each test passes, and each label with a solvable point has one
signed : {call : Call} (files : Files) (asked : RunArguments)
    → RunsOn call files IsAnswer (run asked)
    → call.status ≡ answer.Done → HasLeft (run_inputs_in files asked)
    (λ inputs. IsSigned call (bench_of asked.program asked.work inputs) inputs.groups.groups
    (tests_in inputs))
signed {call} files asked r is =
    let h = judged-done files asked r is in
    record {
      given = h.given;
      accepted = h.accepted;
      left = signs {call = call} files asked h.given h.left
          (tested-run files asked h.given h.accepted);
    }

-- ---- the promise
pub judges : {call : Call} (files : Files) (asked : RunArguments)
    → RunsOn call files IsAnswer (run asked) → Runs call files
    asked
judges {call} files asked r =
    record {
      signed = signed files asked r;
      answered = answers-run files asked r;
      alone = λ inputs test before run given one was now spells none.
          elim (ran_answered r.ran files r.told none) [
            | inl m ↦ done-only call.status
                (ended files asked inputs call.status m.end given m.comes
                m.status_is)
                (λ not_passed. never-failed {call = call}
                (bench_of asked.program asked.work inputs) files (Held test)
                (listing inputs.groups.isa inputs.groups.groups)
                (made_for (bench_of asked.program asked.work inputs) test) before run refl was now
                spells (subst (λ (tests : List Test). HasJudged call
                (bench_of asked.program asked.work inputs) files (held tests)
                (listing inputs.groups.isa inputs.groups.groups) finish.NotPassed) one
                (given-left {call = call} files asked inputs finish.NotPassed given
                (judged-not_passed files asked r not_passed))))
            | inr no_memory ↦ inr no_memory
          ];
      others_kept = λ files' other. run-spares asked r.ran files files' other r.told;
      each = proved-there files asked r;
      rooms = λ inputs given. rooms files asked r inputs given;
      there = there files asked r;
      once = once files asked r;
    }
