-- What every call of `run` over a database promises.
use Rattle.std.proofs.Common.{◌≡◌, ◌⊎◌, inl, inr, ℕ, List, [], ◌∷◌, ◌++◌, length}
use Rattle.std.proofs.Common.{Some, None, Result, Ok, Err, refl, sym, ap, subst}
use Rattle.std.proofs.Common.{◌∙◌, append-nil, arith, Contains, IsTrue, rules}
use Rattle.rvs_base.specs.Host.{Files, Tells}
use Rattle.rvs_base.specs.Faults.{raised}
use Rattle.rvs_base.specs.Sink.{SinkState, appended}
use Rattle.rvs_base.specs.declared.host.DeviceRun.{DeviceRun}
use Rattle.rvs_plan.specs.World.{World, Contents, contents, IsAnswer}
use Rattle.rvs_plan.specs.Account.{line_of, status_of, NoneRose, LosesSink}
use Rattle.rvs_plan.specs.Effect.{Answer, Effect, after, Saw}
use Rattle.rvs_plan.specs.Meets.{Completes, Halts, HasCause}
use Rattle.rvs_plan.specs.Performed.{end_of}
use Rattle.rvs_plan.specs.Plan.{Plan, Ends, Goes, followed}
use Rattle.rvs_plan.specs.declared.stop.Stop.{Stop}
use Rattle.rvs_plan.specs.declared.stop.Stop.TheVariants as why
use Rattle.rvs_plan.specs.declared.status.Finish.{Finish}
use Rattle.rvs_plan.specs.declared.status.Finish.TheVariants as finish
use Rattle.rvs_plan.specs.declared.status.Status.TheVariants as answer
use Rattle.rvs_machine.specs.Image.{ImageValue}
use Rattle.rvs_device.proofs.Passing as passing
use Rattle.rvs_promises.specs.Answered.{HasLeft}
use Rattle.rvs_device.specs.Judging.{Spells}
use Rattle.rvs_promises.specs.Call.{Call, world_of, NothingFailed, AnswersOnly}
use Rattle.rvs_inputs.specs.GroupFiles.{and_then}
use Rattle.rvs_suite.specs.Judging.{HasJudged}
use Rattle.rvs_suite.specs.JudgingDatabase.{database_inputs_in, chosen_in, HasJudgedChosen}
use Rattle.rvs_suite.specs.JudgingDatabase.{LeftAsItWas, HasStopped, IsMadeOf, HasExecutable}
use Rattle.rvs_suite.specs.JudgingDatabase.{RunsDatabase}
use Rattle.rvs_run.specs.RunDatabase.{DatabaseInputs, database_bench}
use Rattle.rvs_run.specs.RunDatabase.{runs_database, run_database}
use Rattle.rvs_suite.specs.RunLeft.{made_in, with_trials, task_on, trials_passed}
use Rattle.rvs_run.specs.RunTests.{Bench, asks_elf, tallies, verdict_of_all}
use Rattle.rvs_reference.specs.TestRun.{found_end, then_found, limit_of, run_found, test_found}
use Rattle.rvs_generate.specs.Tests.{to_read}
use Rattle.rvs_run.specs.declared.judging.Made.{Made}
use Rattle.rvs_generate.specs.declared.sources.Given.{Given}
use Rattle.rvs_generate.specs.declared.sources.Source.TheVariants.{Read}
use Rattle.rvs_reference.specs.declared.test_run.Run.{Run}
use Rattle.rvs_promises.proofs.Answered.{RunsOn}
use Rattle.rvs_suite.proofs.DatabaseExecutables.{all-there, apart-chosen, low-chosen, room-there}
use Rattle.rvs_suite.proofs.DatabasePasses.{never-stopped-at, done-or-memory}
use Rattle.rvs_suite.proofs.DatabaseReads.{finds-database-inputs}
use Rattle.rvs_promises.proofs.Ends.{means-end, was_refused, was_missing}
use Rattle.rvs_inputs.proofs.Finding.{Behind, behind, end-found}
use Rattle.rvs_suite.proofs.KeptTrials.{was-made}
use Rattle.rvs_suite.proofs.Passed.{never-failed}
use Rattle.rvs_promises.proofs.RunSteps.{contents_of}
use Rattle.rvs_promises.proofs.Running.{at_status}
use Rattle.rvs_promises.proofs.Running.{answered as ran_answered}
use Rattle.rvs_suite.proofs.SparingTests.{database-spares}
use Rattle.rvs_promises.proofs.StepLimits.{usual_limits_are_low}
use Rattle.rvs_suite.proofs.Trials.{TriedAll, EndedAt, tried-all, after_trials, told-runs}
use Rattle.rvs_suite.proofs.Trials.{tried-now, tallied, has-judged}
use Rattle.rvs_words.specs.declared.command.RunDatabaseArguments.{RunDatabaseArguments}

-- ---- what is left
never-stopped : (end : Finish) (stop : Stop) → Ok end ≡ Err stop → ⊥
never-stopped end stop is = cc

-- where it stopped behind its inputs, it did so at a test
has-stopped : (call : Call) (program work : List ℕ) (inputs : DatabaseInputs) (files : Files)
    (stop : Stop) (before : List DeviceRun) → call.old.host.runs ≡ Some before
    → EndedAt (λ (g : Given). Read g) (database_bench program work inputs) (chosen_in inputs) files
    before call.old.out.bytes (Err stop) (contents (world_of call.new))
    → call.new.err.bytes ≡ appended call.old.err.bytes (line_of stop)
    → HasStopped call files program work stop inputs
has-stopped call program work inputs files stop before told at line =
    grind (arith, contents_of, append-nil, tried-now)

-- what is left, by how the plan ended
abbrev LeftBy : Call → Files → RunDatabaseArguments → Result DatabaseInputs Stop
    → Result Finish Stop → Type 0
LeftBy call files asked found (Ok end) = HasLeft found (HasJudgedChosen call files asked end)
LeftBy call files asked found (Err stop) =
    call.new.err.bytes ≡ appended call.old.err.bytes (line_of stop)
    → ((found ≡ Err stop) × LeftAsItWas call)
    ⊎ HasLeft found (HasStopped call files asked.program asked.work stop)

left-parts : (call : Call) (asked : RunDatabaseArguments) (inputs : DatabaseInputs) (files : Files)
    (end : Result Finish Stop) (before : List DeviceRun) → call.old.host.runs ≡ Some before
    → TriedAll (λ (g : Given). Read g) (database_bench asked.program asked.work inputs)
    (chosen_in inputs) 0 (tallies (length (to_read (chosen_in inputs)))) files before
    call.old.out.bytes end (contents (world_of call.new))
    ⊎ EndedAt (λ (g : Given). Read g) (database_bench asked.program asked.work inputs)
    (chosen_in inputs) files before call.old.out.bytes end (contents (world_of call.new))
    → LeftBy call files asked (Ok inputs) end
left-parts call asked inputs files (Ok end) before told tried = record {
  given = inputs;
  accepted = refl;
  left = has-judged (λ (g : Given). Read g) call (database_bench asked.program asked.work inputs)
      (chosen_in inputs) [] files call.old.out.bytes before end told (λ more. refl) tried;
}
left-parts call asked inputs files (Err stop) before told (inl all) =
    let tests = length (to_read (chosen_in inputs)) in
    let passed = trials_passed 0 all.trials in
    let over = tallied tests passed (Err stop) all.later
    (after_trials files before call.old.out.bytes all.trials) all.goes in
    absurd (never-stopped (verdict_of_all tests passed) stop (sym over.1))
left-parts call asked inputs files (Err stop) before told (inr at) = λ line. inr (record {
  given = inputs;
  accepted = refl;
  left = has-stopped call asked.program asked.work inputs files stop before told at line;
})

left-accepted : (call : Call) (asked : RunDatabaseArguments) (inputs : DatabaseInputs)
    (files : Files) (end : Result Finish Stop) (effects : List Effect)
    → Tells call.old.host files
    → Goes (runs_database asked.program asked.work inputs) effects (Ends end)
    → Saw effects (contents (world_of call.old))
    → contents (world_of call.new) ≡ after effects (contents (world_of call.old))
    → LeftBy call files asked (Ok inputs) end
left-accepted call asked inputs files end effects t goes saw did =
    let before = told-runs call.old.host.runs t.runs in
    let out = call.old.out.bytes in
    let old : contents (world_of call.old) ≡ contents_of files before.0 out =
    λ i. record { files = t.files i; runs = before.1 i; out = out } in
    left-parts call asked inputs files end before.0 before.1
    (tried-all (λ (g : Given). Read g) (database_bench asked.program asked.work inputs)
    (chosen_in inputs) 0 (tallies (length (to_read (chosen_in inputs)))) files before.0 out end
    effects (contents (world_of call.new)) (did ∙ ap (λ (c : Contents). after effects c) old) goes
    (subst (λ (c : Contents). Saw effects c) old saw))

left-refused : (call : Call) (files : Files) (asked : RunDatabaseArguments) (s : Stop)
    (end : Result Finish Stop) (effects : List Effect) → Goes (Ends (Err s)) effects (Ends end)
    → contents (world_of call.new) ≡ after effects (contents (world_of call.old))
    → LeftBy call files asked (Err s) end
left-refused call files asked s (Ok end) [] goes did = absurd cc
left-refused call files asked s (Err stop) [] goes did =
    let same : s ≡ stop = cc in λ line. inl (ap (λ (x : Stop). Err x) same, did)
left-refused call files asked s end (effect ∷ effects) goes did = absurd goes

-- by what the inputs come to
left-by : (call : Call) (asked : RunDatabaseArguments) (found : Result DatabaseInputs Stop)
    (files : Files) (end : Result Finish Stop) (effects : List Effect)
    → Tells call.old.host files → Behind
    (followed found (runs_database asked.program asked.work)) end effects
    (contents (world_of call.old))
    → contents (world_of call.new) ≡ after effects (contents (world_of call.old))
    → LeftBy call files asked found end
left-by call asked (Ok inputs) files end effects t b did =
    left-accepted call asked inputs files end b.later t b.goes b.saw (did ∙ b.same)
left-by call asked (Err s) files end effects t b did =
    left-refused call files asked s end b.later b.goes (did ∙ b.same)

left : (call : Call) (files : Files) (asked : RunDatabaseArguments) (end : Result Finish Stop)
    → Tells call.old.host files → Completes (run_database asked) end
    (contents (world_of call.old)) (contents (world_of call.new))
    → LeftBy call files asked (database_inputs_in files asked) end
left call files asked end t r = search (rules, left-by, behind, finds-database-inputs)

-- inputs that aren't accepted end it so
stops : (files : Files) (asked : RunDatabaseArguments) (stop : Stop)
    → database_inputs_in files asked ≡ Err stop → (answers : List Answer)
    → end_of (run_database asked) files answers ≡ Some (Err stop)
stops files asked stop is answers = grind (arith, end-found, finds-database-inputs)

-- ---- one test is run as by `reference`
is-made : (files : Files) (bench : Bench) (given : Given) (made : Made)
    → made_in files bench (Read given) ≡ Ok made → IsMadeOf files bench given made
is-made files bench given made is =
    let w = was-made files bench given made is in
    record {
      run = w.run;
      ran = ap (λ (p : Result (List ℕ) Stop). and_then p
          (λ bytes. found_end (test_found None bench.isa given.name bytes))) w.there
          ∙ ap (λ (f : Result ImageValue (List ℕ)). found_end (then_found f
          (run_found given.name (limit_of None given.name w.bytes) bench.isa))) w.spelt
          ∙ ap (λ (f : Result Run (List ℕ)). found_end f) w.ran;
      words = ap (λ (m : Made). m.words) w.is;
      named = ap (λ (m : Made). m.files) w.is;
    }

-- ---- one selected test that passes
given-left : {call : Call} (files : Files) (asked : RunDatabaseArguments)
    (inputs : DatabaseInputs) (end : Finish) → database_inputs_in files asked ≡ Ok inputs
    → HasLeft (database_inputs_in files asked) (HasJudgedChosen call files asked end)
    → HasJudgedChosen call files asked end inputs
given-left {call} files asked inputs end is l = grind (arith, left)

-- no stop behind its inputs, and none at them
unstopped : {call : Call} (files : Files) (program work : List ℕ) (stop : Stop)
    (inputs : DatabaseInputs) (given : Given) (made : Made) (found : Result DatabaseInputs Stop)
    → found ≡ Ok inputs → chosen_in inputs ≡ given ∷ []
    → made_in files (database_bench program work inputs) (Read given) ≡ Ok made
    → ((found ≡ Err stop) × LeftAsItWas call)
    ⊎ HasLeft found (HasStopped call files program work stop) → ⊥
unstopped files program work stop inputs given made found is one accepted (inl kept) =
    let both : Ok inputs ≡ Err stop = sym is ∙ kept.0 in cc
unstopped {call} files program work stop inputs given made found is one accepted (inr at) =
    let both : Ok at.given ≡ Ok inputs = sym at.accepted ∙ is in
    let same : at.given ≡ inputs = cc in
    never-stopped-at {call = call} files program work stop inputs given made one accepted
    (subst (λ (g : DatabaseInputs). HasStopped call files program work stop g) same at.left)

-- a fault of a sink is counted
unlost : (plan : Plan Finish) (old new : World) (err err' : SinkState)
    → NoneRose old new err err' → LosesSink plan old new err err' → ⊥
unlost plan old new err err' none lost = elim lost.failed [
  | inl output ↦ elim (subst (λ (s : Stop). (s ≡ why.Usage) ⊎ HasCause old new s) output
      lost.cause) [
        | inl usage ↦ cc
        | inr rose ↦ none.output rose
      ]
  | inr raised ↦ none.errors (omega (arith, raised))
]

-- its words are a command
unused : {call : Call} (files : Files) (asked : RunDatabaseArguments) (inputs : DatabaseInputs)
    (given : Given) (made : Made) → RunsOn call files IsAnswer (run_database asked)
    → database_inputs_in files asked ≡ Ok inputs → chosen_in inputs ≡ given ∷ []
    → made_in files (database_bench asked.program asked.work inputs) (Read given) ≡ Ok made
    → (reason : Stop) → answer.Usage ≡ status_of reason
    → Halts (run_database asked) (contents (world_of call.old)) (contents (world_of call.new))
    reason
    → call.new.err.bytes ≡ appended call.old.err.bytes (line_of reason) → ⊥
unused {call} files asked inputs given made r is one accepted why.Usage named halts line =
    unstopped {call = call} files asked.program asked.work why.Usage inputs given made
    (database_inputs_in files asked) is one accepted
    (left call files asked (Err why.Usage) r.told halts line)
unused files asked inputs given made r is one accepted (why.Refused text) named halts line = cc
unused files asked inputs given made r is one accepted (why.NoFile name) named halts line = cc
unused files asked inputs given made r is one accepted (why.CannotRead name) named halts line = cc
unused files asked inputs given made r is one accepted (why.CannotWrite name) named halts line = cc
unused files asked inputs given made r is one accepted (why.CannotRun test) named halts line = cc
unused files asked inputs given made r is one accepted why.NoMemory named halts line = cc
unused files asked inputs given made r is one accepted why.SinkFault named halts line = cc

alone : {call : Call} (files : Files) (asked : RunDatabaseArguments)
    → RunsOn call files IsAnswer (run_database asked)
    → (inputs : DatabaseInputs) (given : Given) (made : Made) (before : List DeviceRun)
    (run : DeviceRun) → database_inputs_in files asked ≡ Ok inputs
    → chosen_in inputs ≡ given ∷ []
    → made_in files (database_bench asked.program asked.work inputs) (Read given) ≡ Ok made
    → call.old.host.runs ≡ Some before → call.new.host.runs ≡ Some (before ++ run ∷ [])
    → Spells (task_on (database_bench asked.program asked.work inputs) made) run.after
    → NothingFailed call → AnswersOnly call answer.Done
alone {call} files asked r inputs given made before run is one accepted old new spells none =
    let was = world_of call.old in
    let now = world_of call.new in
    let plan = run_database asked in
    let bench = database_bench asked.program asked.work inputs in
    let at = at_status r.ran files in
    let never = unstopped {call = call} files asked.program asked.work in
    done-or-memory call.status
    (λ failed. never-failed {call = call} bench files (Read given) [] made before run accepted old
    new spells (subst (λ (gs : List Given). HasJudged call bench files (to_read gs) []
    finish.NotPassed) one (given-left {call = call} files asked inputs finish.NotPassed is
    (left call files asked (Ok finish.NotPassed) r.told
    (at answer.NotPassed r.told failed).completes))))
    (λ usage. let said = at answer.Usage r.told usage in
    unused {call = call} files asked inputs given made r is one accepted said.reason
    said.status_is said.halts said.line)
    (λ refused. let said = was_refused plan was now call.old.err call.new.err
    (at answer.Refused r.told refused) in
    never (why.Refused said.text) inputs given made (database_inputs_in files asked) is one accepted
    (left call files asked (Err (why.Refused said.text)) r.told said.completes said.line))
    (λ fault. elim (was_missing plan was now call.old.err call.new.err
    (at answer.HostFault r.told fault)) [
      | inl said ↦ never (why.NoFile said.name) inputs given made (database_inputs_in files asked)
          is one accepted
          (left call files asked (Err (why.NoFile said.name)) r.told said.completes said.line)
      | inr rose ↦ none.host rose
    ])
    (λ lost. unlost plan was now call.old.err call.new.err none
    (at answer.SinkFault r.told lost))

-- ---- executables
executables : {call : Call} (files : Files) (asked : RunDatabaseArguments)
    → RunsOn call files IsAnswer (run_database asked) → (inputs : DatabaseInputs) (given : Given)
    (files' : Files) → database_inputs_in files asked ≡ Ok inputs
    → Contains (chosen_in inputs) given
    → IsTrue (asks_elf (database_bench asked.program asked.work inputs))
    → (call.status ≡ answer.Done) ⊎ (call.status ≡ answer.NotPassed)
    → call.new.host.files ≡ Some files'
    → HasExecutable (database_bench asked.program asked.work inputs) files' given
executables {call} files asked r inputs given files' is there wanted ended told =
    elim ended [
      | inl done ↦ by finish.Done
          (left call files asked (Ok finish.Done) r.told
          (at_status r.ran files answer.Done r.told
          done).completes)
      | inr failed ↦ by finish.NotPassed
          (left call files asked (Ok finish.NotPassed) r.told
          (at_status r.ran files answer.NotPassed r.told
          failed).completes)
    ]
  where
    by : (end : Finish)
        → HasLeft (database_inputs_in files asked) (HasJudgedChosen call files asked end)
        → HasExecutable (database_bench asked.program asked.work inputs) files' given
    by end was =
        let bench = database_bench asked.program asked.work inputs in
        let judged = given-left {call = call} files asked inputs end is was in
        let both : Some (with_trials judged.trials files) ≡ Some files' =
        sym judged.tried.files_are ∙ told in
        let same : with_trials judged.trials files ≡ files' = cc in
        subst (λ (f : Files). HasExecutable bench f given) same
        (all-there bench (room-there files asked inputs is) files
        (chosen_in inputs) judged.trials judged.tried.each
        (apart-chosen 0 inputs.entries) (low-chosen files asked inputs is) wanted given there)

-- ---- the promise
pub judges_database : {call : Call} (files : Files) (asked : RunDatabaseArguments)
    → RunsOn call files IsAnswer (run_database asked) → RunsDatabase call files asked
judges_database {call} files asked r =
    let old = world_of call.old in
    let new = world_of call.new in
    let plan = run_database asked in
    record {
      done = λ is. left call files asked (Ok finish.Done) r.told
          (at_status r.ran files answer.Done r.told is).completes;
      not_passed = λ is. left call files asked (Ok finish.NotPassed) r.told
          (at_status r.ran files answer.NotPassed r.told is).completes;
      refused = λ is.
          let was = was_refused plan old new call.old.err call.new.err
          (at_status r.ran files answer.Refused r.told is) in
          elim (left call files asked (Err (why.Refused was.text)) r.told was.completes
          was.line) [
            | inl kept ↦ inl (
              record { text = was.text; refused = kept.0; line = was.line },
              kept.1,
            )
            | inr at ↦ inr (record { text = was.text; at = at })
          ];
      absent = λ is. elim (was_missing plan old new call.old.err call.new.err
          (at_status r.ran files answer.HostFault r.told is)) [
            | inl was ↦ elim (left call files asked (Err (why.NoFile was.name)) r.told
                was.completes was.line) [
                  | inl kept ↦ inl (
                    record { name = was.name; absent = kept.0; line = was.line },
                    kept.1,
                  )
                  | inr at ↦ inr (inl (record { text = was.name; at = at }))
                ]
            | inr rose ↦ inr (inr rose)
          ];
      by_refusal = λ text given none. elim (ran_answered r.ran files r.told none) [
        | inl m ↦ inl (means-end plan files call.status (Err (why.Refused text)) m
            (stops files asked (why.Refused text) given))
        | inr no_memory ↦ inr no_memory
      ];
      by_absence = λ name given none. elim (ran_answered r.ran files r.told none) [
        | inl m ↦ inl (means-end plan files call.status (Err (why.NoFile name)) m
            (stops files asked (why.NoFile name) given))
        | inr no_memory ↦ inr no_memory
      ];
      runs = is-made;
      limited = usual_limits_are_low;
      passes = λ bench t. passing.passes (task_on bench t.made) t.run.status t.run.after;
      executables = executables files asked r;
      alone = alone files asked r;
      others_kept = λ files' other. database-spares asked r.ran files files' other r.told;
    }
