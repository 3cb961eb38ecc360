-- Where `run` is done each test passes, and each label with a point that a choice hits has one.
use Rattle.std.proofs.Common.{◌≡◌, ℕ, zero, suc, List, [], ◌∷◌, Contains, Some, All, refl, sym}
use Rattle.std.proofs.Common.{ap, subst, ◌∙◌, arith}
use Rattle.std.proofs.lemmas.List.Elements.{All-head, All-tail, Contains-append_right}
use Rattle.rvs_base.specs.Host.{Files}
use Rattle.rvs_base.specs.declared.host.DeviceRun.{DeviceRun}
use Rattle.rvs_plan.specs.declared.status.Finish.TheVariants as finish
use Rattle.rvs_insn.specs.Isa.{Isa}
use Rattle.rvs_asm_text.specs.Header.{header_steps}
use Rattle.rvs_cgf.specs.Groups.{Label}
use Rattle.rvs_device.specs.Judging.{Spells}
use Rattle.rvs_test_text.specs.TestText.{step_limit}
use Rattle.rvs_test_text.specs.Claim.{words_after}
use Rattle.rvs_test.specs.Made.{cases_of}
use Rattle.rvs_promises.specs.Call.{Call}
use Rattle.rvs_promises.specs.Headline.{IsProved}
use Rattle.rvs_run.specs.RunTests.{Bench, RunInputs, bench_of}
use Rattle.rvs_suite.specs.RunLeft.{Trial, with_trial, AreTrialsOf, runs_of, IsRunOf, task_of}
use Rattle.rvs_suite.specs.RunLeft.{HasSpelled}
use Rattle.rvs_suite.specs.Judging.{tests_in, HasJudgedTests}
use Rattle.rvs_suite.specs.Signing.{Passes, IsSigned}
use Rattle.rvs_promises.specs.Tested.{AreTested}
use Rattle.rvs_generate.specs.Tests.{reference_words, words_of_image, run_on, held}
use Rattle.rvs_generate.specs.declared.gathering.Test.{Test}
use Rattle.rvs_words.specs.declared.command.RunArguments.{RunArguments}
use Rattle.rvs_suite.proofs.KeptTrials.{held-trial}
use Rattle.rvs_promises.proofs.Signed.{has-test, proved}
use Rattle.rvs_suite.proofs.Standing.{held-run, among-runs, test_by, test-of}

record Passed (bench : Bench) (test : Test) (runs : List DeviceRun) : Type 0 where
  run : DeviceRun
  among : Contains runs run
  is_run : IsRunOf bench test run
  spells : Spells (task_of bench test) run.after

passed : (bench : Bench) (files : Files) (ts : List Test) (trials : List Trial)
    → AreTrialsOf bench files (held ts) trials → All (HasSpelled bench) trials
    → (test : Test) → Contains ts test → Passed bench test (runs_of trials)
passed bench files [] trials each all test (i, within, at) = absurd (omega (arith, within))
passed bench files (t ∷ ts) [] each all test there = absurd each
passed bench files (t ∷ ts) (trial ∷ trials) each all test (zero, within, at) =
    subst (λ (x : Test). Passed bench x (runs_of (trial ∷ trials))) at (record {
      run = trial.run;
      among = (0, omega arith, refl);
      is_run = held-run bench files t trial each.0;
      spells = subst (λ (x : Trial). HasSpelled bench x)
          (held-trial bench files t trial each.0)
          (All-head (HasSpelled bench) trial trials all);
    })
passed bench files (t ∷ ts) (trial ∷ trials) each all test (suc k, within, at) =
    let p = passed bench (with_trial trial files) ts trials each.1
    (All-tail (HasSpelled bench) trial trials all) test (k, omega (arith, within), at) in
    record {
      run = p.run;
      among = Contains-append_right (trial.run ∷ []) (runs_of trials) p.run p.among;
      is_run = p.is_run;
      spells = p.spells;
    }

-- the words that a test is judged by are those of the run that its proof speaks of
judged-by : (isa : Isa) (l : Label) (text : List ℕ) (p : IsProved isa l text)
    → header_steps text ≡ Some (step_limit (cases_of isa l))
    → reference_words isa (test_by isa l text)
    ≡ words_after p.image isa (run_on isa p.image p.steps)
unfolding reference_words
judged-by isa l text p header =
    let both : Some (step_limit (cases_of isa l)) ≡ Some p.steps = sym header ∙ p.header in
    let same : step_limit (cases_of isa l) ≡ p.steps = cc in
    ap (words_of_image isa (step_limit (cases_of isa l))) p.alone
    ∙ ap (λ (n : ℕ). words_after p.image isa (run_on isa p.image n)) same

pub signs : {call : Call} (files : Files) (asked : RunArguments) (inputs : RunInputs)
    → HasJudgedTests call files asked inputs finish.Done → AreTested inputs.groups
    → IsSigned call (bench_of asked.program asked.work inputs) inputs.groups.groups
    (tests_in inputs)
signs {call} files asked inputs judged tested =
    let isa = inputs.groups.isa in
    let bench = bench_of asked.program asked.work inputs in
    let of_run : (test : Test) → Contains (tests_in inputs) test → Passes call bench test =
    λ test there.
    let p = passed bench files (tests_in inputs) judged.trials judged.tried.each judged.means test
    there in
    record {
      run = p.run;
      made = λ runs is. among-runs (runs_of judged.trials) runs p.run call.old.host.runs p.among
          (sym is ∙ judged.tried.made);
      is_run = p.is_run;
      spells = p.spells;
    } in
    record {
      all = of_run;
      each = λ l k there selected solvable.
          let has = has-test isa l k solvable in
          let inside = test-of isa inputs.groups.groups l has.0 there selected has.1 in
          let own = proved inputs.groups l has.0 tested there selected has.1 in
          let runs = tested.runs l has.0 there selected has.1 in
          record {
            test = test_by isa l has.0;
            among = inside;
            own = refl;
            proved = own;
            judged_by = judged-by isa l has.0 own runs.header;
            passes = of_run (test_by isa l has.0) inside;
          };
    }
