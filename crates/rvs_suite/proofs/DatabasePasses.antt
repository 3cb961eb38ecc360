-- Where one test of a database is selected, and is accepted, the work ends behind it.
use Rattle.std.proofs.Common.{◌≡◌, ◌⊎◌, suc, ℕ, List, [], ◌∷◌, ◌++◌, length}
use Rattle.std.proofs.Common.{length-append, Ok, Err, refl, sym, ap, subst, ◌∙◌, arith}
use Rattle.rvs_base.specs.Host.{Files}
use Rattle.rvs_plan.specs.declared.stop.Stop.{Stop}
use Rattle.rvs_plan.specs.declared.status.Status.{Status}
use Rattle.rvs_plan.specs.declared.status.Status.TheVariants as answer
use Rattle.rvs_promises.specs.Call.{Call}
use Rattle.rvs_suite.specs.JudgingDatabase.{chosen_in, HasStopped}
use Rattle.rvs_run.specs.RunDatabase.{DatabaseInputs, database_bench}
use Rattle.rvs_suite.specs.RunLeft.{made_in, Trial, with_trials, AreTrialsOf}
use Rattle.rvs_run.specs.RunTests.{Bench}
use Rattle.rvs_generate.specs.Tests.{to_read}
use Rattle.rvs_run.specs.declared.judging.Made.{Made}
use Rattle.rvs_generate.specs.declared.sources.Given.{Given}
use Rattle.rvs_generate.specs.declared.sources.Source.TheVariants.{Read}

only-one : (before : List Given) (x g : Given) (behind : List Given)
    → g ∷ [] ≡ before ++ x ∷ behind → (before ≡ []) × (g ≡ x)
only-one [] x g behind is = let same : g ≡ x = cc in (refl, same)
only-one (b ∷ before) x g behind is =
    let long : 1 ≡ suc (length (before ++ x ∷ behind)) = ap length is in
    let sum = length-append before (x ∷ behind) in absurd (omega (arith, long, sum))

none-tried : (bench : Bench) (files : Files) (ts : List Trial) → AreTrialsOf bench files [] ts
    → ts ≡ []
none-tried bench files ts each = grind arith

-- it didn't stop there
pub never-stopped-at : {call : Call} (files : Files) (program work : List ℕ) (stop : Stop)
    (inputs : DatabaseInputs) (given : Given) (made : Made) → chosen_in inputs ≡ given ∷ []
    → made_in files (database_bench program work inputs) (Read given) ≡ Ok made
    → HasStopped call files program work stop inputs → ⊥
never-stopped-at {call} files program work stop inputs given made one is at =
    let bench = database_bench program work inputs in
    let place = only-one at.before at.given given at.behind (sym one ∙ at.all) in
    let none = none-tried bench files at.trials
    (subst (λ (gs : List Given). AreTrialsOf bench files (to_read gs) at.trials) place.0
    at.tried.each) in
    let stops : made_in files bench (Read given) ≡ Err stop =
    ap (λ (g : Given). made_in files bench (Read g)) place.1
    ∙ ap (λ (ts : List Trial). made_in (with_trials ts files) bench (Read at.given)) (sym none)
    ∙ at.stops in
    let both : Ok made ≡ Err stop = sym is ∙ stops in cc

-- ---- the status
pub done-or-memory : (status : Status) → (status ≡ answer.NotPassed → ⊥)
    → (status ≡ answer.Usage → ⊥) → (status ≡ answer.Refused → ⊥)
    → (status ≡ answer.HostFault → ⊥) → (status ≡ answer.SinkFault → ⊥)
    → (status ≡ answer.Done) ⊎ (status ≡ answer.NoMemory)
done-or-memory status n u r h s = grind arith
