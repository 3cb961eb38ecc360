-- Which tests pass, by the verdict on all of them.
use Rattle.std.proofs.Common.{◌≡◌, ◌≢◌, ◌≤◌, ℕ, zero, suc, ◌+◌, ◌==◌, Bool, true, false, All}
use Rattle.std.proofs.Common.{if◌then◌else◌, List, [], ◌∷◌, ◌++◌, length, Contains, option_map}
use Rattle.std.proofs.Common.{Option, Some, Ok, refl, sym, ap, subst, ◌∙◌, arith}
use Rattle.std.proofs.lemmas.List.{append_cancel_left}
use Rattle.std.proofs.lemmas.Bool.Decides.{nat_tests}
use Rattle.std.proofs.lemmas.List.Elements.{All-cons, All-nil, Contains-append_right}
use Rattle.rvs_base.specs.Host.{Files}
use Rattle.rvs_base.specs.declared.host.DeviceRun.{DeviceRun}
use Rattle.rvs_plan.specs.declared.status.Finish.{Finish}
use Rattle.rvs_plan.specs.declared.status.Finish.TheVariants as finish
use Rattle.rvs_device.proofs.Passing as passing
use Rattle.rvs_device.specs.Judging.{Spells}
use Rattle.rvs_device.specs.declared.verdicts.TestVerdict.{TestVerdict}
use Rattle.rvs_device.specs.declared.verdicts.TestVerdict.TheVariants.{Pass, NoSignature, TooLong}
use Rattle.rvs_device.specs.declared.verdicts.TestVerdict.TheVariants.{BadSignature, Differs}
use Rattle.rvs_device.specs.declared.verdicts.TestVerdict.TheVariants.{Lengths}
use Rattle.rvs_promises.specs.Call.{Call}
use Rattle.rvs_suite.specs.Judging.{HasJudged}
use Rattle.rvs_suite.specs.RunLeft.{made_in, Trial, with_trial, AreTrialsOf, task_on}
use Rattle.rvs_suite.specs.RunLeft.{trial_verdict, trials_passed, runs_of, HasSpelled, AreJudged}
use Rattle.rvs_run.specs.RunTests.{Bench, passes, with_one, verdict_of_all}
use Rattle.rvs_run.specs.declared.judging.Made.{Made}
use Rattle.rvs_generate.specs.declared.sources.Source.{Source}

-- ---- one trial
spelled-by : (bench : Bench) (t : Trial) (v : TestVerdict) → trial_verdict t ≡ v
    → passes v ≡ true → HasSpelled bench t
spelled-by bench t (Pass n status) is pass =
    passing.pass-spells (task_on bench t.made) t.run.status status n t.run.after is
spelled-by bench t (NoSignature status) is pass = absurd cc
spelled-by bench t (TooLong status) is pass = absurd cc
spelled-by bench t (BadSignature line status) is pass = absurd cc
spelled-by bench t (Differs at left right status) is pass = absurd cc
spelled-by bench t (Lengths left right status) is pass = absurd cc

not-spelled : (bench : Bench) (t : Trial) → passes (trial_verdict t) ≡ false
    → HasSpelled bench t → ⊥
not-spelled bench t fails spells =
    let pass : true ≡ passes (trial_verdict t) = sym (ap passes
    ((passing.passes (task_on bench t.made) t.run.status t.run.after).1 spells)) in
    let no : true ≡ false = pass ∙ fails in cc

-- ---- all trials
same-length : (bench : Bench) (sources : List Source) (ts : List Trial) (files : Files)
    → AreTrialsOf bench files sources ts → length ts ≡ length sources
same-length bench [] [] files each = refl
same-length bench [] (t ∷ ts) files each = absurd each
same-length bench (s ∷ sources) [] files each = absurd each
same-length bench (s ∷ sources) (t ∷ ts) files each =
    ap (λ n. suc n) (same-length bench sources ts (with_trial t files) each.1)

most : (n : ℕ) (ts : List Trial) → trials_passed n ts ≤ n + length ts
most n [] = omega arith
most n (t ∷ ts) = by-test (passes (trial_verdict t)) (λ m. most m ts)
  where
    by-test : (b : Bool) → ((m : ℕ) → trials_passed m ts ≤ m + length ts)
        → trials_passed (with_one n b) ts ≤ n + suc (length ts)
    by-test true later = let h = later (n + 1) in omega (arith, h)
    by-test false later = let h = later n in omega (arith, h)

all-spelled : (bench : Bench) (n : ℕ) (ts : List Trial) → trials_passed n ts ≡ n + length ts
    → All (HasSpelled bench) ts
all-spelled bench n [] e = All-nil (HasSpelled bench)
all-spelled bench n (t ∷ ts) e =
    by-test (passes (trial_verdict t)) refl e (λ m h. all-spelled bench m ts h)
  where
    by-test : (b : Bool) → passes (trial_verdict t) ≡ b
        → trials_passed (with_one n b) ts ≡ n + suc (length ts)
        → ((m : ℕ) → trials_passed m ts ≡ m + length ts → All (HasSpelled bench) ts)
        → All (HasSpelled bench) (t ∷ ts)
    by-test true is e later =
        All-cons (HasSpelled bench) t ts (spelled-by bench t (trial_verdict t) refl is)
        (later (n + 1) (omega (arith, e)))
    by-test false is e later = let h = most n ts in absurd (omega (arith, e, h))

one-fails : (bench : Bench) (n : ℕ) (ts : List Trial) → trials_passed n ts ≢ n + length ts
    → (t : Trial) × Contains ts t × (HasSpelled bench t → ⊥)
one-fails bench n [] e = absurd (e (omega arith))
one-fails bench n (t ∷ ts) e =
    by-test (passes (trial_verdict t)) refl e (λ m h. one-fails bench m ts h)
  where
    by-test : (b : Bool) → passes (trial_verdict t) ≡ b
        → trials_passed (with_one n b) ts ≢ n + suc (length ts)
        → ((m : ℕ) → trials_passed m ts ≢ m + length ts
        → (s : Trial) × Contains ts s × (HasSpelled bench s → ⊥))
        → (s : Trial) × Contains (t ∷ ts) s × (HasSpelled bench s → ⊥)
    by-test true is e later =
        let s = later (n + 1) (λ h. e (omega (arith, h))) in
        (s.0, Contains-append_right (t ∷ []) ts s.0 s.1, s.2)
    by-test false is e later = (t, (0, omega arith, refl), not-spelled bench t is)

judged-for : (bench : Bench) (ts : List Trial) (tests : ℕ) (end : Finish) (b : Bool)
    → length ts ≡ tests → (trials_passed 0 ts == tests) ≡ b
    → end ≡ (if b then finish.Done else finish.NotPassed) → AreJudged bench end ts
judged-for bench ts tests finish.Done true long is e =
    let all : trials_passed 0 ts ≡ tests = grind (arith, nat_tests) in
    all-spelled bench 0 ts (omega (arith, all, long))
judged-for bench ts tests finish.NotPassed true long is e = absurd cc
judged-for bench ts tests finish.Done false long is e = absurd cc
judged-for bench ts tests finish.NotPassed false long is e =
    let some : trials_passed 0 ts ≢ tests = λ h. grind (arith, nat_tests) in
    one-fails bench 0 ts (λ h. some (omega (arith, h, long)))

-- the verdict on all says which pass
pub are-judged : (bench : Bench) (files : Files) (sources : List Source) (ts : List Trial)
    (end : Finish) → AreTrialsOf bench files sources ts
    → end ≡ verdict_of_all (length sources) (trials_passed 0 ts) → AreJudged bench end ts
are-judged bench files sources ts end each verdict = grind (arith, judged-for, same-length)

-- ---- where there is one test
-- its trial is the one run with what came of it
one-trial : (bench : Bench) (files : Files) (source : Source) (made : Made) (run : DeviceRun)
    (ts : List Trial) (t : Trial) → AreTrialsOf bench files (source ∷ []) ts
    → made_in files bench source ≡ Ok made → run ∷ [] ≡ runs_of ts → Contains ts t
    → (t.made ≡ made) × (t.run ≡ run)
one-trial bench files source made run [] t each is runs there = absurd each
one-trial bench files source made run (s ∷ u ∷ ts) t each is runs there = absurd each.1
one-trial bench files source made run (s ∷ []) t each is runs (zero, low, at) =
    let both : Ok s.made ≡ Ok made = sym each.0.made ∙ is in
    let made-is : s.made ≡ made = cc in
    let run-is : run ≡ s.run = cc in
    let same : s ≡ t = at in (
      ap (λ (x : Trial). x.made) (sym same) ∙ made-is,
      ap (λ (x : Trial). x.run) (sym same) ∙ sym run-is,
    )
one-trial bench files source made run (s ∷ []) t each is runs (suc k, low, at) =
    absurd (omega (arith, low))

-- where it spells the words of the reference machine, the verdict is no other than a pass
pub never-failed : {call : Call} (bench : Bench) (files : Files) (source : Source) (said : List ℕ)
    (made : Made) (before : List DeviceRun) (run : DeviceRun)
    → made_in files bench source ≡ Ok made → call.old.host.runs ≡ Some before
    → call.new.host.runs ≡ Some (before ++ run ∷ []) → Spells (task_on bench made) run.after
    → HasJudged call bench files (source ∷ []) said finish.NotPassed → ⊥
never-failed {call} bench files source said made before run is old new spells judged =
    let both : Some (before ++ run ∷ []) ≡ Some (before ++ runs_of judged.trials) =
    sym new ∙ judged.tried.made
    ∙ ap (λ (r : Option (List DeviceRun)). option_map (λ b. b ++ runs_of judged.trials) r) old in
    let same : before ++ run ∷ [] ≡ before ++ runs_of judged.trials = cc in
    let runs = append_cancel_left before (run ∷ []) (runs_of judged.trials) same in
    let fails = judged.means in
    let t = one-trial bench files source made run judged.trials fails.0 judged.tried.each is runs
    fails.1 in
    fails.2 (subst (λ (m : Made). Spells (task_on bench m) fails.0.run.after) (sym t.0)
    (subst (λ (r : DeviceRun). Spells (task_on bench made) r.after) (sym t.1) spells))
