-- What a trial changes of the files: those of its test alone.
use Rattle.std.proofs.Common.{◌≡◌, ℕ, List, [], ◌∷◌, map, Contains, bytes_eq, None, Result, Ok}
use Rattle.std.proofs.Common.{refl, ap, ◌∙◌, arith}
use Rattle.std.proofs.lemmas.List.Elements.{Contains-append_right}
use Rattle.rvs_base.specs.Host.{Files}
use Rattle.rvs_base.specs.declared.host.DeviceRun.{DeviceRun}
use Rattle.rvs_plan.specs.Inputs.{part_end}
use Rattle.rvs_machine.specs.Image.{ImageValue}
use Rattle.rvs_elf.specs.Written.{elf_of}
use Rattle.rvs_suite.specs.JudgingDatabase.{IsNoneOf}
use Rattle.rvs_reference.specs.Reference.{test_limit}
use Rattle.rvs_suite.specs.RunLeft.{made_in, Trial, trial_of, with_trial, with_trials}
use Rattle.rvs_suite.specs.RunLeft.{IsTrialOf, AreTrialsOf}
use Rattle.rvs_run.specs.RunTests.{Bench, files_for, asks_elf, made_by, made_found}
use Rattle.rvs_run.specs.RunTests.{made_of_image}
use Rattle.rvs_generate.specs.TestFiles.{IsOther, files_at}
use Rattle.rvs_reference.specs.TestRun.{image_found, found_end, then_found, run_found, limit_of}
use Rattle.rvs_generate.specs.declared.gathering.Test.{Test}
use Rattle.rvs_run.specs.declared.judging.Made.{Made}
use Rattle.rvs_generate.specs.declared.sources.Given.{Given}
use Rattle.rvs_generate.specs.declared.sources.Source.{Source}
use Rattle.rvs_generate.specs.declared.sources.Source.TheVariants.{Held, Read}
use Rattle.rvs_reference.specs.declared.test_run.Run.{Run}
use Rattle.rvs_suite.proofs.Executables.{kept-executable}
use Rattle.rvs_promises.proofs.Meanings.{then-ok, found-of}
use Rattle.rvs_generate.proofs.Paths.{passed-by, other-bytes}

-- a file that is none of those that are written for a test
abbrev pub IsNotOf : Bench → Source → List ℕ → Type 0
IsNotOf bench (Held test) other = IsOther (asks_elf bench) (files_for bench test) other
IsNotOf bench (Read given) other = IsNoneOf bench given other

-- ---- one that was made
-- its trial, by its run
pub held-trial : (bench : Bench) (files : Files) (test : Test) (t : Trial)
    → IsTrialOf bench files (Held test) t → t ≡ trial_of bench test t.run
held-trial bench files test t is = grind arith

kept-held : (bench : Bench) (files : Files) (test : Test) (run : DeviceRun) (other : List ℕ)
    → IsOther (asks_elf bench) (files_for bench test) other
    → with_trial (trial_of bench test run) files other ≡ files other
kept-held bench files test run other apart = grind (arith, passed-by, other-bytes, kept-executable)

-- ---- one of a database
pub record WasMade (files : Files) (bench : Bench) (given : Given) (made : Made) : Type 0 where
  pub bytes : List ℕ
  pub run : Run
  pub image : ImageValue
  pub there : part_end test_limit given.name given.name test_limit (files given.name) ≡ Ok bytes
  pub spelt : image_found bench.isa given.name bytes ≡ Ok image
  pub ran : run_found given.name (limit_of None given.name bytes) bench.isa image ≡ Ok run
  pub found : made_found bench (files_at bench.work given.place given.name) bytes ≡ Ok made
  pub is : made ≡ made_by bench (files_at bench.work given.place given.name) image run

found-ok : {A B : Type 0} (found : Result A (List ℕ)) (next : A → Result B (List ℕ)) (b : B)
    → then_found found next ≡ Ok b → (a : A) × (found ≡ Ok a) × (next a ≡ Ok b)
found-ok found next b is = grind arith

pub was-made : (files : Files) (bench : Bench) (given : Given) (made : Made)
    → made_in files bench (Read given) ≡ Ok made → WasMade files bench given made
was-made files bench given made is =
    let own = files_at bench.work given.place given.name in
    let t = then-ok (part_end test_limit given.name given.name test_limit (files given.name))
    (λ bytes. found_end (made_found bench own bytes)) made is in
    let found = found-of (made_found bench own t.0) made t.2 in
    let i = found-ok (image_found bench.isa given.name t.0) (made_of_image bench own t.0) made
    found in
    let r = found-ok (run_found given.name (limit_of None given.name t.0) bench.isa i.0)
    (λ run. Ok (made_by bench own i.0 run)) made i.2 in
    let both : Ok (made_by bench own i.0 r.0) ≡ Ok made = r.2 in
    let same : made ≡ made_by bench own i.0 r.0 = cc in
    record {
      bytes = t.0;
      run = r.0;
      image = i.0;
      there = t.1;
      spelt = i.1;
      ran = r.1;
      found = found;
      is = same;
    }

kept-read : (bench : Bench) (files : Files) (given : Given) (t : Trial) (other : List ℕ)
    → t.source ≡ Read given → WasMade files bench given t.made → IsNoneOf bench given other
    → with_trial t files other ≡ files other
kept-read bench files given t other source w apart =
    let names = files_at bench.work given.place given.name in
    (λ i. with_trial (record { source = source i; made = w.is i; run = t.run }) files other)
    ∙ passed-by (bytes_eq other names.device) _ _ (other-bytes other names.device apart.device)
    ∙ passed-by (bytes_eq other names.reference) _ _
    (other-bytes other names.reference apart.reference)
    ∙ kept-executable (asks_elf bench) names.executable (elf_of w.image) files other
    apart.executable

-- ---- all
kept-trial : (bench : Bench) (files : Files) (source : Source) (t : Trial) (other : List ℕ)
    → IsTrialOf bench files source t → IsNotOf bench source other
    → with_trial t files other ≡ files other
kept-trial bench files (Held test) t other is apart =
    ap (λ (x : Trial). with_trial x files other) (held-trial bench files test t is)
    ∙ kept-held bench files test t.run other apart
kept-trial bench files (Read given) t other is apart = kept-read bench files given t other
    is.source_is (was-made files bench given t.made is.made) apart

pub kept-trials : {A : Type 0} (of : A → Source) (bench : Bench) (files : Files) (xs : List A)
    (ts : List Trial) (other : List ℕ) → AreTrialsOf bench files (map of xs) ts
    → ((x : A) → Contains xs x → IsNotOf bench (of x) other)
    → with_trials ts files other ≡ files other
kept-trials of bench files [] [] other each apart = refl
kept-trials of bench files [] (t ∷ ts) other each apart = absurd each
kept-trials of bench files (x ∷ xs) [] other each apart = absurd each
kept-trials of bench files (x ∷ xs) (t ∷ ts) other each apart =
    kept-trials of bench (with_trial t files) xs ts other each.1
    (λ y there. apart y (Contains-append_right (x ∷ []) xs y there))
    ∙ kept-trial bench files (of x) t other each.0 (apart x (0, omega arith, refl))
