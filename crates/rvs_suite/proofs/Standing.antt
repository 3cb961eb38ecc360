-- That the files of each test stand when all tests were judged, since no two labels have one
-- name.
use Rattle.std.proofs.Common.{◌≡◌, ◌≢◌, inl, inr, ℕ, zero, suc, Bool, true, false, List, [], ◌∷◌}
use Rattle.std.proofs.Common.{◌++◌, Contains, IsTrue, Option, Some, None, option_map, if◌then◌else◌}
use Rattle.std.proofs.Common.{bytes_eq, refl, sym, ap, subst, ◌∙◌, arith}
use Rattle.std.proofs.lemmas.Bool.{or_parts, and_parts}
use Rattle.std.specs.Prelude.{not, ⊤}
use Rattle.std.specs.List.{list_any}
use Rattle.std.proofs.lemmas.List.Elements.{Contains-append_left, Contains-append_right}
use Rattle.std.proofs.lemmas.List.Elements.{Contains-append_cases}
use Rattle.std.proofs.lemmas.Slice.Eq.{bytes_eq-Decides}
use Rattle.rvs_base.specs.Host.{Files}
use Rattle.rvs_base.specs.declared.host.DeviceRun.{DeviceRun}
use Rattle.rvs_sig.specs.Words.{text_of_words}
use Rattle.rvs_plan.specs.declared.status.Finish.{Finish}
use Rattle.rvs_insn.specs.Isa.{Isa}
use Rattle.rvs_cgf.specs.Groups.{Label}
use Rattle.rvs_normal.specs.Again.{names_are_apart}
use Rattle.rvs_normal.proofs.Truths.{not-true}
use Rattle.rvs_test_text.specs.TestText.{step_limit}
use Rattle.rvs_test.specs.Made.{cases_of, text_of_label}
use Rattle.rvs_promises.specs.Call.{Call}
use Rattle.rvs_generate.specs.Tests.{reference_words, executable_of, test_with, tests_of_label}
use Rattle.rvs_generate.specs.Tests.{tests_of, held}
use Rattle.rvs_generate.specs.TestFiles.{files_of}
use Rattle.rvs_run.specs.RunTests.{Bench, RunInputs, files_for, asks_elf, made_for}
use Rattle.rvs_run.specs.RunTests.{bench_of}
use Rattle.rvs_suite.specs.RunLeft.{Trial, trial_of, started_on, with_trial, with_trials, runs_of}
use Rattle.rvs_suite.specs.RunLeft.{IsTrialOf, AreTrialsOf, IsRunOf, AreRunsOf, HaveRun}
use Rattle.rvs_suite.specs.Judging.{tests_in, HasJudgedTests, HasTestFiles}
use Rattle.rvs_generate.specs.declared.gathering.Test.{Test}
use Rattle.rvs_generate.specs.declared.sources.Source.TheVariants.{Held}
use Rattle.rvs_words.specs.declared.command.RunArguments.{RunArguments}
use Rattle.rvs_generate.proofs.Paths.{found-in, passed-by, same-bytes, other-bytes, not-reference}
use Rattle.rvs_generate.proofs.Paths.{not-executable, reference-not-executable}
use Rattle.rvs_generate.proofs.Paths.{device-not-executable, not-device, apart-signatures}
use Rattle.rvs_generate.proofs.Paths.{test-other}
use Rattle.rvs_generate.proofs.Paths.{executable-other, reference-other, device-other}
use Rattle.rvs_suite.proofs.Executables.{kept-executable, there-executable}
use Rattle.rvs_suite.proofs.KeptTrials.{held-trial, kept-trials}

-- ---- tests of labels
abbrev AreApart : List Test → Type 0
AreApart [] = ⊤
AreApart (t ∷ ts) = ((u : Test) → Contains ts u → t.name ≢ u.name) × AreApart ts

none-in : {A : Type 0} (x : A) → Contains [] x → ⊥
none-in x (i, within, at) = omega (arith, within)

named-with : (name : List ℕ) (steps : ℕ) (b : Bool) (text : Option (List ℕ)) (t : Test)
    → Contains (if b then test_with name steps text else []) t → t.name ≡ name
named-with name steps b text t there = grind arith

label-of : (isa : Isa) (ls : List Label) (t : Test) → Contains (tests_of isa ls) t
    → (l : Label) × Contains ls l × (t.name ≡ l.name)
label-of isa [] t there = absurd (none-in t there)
label-of isa (l ∷ ls) t there =
    elim (Contains-append_cases (tests_of_label isa l) (tests_of isa ls) t there) [
      | inl here ↦ (
        l,
        (0, omega arith, refl),
        named-with l.name (step_limit (cases_of isa l)) l.selected (text_of_label isa l) t here,
      )
      | inr behind ↦ let r = label-of isa ls t behind in
          (r.0, Contains-append_right (l ∷ []) ls r.0 r.1, r.2)
    ]

not-any : (name : List ℕ) (ls : List Label) (l : Label)
    → list_any (λ (m : Label). bytes_eq name m.name) ls ≡ false → Contains ls l → name ≢ l.name
not-any name [] l none there = absurd (none-in l there)
not-any name (m ∷ ms) l none (zero, within, at) =
    let p = or_parts (bytes_eq name m.name) (list_any (λ (x : Label). bytes_eq name x.name) ms)
    none in
    λ same. let yes : bytes_eq name m.name ≡ true =
    (bytes_eq-Decides name m.name).1 (same ∙ sym (ap (λ (x : Label). x.name) at)) in cc
not-any name (m ∷ ms) l none (suc i, within, at) =
    let p = or_parts (bytes_eq name m.name) (list_any (λ (x : Label). bytes_eq name x.name) ms)
    none in
    not-any name ms l p.1 (i, omega (arith, within), at)

apart-with : (name : List ℕ) (steps : ℕ) (b : Bool) (text : Option (List ℕ)) (rest : List Test)
    → ((u : Test) → Contains rest u → name ≢ u.name) → AreApart rest
    → AreApart ((if b then test_with name steps text else []) ++ rest)
apart-with name steps b text rest others apart = grind arith

apart-tests : (isa : Isa) (ls : List Label) → names_are_apart ls ≡ true
    → AreApart (tests_of isa ls)
apart-tests isa [] apart = tt
apart-tests isa (l ∷ ls) apart =
    let later = list_any (λ (m : Label). bytes_eq l.name m.name) ls in
    let p = and_parts (not later) (names_are_apart ls) apart in
    apart-with l.name (step_limit (cases_of isa l)) l.selected (text_of_label isa l)
    (tests_of isa ls) (λ u there. let m = label-of isa ls u there in
    λ same. not-any l.name ls m.0 (not-true later p.0) m.1 (same ∙ m.2))
    (apart-tests isa ls p.1)

-- a label that has a text has it as a test
test-with : (name : List ℕ) (steps : ℕ) (b : Bool) (text : Option (List ℕ)) (t : List ℕ)
    → b ≡ true → text ≡ Some t
    → Contains (if b then test_with name steps text else [])
    (record { name = name; text = t; steps = steps })
test-with name steps b text t chosen is = grind arith

-- the test of a label that has this text
abbrev pub test_by : Isa → Label → List ℕ → Test
test_by isa l text =
    record { name = l.name; text = text; steps = step_limit (cases_of isa l) }

pub test-of : (isa : Isa) (ls : List Label) (l : Label) (text : List ℕ) → Contains ls l
    → l.selected ≡ true → text_of_label isa l ≡ Some text
    → Contains (tests_of isa ls) (test_by isa l text)
test-of isa ls l text there selected is = inside ls there
  where
    here : (k : Label) → k ≡ l → Contains (tests_of_label isa k) (test_by isa l text)
    here k same = subst (λ (m : Label). Contains (tests_of_label isa m) (test_by isa l text))
        (sym same) (test-with l.name (step_limit (cases_of isa l)) l.selected (text_of_label isa l)
        text selected is)

    inside : (ls : List Label) → Contains ls l → Contains (tests_of isa ls) (test_by isa l text)
    inside [] (i, within, at) = absurd (omega (arith, within))
    inside (k ∷ ks) (zero, within, at) =
        Contains-append_left (tests_of_label isa k) (tests_of isa ks) (test_by isa l text)
        (here k at)
    inside (k ∷ ks) (suc i, within, at) = Contains-append_right (tests_of_label isa k)
        (tests_of isa ks) (test_by isa l text) (inside ks (i, omega (arith, within), at))

-- ---- what is left of each test
-- the files when the device is started
abbrev started : Bench → Test → Files → Files
started bench test files = started_on (Held test) (made_for bench test) files

test-there : (bench : Bench) (test : Test) (files : Files)
    → started bench test files (files_for bench test).test ≡ Some test.text
test-there bench test files =
    passed-by (bytes_eq (files_for bench test).test (files_for bench test).device) _ _
    (other-bytes (files_for bench test).test (files_for bench test).device
    (not-device bench.work test.name test.name))
    ∙ passed-by (bytes_eq (files_for bench test).test (files_for bench test).reference) _ _
    (other-bytes (files_for bench test).test (files_for bench test).reference
    (not-reference bench.work test.name test.name))
    ∙ kept-executable (asks_elf bench) (files_for bench test).executable
    (executable_of bench.isa test) _ (files_for bench test).test
    (λ wanted. not-executable bench.work test.name test.name)
    ∙ found-in (bytes_eq (files_for bench test).test (files_for bench test).test) _ _
    (same-bytes (files_for bench test).test)

-- the run of a trial of a test that was made
pub held-run : (bench : Bench) (files : Files) (test : Test) (t : Trial)
    → IsTrialOf bench files (Held test) t → IsRunOf bench test t.run
held-run bench files test t is = grind (arith, held-trial, test-there)

record Stands (bench : Bench) (t : Test) (runs : List DeviceRun) (files : Files) : Type 0 where
  test : files (files_for bench t).test ≡ Some t.text
  executable : IsTrue (asks_elf bench)
      → files (files_for bench t).executable ≡ Some (executable_of bench.isa t)
  reference : files (files_for bench t).reference
      ≡ Some (text_of_words (reference_words bench.isa t))
  run : DeviceRun
  is_run : IsRunOf bench t run
  among : Contains runs run
  device : files (files_for bench t).device ≡ run.after

stands-first : (bench : Bench) (t : Test) (ts : List Test) (run : DeviceRun)
    (trials : List Trial) (files : Files) → IsRunOf bench t run
    → AreTrialsOf bench (with_trial (trial_of bench t run) files) (held ts) trials
    → ((u : Test) → Contains ts u → t.name ≢ u.name)
    → Stands bench t (run ∷ runs_of trials)
    (with_trials trials (with_trial (trial_of bench t run) files))
stands-first bench t ts run trials files is each apart =
    let work = bench.work in
    let name = t.name in
    let own = files_for bench t in
    let wants = asks_elf bench in
    let executable = executable_of bench.isa t in
    let now = with_trial (trial_of bench t run) files in
    let kept = λ (other : List ℕ).
    kept-trials (λ (test : Test). Held test) bench now ts trials other each in
    record {
      test = kept own.test (λ u there. test-other wants work name u.name (apart u there))
          ∙ passed-by (bytes_eq own.test own.device) _ _
          (other-bytes own.test own.device (not-device work name name))
          ∙ passed-by (bytes_eq own.test own.reference) _ _
          (other-bytes own.test own.reference (not-reference work name name))
          ∙ kept-executable wants own.executable executable _ own.test
          (λ wanted. not-executable work name name)
          ∙ found-in (bytes_eq own.test own.test) _ _ (same-bytes own.test);
      executable = λ wanted. kept own.executable
          (λ u there. executable-other wants work name u.name (apart u there))
          ∙ passed-by (bytes_eq own.executable own.device) _ _
          (other-bytes own.executable own.device
          (λ same. device-not-executable work name name (sym same)))
          ∙ passed-by (bytes_eq own.executable own.reference) _ _
          (other-bytes own.executable own.reference
          (λ same. reference-not-executable work name name (sym same)))
          ∙ there-executable wants own.executable executable _ wanted;
      reference = kept own.reference
          (λ u there. reference-other wants work name u.name (apart u there))
          ∙ passed-by (bytes_eq own.reference own.device) _ _
          (other-bytes own.reference own.device (apart-signatures work name name))
          ∙ found-in (bytes_eq own.reference own.reference) _ _ (same-bytes own.reference);
      run = run;
      is_run = is;
      among = (0, omega arith, refl);
      device = kept own.device (λ u there. device-other wants work name u.name (apart u there))
          ∙ found-in (bytes_eq own.device own.device) _ _ (same-bytes own.device);
    }

all-stand : (bench : Bench) (ts : List Test) (trials : List Trial) (files : Files) (u : Test)
    → AreTrialsOf bench files (held ts) trials → AreApart ts → Contains ts u
    → Stands bench u (runs_of trials) (with_trials trials files)
all-stand bench [] trials files u each apart there = absurd (none-in u there)
all-stand bench (t ∷ ts) [] files u each apart there = absurd each
all-stand bench (t ∷ ts) (trial ∷ trials) files u each apart (zero, within, at) =
    let same = held-trial bench files t trial each.0 in
    let later = subst (λ (x : Trial). AreTrialsOf bench (with_trial x files) (held ts) trials) same
    each.1 in
    subst (λ (x : Test). Stands bench x (runs_of (trial ∷ trials))
    (with_trials (trial ∷ trials) files)) at
    (subst (λ (x : Trial). Stands bench t (trial.run ∷ runs_of trials)
    (with_trials trials (with_trial x files))) (sym same)
    (stands-first bench t ts trial.run trials files (held-run bench files t trial each.0) later
    apart.0))
all-stand bench (t ∷ ts) (trial ∷ trials) files u each apart (suc i, within, at) =
    let s = all-stand bench ts trials (with_trial trial files) u each.1 apart.1
    (i, omega (arith, within), at) in
    record {
      test = s.test;
      executable = s.executable;
      reference = s.reference;
      run = s.run;
      is_run = s.is_run;
      among = Contains-append_right (trial.run ∷ []) (runs_of trials) s.run s.among;
      device = s.device;
    }

-- ---- what a call has left
pub among-runs : (news after : List DeviceRun) (run : DeviceRun) (before : Option (List DeviceRun))
    → Contains news run → Some after ≡ option_map (λ (b : List DeviceRun). b ++ news) before
    → Contains after run
among-runs news after run None there is = absurd cc
among-runs news after run (Some before) there is =
    let same : after ≡ before ++ news = cc in
    subst (λ (rs : List DeviceRun). Contains rs run) (sym same)
    (Contains-append_right before news run there)

pub files-stand : {call : Call} (asked : RunArguments) (inputs : RunInputs) (end : Finish)
    (files files' : Files) (test : Test) → HasJudgedTests call files asked inputs end
    → call.new.host.files ≡ Some files'
    → names_are_apart inputs.groups.groups ≡ true → Contains (tests_in inputs) test
    → HasTestFiles call (bench_of asked.program asked.work inputs) test files'
files-stand {call} asked inputs end files files' test judged new apart there =
    let both : Some files' ≡ Some (with_trials judged.trials files) =
    sym new ∙ judged.tried.files_are in
    let same : files' ≡ with_trials judged.trials files = cc in
    let s = all-stand (bench_of asked.program asked.work inputs) (tests_in inputs) judged.trials
    files test judged.tried.each (apart-tests inputs.groups.isa inputs.groups.groups apart) there in
    let own = files_of asked.work test.name in
    record {
      text = ap (λ (f : Files). f own.test) same ∙ s.test;
      executable = λ wanted. ap (λ (f : Files). f own.executable) same ∙ s.executable wanted;
      reference = ap (λ (f : Files). f own.reference) same ∙ s.reference;
      run = s.run;
      is_run = s.is_run;
      made = λ runs is. among-runs (runs_of judged.trials) runs s.run call.old.host.runs s.among
          (sym is ∙ judged.tried.made);
      device = ap (λ (f : Files). f own.device) same ∙ s.device;
    }

-- one run for each test that was made
are-runs : (bench : Bench) (files : Files) (tests : List Test) (trials : List Trial)
    → AreTrialsOf bench files (held tests) trials → AreRunsOf bench tests (runs_of trials)
are-runs bench files [] [] each = tt
are-runs bench files [] (t ∷ ts) each = each
are-runs bench files (test ∷ tests) [] each = each
are-runs bench files (test ∷ tests) (t ∷ ts) each =
    (held-run bench files test t each.0, are-runs bench (with_trial t files) tests ts each.1)

pub runs-stand : {call : Call} (asked : RunArguments) (inputs : RunInputs) (end : Finish)
    (files : Files) (before after : List DeviceRun) → HasJudgedTests call files asked inputs end
    → call.old.host.runs ≡ Some before → call.new.host.runs ≡ Some after
    → HaveRun (bench_of asked.program asked.work inputs) (tests_in inputs) before after
runs-stand {call} asked inputs end files before after judged old new =
    let both : Some after ≡ Some (before ++ runs_of judged.trials) = sym new ∙ judged.tried.made
    ∙ ap (λ known. option_map (λ (b : List DeviceRun). b ++ runs_of judged.trials) known) old in
    record {
      runs = runs_of judged.trials;
      each = are-runs (bench_of asked.program asked.work inputs) files (tests_in inputs)
          judged.trials judged.tried.each;
      behind = cc;
    }
