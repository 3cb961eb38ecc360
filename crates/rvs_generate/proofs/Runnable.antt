-- A test that is made can be run: an image stands to it, and its run halts within its steps.
use Rattle.std.proofs.Common.{◌≡◌, ◌||◌, if◌then◌else◌, unwrap_or, ℕ, Bool, true, List, [], ◌∷◌}
use Rattle.std.proofs.Common.{map, All, Option, Some, None, Result, Ok, Err, refl, sym, ap, subst}
use Rattle.std.proofs.Common.{◌∙◌, arith, rules}
use Rattle.std.proofs.lemmas.List.Elements.{All-nil, All-cons, All-append, All-head, All-tail}
use Rattle.std.proofs.lemmas.List.Elements.{All-map}
use Rattle.rvs_plan.specs.declared.stop.Stop.{Stop}
use Rattle.rvs_plan.specs.declared.stop.Stop.TheVariants.{Usage, Refused, NoFile, CannotRead}
use Rattle.rvs_plan.specs.declared.stop.Stop.TheVariants.{CannotWrite, CannotRun, NoMemory}
use Rattle.rvs_plan.specs.declared.stop.Stop.TheVariants.{SinkFault}
use Rattle.rvs_insn.specs.Isa.{Isa}
use Rattle.rvs_asm.specs.Answer.{answer}
use Rattle.rvs_asm.proofs.Stands.{image_answered}
use Rattle.rvs_cgf.specs.Groups.{Label}
use Rattle.rvs_cgf.specs.GroupView.{label_view}
use Rattle.rvs_points.specs.declared.group.Label.{Label as Code}
use Rattle.rvs_choice.specs.declared.solved.Solved.{Solved}
use Rattle.rvs_test_text.specs.declared.claim.Claim.{Claim}
use Rattle.rvs_test_text.specs.TestText.{step_limit, test_text}
use Rattle.rvs_test_text.proofs.Fits.{regions_fit}
use Rattle.rvs_test.specs.Made.{claims_of, cases_of, named_at, text_for, text_of_label}
use Rattle.rvs_test.specs.Claimed.{TestRuns}
use Rattle.rvs_test.proofs.Joined.{label_runs}
use Rattle.rvs_inputs.specs.GroupsView.{groups_view}
use Rattle.rvs_machine.specs.Image.{ImageValue}
use Rattle.rvs_machine.specs.ImageText.{image_of_bytes}
use Rattle.rvs_elf.specs.Executable.{image_of_elf}
use Rattle.rvs_elf.specs.Written.{elf_of}
use Rattle.rvs_asm_text.specs.Header.{header_steps}
use Rattle.rvs_machine.specs.Machine.{started}
use Rattle.rvs_machine.specs.declared.event.End.{End}
use Rattle.rvs_machine.specs.declared.event.End.TheVariants.{Halted}
use Rattle.rvs_reference.specs.TestRun.{Accepts, NamesText, file_found, executable_found}
use Rattle.rvs_reference.specs.TestRun.{text_found}
use Rattle.rvs_reference.specs.TestRun.{image_found, usual_limit, limit_of, left_by, run_end}
use Rattle.rvs_reference.specs.TestRun.{run_found}
use Rattle.rvs_reference.specs.TestRun.{then_found, test_found}
use Rattle.rvs_generate.specs.Tests.{IsRunnable, test_with, run_on, words_of_image, reference_words}
use Rattle.rvs_generate.specs.Tests.{held, IsReady, elf_of_image, executable_of}
use Rattle.rvs_generate.specs.Tests.{tests_of_label, tests_of}
use Rattle.rvs_generate.specs.Testable.{IsTestable, IsTestableIfSelected}
use Rattle.rvs_generate.specs.declared.sources.Source.TheVariants.{Held}
use Rattle.rvs_reference.specs.declared.test_run.Run.{Run}
use Rattle.rvs_generate.specs.declared.gathering.Test.{Test}

-- ---- the text of a label's test is that of its cases, and runs as it claims
pub whole : (isa : Isa) (l : Label) (cs : List Solved) (text : List ℕ)
    → text_for isa l cs ≡ Some text
    → test_text l.name isa (map (λ (c : Claim). named_at l c.point) (claims_of isa l)) cs ≡ text
whole isa l cs text is = grind arith

pub runs-label : (isa : Isa) (l : Label) (text : List ℕ) → IsTestable isa l
    → text_of_label isa l ≡ Some text
    → TestRuns isa l text (claims_of isa l) (step_limit (cases_of isa l))
runs-label isa l text test is = subst
    (λ (t : List ℕ). TestRuns isa l t (claims_of isa l) (step_limit (cases_of isa l)))
    (whole isa l (cases_of isa l) text is)
    (label_runs isa test.place l test.valid (regions_fit isa (cases_of isa l) test.room))

pub runnable : (isa : Isa) (l : Label) (text : List ℕ) → IsTestable isa l
    → text_of_label isa l ≡ Some text → IsRunnable isa (record {
      name = l.name;
      text = text;
      steps = step_limit (cases_of isa l);
    })
runnable isa l text test is =
    let t = runs-label isa l text test is in
    record {
      image = t.image;
      assembled = image_answered text isa t.image t.assembles;
      header = t.header;
      halts = (t.runs (step_limit (cases_of isa l)) (omega arith)).halts;
    }

-- ---- the tests of labels
runnable-with : (isa : Isa) (l : Label) (text : Option (List ℕ)) → IsTestable isa l
    → text_of_label isa l ≡ text
    → All (IsRunnable isa) (test_with l.name (step_limit (cases_of isa l)) text)
runnable-with isa l None test is = All-nil (IsRunnable isa)
runnable-with isa l (Some text) test is =
    All-cons (IsRunnable isa) _ [] (runnable isa l text test is) (All-nil (IsRunnable isa))

runnable-by : (isa : Isa) (l : Label) (b : Bool) → (b ≡ true → IsTestable isa l)
    → All (IsRunnable isa)
    (if b then test_with l.name (step_limit (cases_of isa l)) (text_of_label isa l) else [])
runnable-by isa l b test = search (rules, runnable-with)

pub runnable-all : (isa : Isa) (ls : List Label) → All (IsTestableIfSelected isa) ls
    → All (IsRunnable isa) (tests_of isa ls)
runnable-all isa [] each = All-nil (IsRunnable isa)
runnable-all isa (l ∷ ls) each =
    All-append (IsRunnable isa) (tests_of_label isa l) (tests_of isa ls)
    (runnable-by isa l l.selected (All-head (IsTestableIfSelected isa) l ls each))
    (runnable-all isa ls (All-tail (IsTestableIfSelected isa) l ls each))

-- the same of labels as the code holds them, and of their tests as they are judged
pub all-ready : (isa : Isa) (ls : List Code) → All (λ l. IsTestableIfSelected isa (label_view l)) ls
    → All (IsReady isa) (held (tests_of isa (groups_view ls)))
all-ready isa ls each =
    All-map (IsReady isa) (λ (test : Test). Held test) (tests_of isa (groups_view ls))
    (runnable-all isa (groups_view ls) (All-map (IsTestableIfSelected isa) label_view ls each))

-- the run of the image that stands to it is found, and leaves the words of the reference machine
pub runs-found : (isa : Isa) (name : List ℕ) (test : Test) (image : ImageValue)
    → IsRunnable isa test → answer isa test.text ≡ Ok image
    → (run : Run) × (run_found name test.steps isa image ≡ Ok run)
    × (run.words ≡ reference_words isa test)
unfolding run_found reference_words
runs-found isa name test image r stands =
    let run = left_by (started image isa).setup (run_on isa image test.steps) in
    let both : Ok r.image ≡ Ok image = sym r.assembled ∙ stands in
    let same : r.image ≡ image = cc in (
      run,
      ap (λ (e : End). run_end name test.steps run e) (subst
          (λ (i : ImageValue). (run_on isa i test.steps).end ≡ Halted) same r.halts),
      sym (ap (words_of_image isa test.steps) stands),
    )

-- ---- where its file has the name of assembler text
pub text-image : (isa : Isa) (name text : List ℕ) (image : ImageValue) → NamesText name
    → answer isa text ≡ Ok image → image_found isa name text ≡ Ok image
text-image isa name text image n stands = λ i. if n.0 i then file_found name
    (image_of_bytes isa.memory text)
    else (if n.1 i then executable_found name (image_of_elf isa.memory text)
    else text_found name (stands i))

text-limit : (name text : List ℕ) (steps : ℕ) → NamesText name → header_steps text ≡ Some steps
    → limit_of None name text ≡ steps
text-limit name text steps n header =
    λ i. if n.0 i || n.1 i then usual_limit else unwrap_or (header i) usual_limit

-- its run is found, and leaves the words of the reference machine
pub held-ran : (isa : Isa) (name : List ℕ) (test : Test) → NamesText name
    → (r : IsRunnable isa test) → (run : Run)
    × (run_found name (limit_of None name test.text) isa r.image ≡ Ok run)
    × (run.words ≡ reference_words isa test)
held-ran isa name test n r =
    let found = runs-found isa name test r.image r r.assembled in (
      found.0,
      ap (λ (limit : ℕ). run_found name limit isa r.image)
          (text-limit name test.text test.steps n r.header) ∙ found.1,
      found.2,
    )

pub held-found : (isa : Isa) (name : List ℕ) (test : Test) → NamesText name → IsRunnable isa test
    → (run : Run) × (test_found None isa name test.text ≡ Ok run)
    × (run.words ≡ reference_words isa test)
held-found isa name test n r =
    let ran = held-ran isa name test n r in (
      ran.0,
      ap (λ (f : Result ImageValue (List ℕ)). then_found f
          (run_found name (limit_of None name test.text) isa))
          (text-image isa name test.text r.image n r.assembled) ∙ ran.1,
      ran.2,
    )

-- ---- what is accepted
-- where the first of two steps stops, both do
pub first-stops : {A B : Type 0} (found : Result A (List ℕ)) (next : A → Result B (List ℕ))
    (stop : Stop) → Accepts found (Err stop) → Accepts (then_found found next) (Err stop)
first-stops found next (Refused text) is = ap (λ f. then_found f next) is
first-stops found next NoMemory is = tt
first-stops found next Usage is = absurd is
first-stops found next (NoFile name) is = absurd is
first-stops found next (CannotRead name) is = absurd is
first-stops found next (CannotWrite name) is = absurd is
first-stops found next (CannotRun name) is = absurd is
first-stops found next SinkFault is = absurd is

-- where something is found, nothing is refused
pub never-refused : {A B : Type 0} (found : Result A (List ℕ)) (a : A) (b : B) (stop : Stop)
    → found ≡ Ok a → Accepts found (Err stop) → Accepts (Ok b) (Err stop)
never-refused found a b Usage is h = h
never-refused {A} found a b (Refused text) is h =
    let no : Ok a ≡ Err text = sym is ∙ h in absurd cc
never-refused found a b (NoFile name) is h = h
never-refused found a b (CannotRead name) is h = h
never-refused found a b (CannotWrite name) is h = h
never-refused found a b (CannotRun name) is h = h
never-refused found a b NoMemory is h = tt
never-refused found a b SinkFault is h = h

-- then only memory was wanting
pub only-memory : {B : Type 0} (b : B) (stop : Stop) → Accepts (Ok b) (Err stop) → stop ≡ NoMemory
only-memory b Usage h = absurd h
only-memory b (Refused text) h = absurd cc
only-memory b (NoFile name) h = absurd h
only-memory b (CannotRead name) h = absurd h
only-memory b (CannotWrite name) h = absurd h
only-memory b (CannotRun name) h = absurd h
only-memory b NoMemory h = refl
only-memory b SinkFault h = absurd h

-- ---- its executable
pub elf-of-test : (isa : Isa) (test : Test) (image : ImageValue)
    → answer isa test.text ≡ Ok image → executable_of isa test ≡ elf_of image
unfolding executable_of
elf-of-test isa test image stands = ap elf_of_image stands
