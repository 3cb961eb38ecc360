-- What every call of `generate` promises.
use Rattle.std.proofs.Common.{◌≡◌, ℕ, Bool, true, if◌then◌else◌, List, [], ◌∷◌, Option, Some}
use Rattle.std.proofs.Common.{is_some, Result, Ok, Err, Contains, IsTrue, inr, refl, sym, ap}
use Rattle.std.proofs.Common.{subst, ◌∙◌, arith}
use Rattle.std.proofs.lemmas.List.Elements.{All-head}
use Rattle.rvs_base.specs.Host.{Files, written}
use Rattle.rvs_base.specs.Sink.{appended}
use Rattle.rvs_plan.specs.World.{Contents, IsFault}
use Rattle.rvs_plan.specs.Plan.{Plan, gives}
use Rattle.rvs_plan.specs.declared.stop.Stop.{Stop}
use Rattle.rvs_plan.specs.declared.stop.Stop.TheVariants as why
use Rattle.rvs_plan.specs.declared.status.Status.TheVariants as answer
use Rattle.rvs_plan.specs.declared.status.Finish.TheVariants.{Done}
use Rattle.rvs_insn.specs.Isa.{Isa}
use Rattle.rvs_insn.specs.Memory.{Memory}
use Rattle.rvs_cgf.specs.Groups.{Label, Point}
use Rattle.rvs_solver.specs.Solving.{IsSolvableAt}
use Rattle.rvs_test_text.specs.declared.claim.Claim.{Claim}
use Rattle.rvs_test_text.specs.TestText.{step_limit}
use Rattle.rvs_test.specs.Made.{cases_of, text_of_label}
use Rattle.rvs_test.specs.Claimed.{TestRuns}
use Rattle.rvs_plan.specs.declared.status.Finish.TheVariants as finish
use Rattle.rvs_promises.specs.Answered.{HasLeft, Answered, OnDone}
use Rattle.rvs_promises.specs.Call.{Call}
use Rattle.rvs_generate.specs.Testable.{IsTestableIfSelected}
use Rattle.rvs_inputs.specs.Printing.{print_text}
use Rattle.rvs_inputs.specs.GroupFiles.{Inputs, inputs_in, parted_inputs}
use Rattle.rvs_generate.specs.TestedInputs.{tested_in, labels_in, part_inputs}
use Rattle.rvs_promises.specs.Headline.{HasProvedTest}
use Rattle.rvs_promises.specs.Rooms.{AsksForRoom}
use Rattle.rvs_generate.specs.GenerateTexts.{listing}
use Rattle.rvs_generate.specs.Generate.{path_of, writes_text, writes_test, writes_tests, generate}
use Rattle.rvs_generate.specs.Generate.{written_tests, generates}
use Rattle.rvs_promises.specs.Generating as generating
use Rattle.rvs_promises.proofs.Written.{apart-labels, test-there}
use Rattle.rvs_promises.proofs.Answered.{Works, RunsOn, answered}
use Rattle.rvs_promises.proofs.RoomEnds.{asks, asked-room, asked-then}
use Rattle.rvs_promises.proofs.Untouched.{untouched, stops-generate}
use Rattle.rvs_inputs.proofs.Finding.{Deeds, left, deeds-then, left-then}
use Rattle.rvs_promises.proofs.TestedInputs.{finds-labels}
use Rattle.rvs_promises.proofs.NoTest.{no-point, listing-none}
use Rattle.rvs_promises.proofs.OneTest.{one-point, file-there}
use Rattle.rvs_promises.proofs.Sparing.{generate-spares}
use Rattle.rvs_promises.proofs.Signed.{has-test, proved}
use Rattle.rvs_promises.proofs.Tested.{good-inputs, placed-inputs, testable-labels, tested-labels}
use Rattle.rvs_generate.proofs.Runnable.{runs-label}
use Rattle.rvs_words.specs.declared.command.GenerateArguments.{GenerateArguments}

-- ---- the tests are deeds, and what they leave
abbrev chosen : Bool → List ℕ → Option (List ℕ) → Plan (Unit {0})
chosen b path text = if b then writes_text path text else gives tt

deeds-chosen : (b : Bool) (path : List ℕ) (text : Option (List ℕ)) → Deeds tt (chosen b path text)
deeds-chosen b path text = grind arith

deeds-test : (work : List ℕ) (isa : Isa) (l : Label) → Deeds tt (writes_test work isa l)
deeds-test work isa l = deeds-chosen l.selected (path_of work l.name) (text_of_label isa l)

deeds-tests : (work : List ℕ) (isa : Isa) (ls : List Label) → Deeds tt (writes_tests work isa ls)
deeds-tests work isa [] = refl
deeds-tests work isa (l ∷ ls) = grind (arith, deeds-then, deeds-test, (deeds-tests work isa ls))

deeds-written : (work : List ℕ) (isa : Isa) (ls : List Label)
    → Deeds (listing isa ls) (written_tests work isa ls)
deeds-written work isa ls = deeds-then tt (listing isa ls) (writes_tests work isa ls)
    (λ _. gives (listing isa ls)) (deeds-tests work isa ls) refl

deeds-generates : (work : List ℕ) (inputs : Inputs) → Deeds Done (generates work inputs)
deeds-generates work inputs = deeds-then (listing inputs.isa inputs.groups) Done
    (written_tests work inputs.isa inputs.groups) print_text
    (deeds-written work inputs.isa inputs.groups) refl

abbrev with_files : Contents → Option Files → Contents
with_files c files = record { files = files; runs = c.runs; out = c.out }

left-chosen : (b : Bool) (path : List ℕ) (text : Option (List ℕ)) (c : Contents)
    → left (chosen b path text) c
    ≡ with_files c (if b then generating.with_text path text c.files else c.files)
left-chosen b path text c = grind arith

left-test : (work : List ℕ) (isa : Isa) (l : Label) (c : Contents)
    → left (writes_test work isa l) c ≡ with_files c (generating.with_test work isa l c.files)
left-test work isa l c = left-chosen l.selected (path_of work l.name) (text_of_label isa l) c

left-tests : (work : List ℕ) (isa : Isa) (ls : List Label) (c : Contents)
    → left (writes_tests work isa ls) c ≡ with_files c (generating.with_tests work isa ls c.files)
left-tests work isa [] c = refl
left-tests work isa (l ∷ ls) c =
    left-then tt (writes_test work isa l) (λ _. writes_tests work isa ls) c (deeds-test work isa l)
    ∙ ap (left (writes_tests work isa ls)) (left-test work isa l c)
    ∙ left-tests work isa ls (with_files c (generating.with_test work isa l c.files))

abbrev after : List ℕ → Inputs → Contents → Contents
after work inputs c = record {
  files = generating.with_tests work inputs.isa inputs.groups c.files;
  runs = c.runs;
  out = appended c.out (listing inputs.isa inputs.groups);
}

left-generates : (work : List ℕ) (inputs : Inputs) (c : Contents)
    → left (generates work inputs) c ≡ after work inputs c
left-generates work inputs c =
    let isa = inputs.isa in
    let ls = inputs.groups in
    left-then (listing isa ls) (written_tests work isa ls) print_text c
    (deeds-written work isa ls)
    ∙ ap (left (print_text (listing isa ls))) (left-then tt (writes_tests work isa ls)
    (λ _. gives (listing isa ls)) c (deeds-tests work isa ls) ∙ left-tests work isa ls c)

-- ---- one point
abbrev files-one : List ℕ → Bool → List ℕ → Option (List ℕ) → Option Files → Option Files
files-one work b name text files = if b then generating.with_text (path_of work name) text files
    else files

one-test : {call : Call} (work : List ℕ) (isa : Isa) (l : Label) (p : Point)
    → IsTestableIfSelected isa l → IsTrue l.selected → l.points ≡ p ∷ []
    → IsSolvableAt isa l 0
    → call.new.host.files ≡ generating.with_tests work isa (l ∷ []) call.old.host.files
    → generating.HasOneTest call work isa l
one-test {call} work isa l p test selected one solvable files =
    let found = one-point isa l p one solvable in
    let chosen : l.selected ≡ true = selected in
    let left : call.new.host.files ≡ written (path_of work l.name) found.text call.old.host.files =
    files ∙ ap (λ (b : Bool). files-one work b l.name (text_of_label isa l) call.old.host.files)
    chosen
    ∙ ap (λ (t : Option (List ℕ)). generating.with_text (path_of work l.name) t call.old.host.files)
    found.is in
    record {
      text = found.text;
      there = λ files' told. file-there (path_of work l.name) found.text call.old.host.files files'
          (sym left ∙ told);
      runs = subst (λ (cs : List Claim). TestRuns isa l found.text cs (step_limit (cases_of isa l)))
          found.claims (runs-label isa l found.text (test selected) found.is);
    }

-- ---- no point
none-test : {call : Call} (work : List ℕ) (isa : Isa) (l : Label) (p : Point) → IsTrue l.selected
    → l.points ≡ p ∷ [] → l.skipped ≡ [] → (IsSolvableAt isa l 0 → ⊥)
    → generating.HasGenerated call work (record { isa = isa; groups = l ∷ [] })
    → generating.HasNoTest call l p
none-test {call} work isa l p selected one skipped never made =
    let chosen : l.selected ≡ true = selected in
    let left = no-point isa l p one never in
    let kept : generating.with_tests work isa (l ∷ []) call.old.host.files ≡ call.old.host.files =
    λ i. files-one work (chosen i) l.name (left.text i) call.old.host.files in
    record {
      files = made.files ∙ kept;
      out = made.out ∙ ap (appended call.old.out.bytes)
          (listing-none isa l p chosen one skipped left);
    }

-- what a call has left of inputs that are these
generated : {call : Call} (work : List ℕ) (found : Result Inputs Stop) (inputs : Inputs)
    → found ≡ Ok inputs → HasLeft found (generating.HasGenerated call work)
    → generating.HasGenerated call work inputs
generated {call} work found inputs given left =
    let both : Ok left.given ≡ Ok inputs = sym left.accepted ∙ given in
    let same : left.given ≡ inputs = cc in
    subst (λ (i : Inputs). generating.HasGenerated call work i) same left.left

-- ---- the promise
abbrev works : (files : Files) (asked : GenerateArguments)
    → Works (generate asked) files
    (labels_in files asked.part asked.isa asked.families asked.groups)
works files asked = record {
  inputs = part_inputs asked.part asked.isa asked.families asked.groups;
  deeds = generates asked.work;
  ends = λ _. finish.Done;
  plan = refl;
  finds = finds-labels files asked.part asked.isa asked.families asked.groups;
  does = deeds-generates asked.work;
}

answers-generate : {call : Call} (files : Files) (asked : GenerateArguments)
    → RunsOn call files IsFault (generate asked) → Answered call
    (labels_in files asked.part asked.isa asked.families asked.groups)
    (OnDone (generating.HasGenerated call asked.work))
answers-generate {call} files asked r =
    answered (OnDone (generating.HasGenerated call asked.work)) r (works files asked)
    (λ inputs is. let all = is ∙ left-generates asked.work inputs _ in
    record { files = ap (λ (c : Contents). c.files) all; out = ap (λ (c : Contents). c.out) all })

-- where it is done, the test of a label is in its file
there : {call : Call} (files : Files) (asked : GenerateArguments)
    → RunsOn call files IsFault (generate asked) → (inputs : Inputs) (l : Label) (text : List ℕ)
    (files' : Files) → labels_in files asked.part asked.isa asked.families asked.groups ≡ Ok inputs
    → Contains inputs.groups l
    → IsTrue l.selected → text_of_label inputs.isa l ≡ Some text → call.status ≡ answer.Done
    → call.new.host.files ≡ Some files' → files' (path_of asked.work l.name) ≡ Some text
there {call} files asked r inputs l text files' given inside selected is done told =
    let made = generated {call = call} asked.work
    (labels_in files asked.part asked.isa asked.families asked.groups) inputs given
    ((answers-generate files asked r).done done) in
    test-there asked.work inputs.isa inputs.groups call.old.host.files call.new.host.files files'
    l text
    (ap is_some r.told.files)
    (apart-labels files asked.part asked.isa asked.families asked.groups inputs given) made.files
    told inside
    selected is

-- that of a label with a solvable point has the property
proved-there : {call : Call} (files : Files) (asked : GenerateArguments)
    → RunsOn call files IsFault (generate asked)
    → (inputs : Inputs) (l : Label) (k : ℕ) (files' : Files)
    → labels_in files asked.part asked.isa asked.families asked.groups ≡ Ok inputs
    → Contains inputs.groups l → IsTrue l.selected → IsSolvableAt inputs.isa l k
    → call.status ≡ answer.Done → call.new.host.files ≡ Some files'
    → HasProvedTest files' (path_of asked.work l.name) inputs.isa l
proved-there files asked r inputs l k files' given inside selected solvable done told =
    let test = has-test inputs.isa l k solvable in
    record {
      bytes = test.0;
      there = there files asked r inputs l test.0 files' given inside selected test.1 done told;
      proved = proved inputs l test.0
          (tested-labels files asked.part asked.isa asked.families asked.groups inputs given)
          inside selected test.1;
    }

-- where there is no room for a test, it is refused
rooms : {call : Call} (files : Files) (asked : GenerateArguments)
    → RunsOn call files IsFault (generate asked) → (inputs : Inputs)
    → inputs_in files asked.isa asked.families asked.groups ≡ Ok inputs
    → AsksForRoom call files inputs
rooms {call} files asked r inputs given =
    let found = labels_in files asked.part asked.isa asked.families asked.groups in
    asks files inputs found (OnDone (generating.HasGenerated call asked.work))
    (good-inputs files asked.isa asked.families asked.groups inputs given)
    (placed-inputs files asked.isa asked.families asked.groups inputs given)
    (asked-then inputs (tested_in files asked.isa asked.families asked.groups)
    (λ i. Ok (parted_inputs asked.part i))
    (asked-room inputs (inputs_in files asked.isa asked.families asked.groups) given))
    (answers-generate files asked r)
    (λ is. untouched r.ran files r.told (stops-generate asked) (inr is))
    (λ text refused files' other. generate-spares asked r.ran files files' other r.told
    (λ i test accepted. let no : Err (why.Refused text) ≡ Ok i =
    sym refused ∙ accepted in absurd cc))

pub makes : {call : Call} (files : Files) (asked : GenerateArguments)
    → RunsOn call files IsFault (generate asked) → generating.Generates call files asked
makes {call} files asked r = record {
  answered = answers-generate files asked r;
  one = λ isa' l p given selected single solvable is.
      let inputs : Inputs = record { isa = isa'; groups = l ∷ [] } in
      let all =
      testable-labels files asked.part asked.isa asked.families asked.groups inputs given in
      let made = generated {call = call} asked.work
      (labels_in files asked.part asked.isa asked.families asked.groups) inputs given
      ((answers-generate files asked r).done is) in
      one-test asked.work isa' l p (All-head (IsTestableIfSelected isa') l [] all.each) selected
      single solvable made.files;
  none = λ isa' l p given selected single skipped never is.
      none-test asked.work isa' l p selected single skipped never
      (generated {call = call} asked.work
      (labels_in files asked.part asked.isa asked.families asked.groups)
      (record { isa = isa'; groups = l ∷ [] }) given
      ((answers-generate files asked r).done is));
  each = proved-there files asked r;
  low = λ inputs l k files' given at inside selected solvable done told.
      let memory : Memory = record { text_base = 0; data_base = 0x1_0000 } in
      let test = proved-there files asked r inputs l k files' given inside selected solvable done
      told in
      let lies : test.proved.image.memory ≡ memory = test.proved.placed ∙ at in
      record {
        test = test;
        text = ap (λ (m : Memory). m.text_base) lies;
        data_at = ap (λ (m : Memory). m.data_base) lies;
        starts = ap (λ (m : Memory). m.text_base) lies;
      };
  rooms = λ inputs given. rooms files asked r inputs given;
  there = there files asked r;
  others_kept =
      λ files' other. generate-spares asked r.ran files files' other r.told;
}
