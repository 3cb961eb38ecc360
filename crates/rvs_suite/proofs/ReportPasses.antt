-- Which tests of a page pass, and when all do.
use Rattle.std.proofs.Common.{◌≡◌, ◌↔◌, ℕ, Bool, true, false, if◌then◌else◌, ℤ, pos}
use Rattle.std.proofs.Common.{List, [], ◌∷◌, ◌++◌, length, take, drop, All, Option, Some, None}
use Rattle.std.proofs.Common.{nat_lt, Result, Ok, refl, sym, ap, subst, ◌∙◌, arith, rules}
use Rattle.std.specs.Prelude.{bytes_eq}
use Rattle.std.proofs.lemmas.List.Elements.{All-nil, All-cons, All-head, All-tail, All-append}
use Rattle.rvs_base.specs.Host.{Files}
use Rattle.rvs_insn.specs.Isa.{Isa}
use Rattle.rvs_cgf.specs.Groups.{Label}
use Rattle.rvs_count.specs.Report.{width}
use Rattle.rvs_test.specs.Made.{cases_of, text_of_label}
use Rattle.rvs_test_text.specs.TestText.{step_limit}
use Rattle.rvs_sig.specs.Words.{text_of_words}
use Rattle.rvs_sig.specs.declared.words.SigRefusal.{SigRefusal}
use Rattle.rvs_sig.specs.declared.comparison.Verdict.{Verdict}
use Rattle.rvs_sig.specs.declared.comparison.Verdict.TheVariants as sig
use Rattle.rvs_device.specs.DeviceFile.{Told}
use Rattle.rvs_device.specs.Judged.{verdict_on}
use Rattle.rvs_device.specs.Judged as judged
use Rattle.rvs_device.specs.Judging.{Task, Spells}
use Rattle.rvs_device.specs.declared.verdicts.TestVerdict.{TestVerdict}
use Rattle.rvs_device.specs.declared.verdicts.TestVerdict.TheVariants as told
use Rattle.rvs_device.proofs.Passing as passing
use Rattle.rvs_page.specs.Shown as shown
use Rattle.rvs_page.specs.Laws.{is_settled}
use Rattle.rvs_page.specs.declared.shown.State.TheVariants as state
use Rattle.rvs_page.specs.declared.shown.Verdict.TheVariants as verdict
use Rattle.rvs_page.specs.declared.shown.Page.{Page}
use Rattle.rvs_page.specs.declared.shown.Label.{Label as ShownLabel}
use Rattle.rvs_page.proofs.Verdicts.{pass_says_that_all_pass}
use Rattle.rvs_inputs.specs.GroupFiles.{Inputs, and_then, inputs_in}
use Rattle.rvs_generate.specs.TestedInputs.{unless_for}
use Rattle.rvs_inputs.specs.DeviceInput.{device_in}
use Rattle.rvs_coverage.specs.LogReport.{logs_in}
use Rattle.rvs_coverage.specs.Coverage.{uncounted, counts_more, file_name}
use Rattle.rvs_generate.specs.Tests.{reference_words, test_with, tests_of_label, tests_of}
use Rattle.rvs_generate.specs.TestFiles.{files_of}
use Rattle.rvs_report.specs.Findings.{likeness, found_open, compared, spelt, found_on}
use Rattle.rvs_report.specs.Findings.{by_likeness, finding_in}
use Rattle.rvs_showing.specs.Showing.{shown_unselected}
use Rattle.rvs_report.specs.Report.{test_of, page_with, shown_by, shown_in, all_shown_in, page_in}
use Rattle.rvs_suite.specs.Reporting.{HoldPass, AreAlike}
use Rattle.rvs_coverage.specs.declared.covering.Covered.{Covered}
use Rattle.rvs_report.specs.declared.reviewing.Likeness.TheVariants.{Other, Same}
use Rattle.rvs_showing.specs.declared.found.Found.{Found}
use Rattle.rvs_generate.specs.declared.gathering.Test.{Test}
use Rattle.rvs_words.specs.declared.command.ReportArguments.{ReportArguments}

-- ---- the signature: it passes as it does where `run` judges it
abbrev IsSettled : Found → Type 0
IsSettled f = is_settled f.state ≡ true

abbrev status : ℤ
status = pos 0

abbrev Passes : TestVerdict → Type 0
Passes v = (n : ℕ) × (v ≡ told.Pass n status)

by-verdict : (device reference : List ℕ) (v : Verdict) → IsSettled (compared device reference v)
    → Passes (judged.compared status v)
by-verdict device reference (sig.Same n) is = (n, refl)
by-verdict device reference (sig.Lengths left right) is = absurd cc
by-verdict device reference (sig.Differs at left right differing) is = absurd cc

by-words : (reference : List ℕ) (read : Result (List ℕ) SigRefusal)
    → IsSettled (spelt reference read) → Passes (judged.spelt status reference read)
by-words reference read is = search (rules, by-verdict)

by-tests : (reference : List ℕ) (read : Result (List ℕ) SigRefusal) (long bare : Bool)
    → IsSettled (if long then found_open state.TooLong
    else (if bare then found_open state.NoSignature else spelt reference read))
    → Passes (if long then told.TooLong status
    else (if bare then told.NoSignature status else judged.spelt status reference read))
by-tests reference read long bare is = search (rules, by-words)

by-left : (reference : List ℕ) (left : Option (List ℕ)) → IsSettled (found_on reference left)
    → Passes (verdict_on status reference left)
by-left reference left is = search (rules, by-tests, nat_lt)

-- a task of these words
abbrev of-words : List ℕ → Task
of-words reference = record { words = []; test = []; signature = []; reference = reference }

spells : (reference : List ℕ) (left : Option (List ℕ)) → IsSettled (found_on reference left)
    → Spells (of-words reference) left
spells reference left is =
    let pass = by-left reference left is in
    passing.pass-spells (of-words reference) status status pass.0 left pass.1

same-left : (reference : List ℕ) (n : ℕ) (left : Option (List ℕ))
    → verdict_on status reference left ≡ told.Pass n status
    → (found_on reference left).state ≡ state.Pass n
same-left reference n left e = grind arith

-- ---- a file that should hold this
record IsSame (expected : List ℕ) (found : Option (List ℕ)) (next : Found) : Type 0 where
  there : found ≡ Some expected
  settled : IsSettled next

same-bytes : (expected bytes : List ℕ) (next : Found) (b : Bool) → bytes_eq bytes expected ≡ b
    → IsSettled (by_likeness (if b then Same else Other) next)
    → IsSame expected (Some bytes) next
same-bytes expected bytes next b e is = search rules

is-same : (expected : List ℕ) (found : Option (List ℕ)) (next : Found)
    → IsSettled (by_likeness (likeness expected found) next) → IsSame expected found next
is-same expected found next is = search rules

next-one : (expected : List ℕ) (found : Option (List ℕ)) (next : Found) → found ≡ Some expected
    → by_likeness (likeness expected found) next ≡ next
next-one expected found next e = search rules

-- ---- a test
holds : (files : Files) (isa : Isa) (work : List ℕ) (test : Test)
    → IsSettled (finding_in files isa work test) → HoldPass files isa work test
holds files isa work test is =
    let words = reference_words isa test in
    let names = files_of work test.name in
    let left = found_on words (files names.device) in
    let text = is-same test.text (files names.test)
    (by_likeness (likeness (text_of_words words) (files names.reference)) left) is in
    let reference = is-same (text_of_words words) (files names.reference) left text.settled in
    let spelled = spells words (files names.device) reference.settled in
    record {
      text = text.there;
      reference = reference.there;
      signature = spelled.bytes;
      left = spelled.there;
      within = spelled.within;
      spelled = spelled.words;
    }

pass : (files : Files) (isa : Isa) (work : List ℕ) (test : Test) → HoldPass files isa work test
    → (finding_in files isa work test).state ≡ state.Pass (length (reference_words isa test))
pass files isa work test h =
    let words = reference_words isa test in
    let names = files_of work test.name in
    let left = found_on words (files names.device) in
    let spelled : Spells (of-words words) (files names.device) = record {
      bytes = h.signature;
      there = h.left;
      within = h.within;
      words = h.spelled;
    } in
    ap (λ (f : Found). f.state)
    (next-one test.text (files names.test)
    (by_likeness (likeness (text_of_words words) (files names.reference)) left) h.text
    ∙ next-one (text_of_words words) (files names.reference) left h.reference)
    ∙ same-left words (length words) (files names.device)
    ((passing.passes (of-words words) status (files names.device)).1 spelled)

pub shown-passes : (files : Files) (isa : Isa) (work : List ℕ) (test : Test)
    → ((finding_in files isa work test).state ≡ state.Pass (length (reference_words isa test)))
    ↔ HoldPass files isa work test
shown-passes files isa work test = grind (arith, holds, pass)

pub found-apart : (files others : Files) (isa : Isa) (work : List ℕ) (test : Test)
    → AreAlike files others work test
    → finding_in files isa work test ≡ finding_in others isa work test
found-apart files others isa work test alike = grind arith

-- ---- all tests
all-front : {A : Type 0} (P : A → Type 0) (xs ys : List A) → All P (xs ++ ys) → All P xs
all-front P [] ys h = All-nil P
all-front P (x ∷ xs) ys h =
    All-cons P x xs (All-head P x (xs ++ ys) h) (all-front P xs ys (All-tail P x (xs ++ ys) h))

all-back : {A : Type 0} (P : A → Type 0) (xs ys : List A) → All P (xs ++ ys) → All P ys
all-back P [] ys h = h
all-back P (x ∷ xs) ys h = all-back P xs ys (All-tail P x (xs ++ ys) h)

abbrev Settled : ShownLabel → Type 0
Settled l = is_settled l.state ≡ true

module _ (files : Files) (isa : Isa) (work : List ℕ) where
  abbrev Holds : Test → Type 0
  Holds test = HoldPass files isa work test

  of-text : (counts : List ℕ) (l : Label) (text : Option (List ℕ))
      → Settled (shown_by files isa work counts l text)
      → All Holds (test_with l.name (step_limit (cases_of isa l)) text)
  of-text counts l None is = All-nil Holds
  of-text counts l (Some text) is =
      All-cons Holds (test_of isa l text) [] (holds files isa work (test_of isa l text) is)
      (All-nil Holds)

  of-label : (counts : List ℕ) (l : Label) (selected : Bool)
      → Settled (if selected then shown_by files isa work counts l (text_of_label isa l)
      else shown_unselected l)
      → All Holds (if selected
      then test_with l.name (step_limit (cases_of isa l)) (text_of_label isa l) else [])
  of-label counts l true is = of-text counts l (text_of_label isa l) is
  of-label counts l false is = All-nil Holds

  to-text : (counts : List ℕ) (l : Label) (text : Option (List ℕ))
      → All Holds (test_with l.name (step_limit (cases_of isa l)) text)
      → Settled (shown_by files isa work counts l text)
  to-text counts l None all = refl
  to-text counts l (Some text) all =
      ap is_settled (pass files isa work (test_of isa l text)
      (All-head Holds (test_of isa l text) [] all))

  to-label : (counts : List ℕ) (l : Label) (selected : Bool)
      → All Holds (if selected
      then test_with l.name (step_limit (cases_of isa l)) (text_of_label isa l) else [])
      → Settled (if selected then shown_by files isa work counts l (text_of_label isa l)
      else shown_unselected l)
  to-label counts l true all = to-text counts l (text_of_label isa l) all
  to-label counts l false all = refl

  of-labels : (counts : List ℕ) (ls : List Label)
      → All Settled (all_shown_in files isa work counts ls) → All Holds (tests_of isa ls)
  of-labels counts [] all = All-nil Holds
  of-labels counts (l ∷ ls) all =
      let own = shown_in files isa work (take (width l) counts) l in
      let others = all_shown_in files isa work (drop (width l) counts) ls in
      All-append Holds (tests_of_label isa l) (tests_of isa ls)
      (of-label (take (width l) counts) l l.selected (All-head Settled own others all))
      (of-labels (drop (width l) counts) ls (All-tail Settled own others all))

  to-labels : (counts : List ℕ) (ls : List Label) → All Holds (tests_of isa ls)
      → All Settled (all_shown_in files isa work counts ls)
  to-labels counts [] all = All-nil Settled
  to-labels counts (l ∷ ls) all =
      All-cons Settled (shown_in files isa work (take (width l) counts) l)
      (all_shown_in files isa work (drop (width l) counts) ls)
      (to-label (take (width l) counts) l l.selected
      (all-front Holds (tests_of_label isa l) (tests_of isa ls) all))
      (to-labels (drop (width l) counts) ls
      (all-back Holds (tests_of_label isa l) (tests_of isa ls) all))

-- the labels of a page that was found
record HasLabels (files : Files) (asked : ReportArguments) (inputs : Inputs) (page : Page) : Type
    0 where
  counts : List ℕ
  are : page.labels ≡ all_shown_in files inputs.isa asked.work counts inputs.groups

-- no label lacks room where there is a page
with-rooms : (files : Files) (asked : ReportArguments) (inputs : Inputs) (page : Page)
    (o : Option Label) → and_then (unless_for inputs o) (λ (i : Inputs).
    and_then (device_in files asked.device) (λ (device : Told).
    and_then (logs_in files file_name (counts_more asked.windows i.groups)
    (uncounted i.groups) asked.logs) (λ (known : Covered).
    Ok (page_with asked i device known
    (all_shown_in files i.isa asked.work known.counts i.groups))))) ≡ Ok page
    → HasLabels files asked inputs page
with-rooms files asked inputs page o e = grind arith

has-labels : (files : Files) (asked : ReportArguments) (inputs : Inputs) (page : Page)
    → inputs_in files asked.isa asked.families asked.groups ≡ Ok inputs
    → page_in files asked ≡ Ok page → HasLabels files asked inputs page
has-labels files asked inputs page given e = grind (arith, with-rooms)

pub all-pass : (files : Files) (asked : ReportArguments) (inputs : Inputs) (page : Page)
    → inputs_in files asked.isa asked.families asked.groups ≡ Ok inputs
    → page_in files asked ≡ Ok page
    → (shown.verdict_of page.labels ≡ verdict.Pass)
    ↔ All (HoldPass files inputs.isa asked.work) (tests_of inputs.isa inputs.groups)
all-pass files asked inputs page given e =
    let has = has-labels files asked inputs page given e in
    let law = pass_says_that_all_pass page.labels in (
      λ is. of-labels files inputs.isa asked.work has.counts inputs.groups
          (subst (λ (ls : List ShownLabel). All Settled ls) has.are (law.0 is)),
      λ all. law.1 (subst (λ (ls : List ShownLabel). All Settled ls) (sym has.are)
          (to-labels files inputs.isa asked.work has.counts inputs.groups all)),
    )
