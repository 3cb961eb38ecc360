-- What every call of `report` promises.
use Rattle.std.specs.Prelude.{◌≡◌, ◌≤◌, ◌↔◌, ℕ, List, length, Some, Ok, All}
use Rattle.rvs_base.specs.Host.{Files, Tells}
use Rattle.rvs_base.specs.Sink.{appended}
use Rattle.rvs_insn.specs.Isa.{Isa}
use Rattle.rvs_plan.specs.declared.status.Finish.{Finish}
use Rattle.rvs_sig.specs.Words.{words_of, text_of_words}
use Rattle.rvs_device.specs.Judged.{signature_limit}
use Rattle.rvs_page.specs.Page.{page_of}
use Rattle.rvs_page.specs.Shown.{verdict_of}
use Rattle.rvs_page.specs.declared.shown.State.TheVariants.{Pass}
use Rattle.rvs_page.specs.declared.shown.Verdict.TheVariants as verdict
use Rattle.rvs_page.specs.declared.shown.Page.{Page}
use Rattle.rvs_promises.specs.Answered.{Answered}
use Rattle.rvs_promises.specs.Call.{Call, Asks}
use Rattle.rvs_inputs.specs.GroupFiles.{Inputs, inputs_in}
use Rattle.rvs_generate.specs.Tests.{reference_words, tests_of}
use Rattle.rvs_generate.specs.TestFiles.{files_of}
use Rattle.rvs_report.specs.Findings.{finding_in}
use Rattle.rvs_report.specs.Report.{page_in, end_by}
use Rattle.rvs_promises.specs.Rooms.{AsksForRoom}
use Rattle.rvs_generate.specs.declared.gathering.Test.{Test}
use Rattle.rvs_words.specs.declared.command.Command.TheVariants.{Report}
use Rattle.rvs_words.specs.declared.command.ReportArguments.{ReportArguments}

-- the output has this page, and the status says its verdict
pub record HasShown (call : Call) (page : Page) (finish : Finish) : Type 0 where
  pub out : call.new.out.bytes ≡ appended call.old.out.bytes (page_of page)
  pub end : finish ≡ end_by (verdict_of page.labels)

-- the files hold this test, the reference's words, and a signature that spells them
pub record HoldPass (files : Files) (isa : Isa) (work : List ℕ) (test : Test) : Type 0 where
  pub text : files (files_of work test.name).test ≡ Some test.text
  pub reference : files (files_of work test.name).reference
      ≡ Some (text_of_words (reference_words isa test))
  pub signature : List ℕ
  pub left : files (files_of work test.name).device ≡ Some signature
  pub within : length signature ≤ signature_limit
  pub spelled : words_of signature ≡ Ok (reference_words isa test)

-- the three files of a test hold the same here and there
pub record AreAlike (files others : Files) (work : List ℕ) (test : Test) : Type 0 where
  pub text : files (files_of work test.name).test ≡ others (files_of work test.name).test
  pub reference : files (files_of work test.name).reference
      ≡ others (files_of work test.name).reference
  pub device : files (files_of work test.name).device ≡ others (files_of work test.name).device

-- a call of `report` on these of these files
pub record Reports (call : Call) (files : Files) (asked : ReportArguments) : Type 0 where
  -- it is done where the page's verdict is PASS, and not passed where it is another, and has put
  -- the page; it is refused, or the host fails, at the first input that isn't accepted
  pub answered : Answered call (page_in files asked) (HasShown call)
  -- a test is shown as passed exactly where the files hold this test, the reference's words, and a
  -- signature that spells them
  pub passes : (isa : Isa) (work : List ℕ) (test : Test)
      → ((finding_in files isa work test).state ≡ Pass (length (reference_words isa test)))
      ↔ HoldPass files isa work test
  -- the page's verdict is PASS exactly where the files hold this of each test of the groups
  pub all_pass : (inputs : Inputs) (page : Page)
      → inputs_in files asked.isa asked.families asked.groups ≡ Ok inputs
      → page_in files asked ≡ Ok page
      → (verdict_of page.labels ≡ verdict.Pass)
      ↔ All (HoldPass files inputs.isa asked.work) (tests_of inputs.isa inputs.groups)
  -- where the core has no room for the test of a selected label, the first such label is named
  pub rooms : (inputs : Inputs) → inputs_in files asked.isa asked.families asked.groups ≡ Ok inputs
      → AsksForRoom call files inputs
  -- what is found of a test hangs on its own three files alone
  pub apart : (others : Files) (isa : Isa) (work : List ℕ) (test : Test)
      → AreAlike files others work test
      → finding_in files isa work test ≡ finding_in others isa work test
  -- it writes no file, however it ends
  pub files_kept : call.new.host.files ≡ call.old.host.files

-- the same of every call: over told files, where its words ask for `report`
abbrev pub Promise : Call → Type 0
Promise call =
    (files : Files) (asked : ReportArguments)
    → Tells call.old.host files → Asks call (Report asked)
    → Reports call files asked
