-- What `report` does.
use Rattle.std.specs.Prelude.{ℕ, ◌++◌, ◌∷◌, if◌then◌else◌, List, [], take, drop, Option, Some, None}
use Rattle.std.specs.Prelude.{Result, Ok}
use Rattle.rvs_base.specs.Host.{Files}
use Rattle.rvs_plan.specs.Plan.{Plan, gives, prints, ◌>>=◌}
use Rattle.rvs_plan.specs.declared.stop.Stop.{Stop}
use Rattle.rvs_plan.specs.declared.status.Finish.{Finish}
use Rattle.rvs_plan.specs.declared.status.Finish.TheVariants.{Done, NotPassed}
use Rattle.rvs_insn.specs.Isa.{Isa}
use Rattle.rvs_insn.specs.IsaName.{isa_name}
use Rattle.rvs_isa.specs.Misa.{misa_word}
use Rattle.rvs_cgf.specs.Groups.{Label}
use Rattle.rvs_count.specs.Report.{width}
use Rattle.rvs_test.specs.Made.{claims_of, cases_of, text_of_label}
use Rattle.rvs_test_text.specs.declared.claim.Claim.{Claim}
use Rattle.rvs_test_text.specs.TestText.{step_limit}
use Rattle.rvs_device.specs.DeviceFile.{Told}
use Rattle.rvs_page.specs.Page.{page_of}
use Rattle.rvs_page.specs.Shown.{verdict_of}
use Rattle.rvs_page.specs.declared.shown.State.TheVariants as state
use Rattle.rvs_page.specs.declared.shown.Verdict.{Verdict}
use Rattle.rvs_page.specs.declared.shown.Verdict.TheVariants as verdict
use Rattle.rvs_page.specs.declared.shown.Core.{Core}
use Rattle.rvs_page.specs.declared.shown.Page.{Page}
use Rattle.rvs_page.specs.declared.shown.Label.{Label as ShownLabel}
use Rattle.rvs_inputs.specs.GroupFiles.{Inputs, and_then}
use Rattle.rvs_generate.specs.TestedInputs.{tested_in, tested_inputs}
use Rattle.rvs_inputs.specs.DeviceInput.{device_file, device_in}
use Rattle.rvs_coverage.specs.LogReport.{takes_logs, logs_in}
use Rattle.rvs_coverage.specs.Coverage.{uncounted, counts_more, file_name}
use Rattle.rvs_coverage.specs.Summing.{total_of}
use Rattle.rvs_report.specs.Findings.{found_open, finds_test, finding_in}
use Rattle.rvs_showing.specs.Showing.{shown_label, shown_unselected}
use Rattle.rvs_coverage.specs.declared.covering.Covered.{Covered}
use Rattle.rvs_generate.specs.declared.gathering.Test.{Test}
use Rattle.rvs_words.specs.declared.command.ReportArguments.{ReportArguments}

-- the test of a label with this text
abbrev pub test_of : Isa → Label → List ℕ → Test
test_of isa l text = record { name = l.name; text = text; steps = step_limit (cases_of isa l) }

-- a core, as a page shows it
abbrev pub shown_core : Isa → Core
shown_core isa = record {
  isa = isa_name isa;
  misaligned = isa.misaligned;
  address_bits = isa.address_bits;
  misa = misa_word isa;
}

-- how many instructions all logs have, where there are some
abbrev pub instructions_in : List (List ℕ) → Covered → Option ℕ
instructions_in [] covered = None
instructions_in (log ∷ logs) covered = Some (total_of covered.ran)

abbrev pub page_with : ReportArguments → Inputs → Told → Covered → List ShownLabel → Page
page_with asked inputs device covered labels = record {
  device = device.name;
  core = shown_core inputs.isa;
  instructions = instructions_in asked.logs covered;
  labels = labels;
}

-- the status: done where the page's verdict is PASS
abbrev pub end_by : Verdict → Finish
end_by verdict.Pass = Done
end_by verdict.Incomplete = NotPassed
end_by verdict.Fail = NotPassed

-- ---- over given files
abbrev pub shown_by : Files → Isa → List ℕ → List ℕ → Label → Option (List ℕ) → ShownLabel
shown_by files isa work counts l None =
    shown_label (found_open state.NoTest) [] counts (claims_of isa l) l
shown_by files isa work counts l (Some text) =
    shown_label (finding_in files isa work (test_of isa l text)) text counts (claims_of isa l) l

abbrev pub shown_in : Files → Isa → List ℕ → List ℕ → Label → ShownLabel
shown_in files isa work counts l =
    if l.selected then shown_by files isa work counts l (text_of_label isa l)
    else shown_unselected l

-- the labels in their order, each with its own counts
abbrev pub all_shown_in : Files → Isa → List ℕ → List ℕ → List Label → List ShownLabel
all_shown_in files isa work counts [] = []
all_shown_in files isa work counts (l ∷ ls) =
    shown_in files isa work (take (width l) counts) l
    ∷ all_shown_in files isa work (drop (width l) counts) ls

-- the page of what the files give, or the first input that isn't there or is refused
abbrev pub page_in : Files → ReportArguments → Result Page Stop
page_in files asked =
    and_then (tested_in files asked.isa asked.families asked.groups) (λ inputs.
    and_then (device_in files asked.device) (λ device.
    and_then (logs_in files file_name (counts_more asked.windows inputs.groups)
    (uncounted inputs.groups) asked.logs) (λ covered.
    Ok (page_with asked inputs device covered
    (all_shown_in files inputs.isa asked.work covered.counts inputs.groups)))))

-- ---- as plans
-- what is found of a test is shown with the claims of it
abbrev pub shows_test : Isa → List ℕ → List ℕ → List Claim → Label → Test → Plan ShownLabel
shows_test isa work counts claims l test = do
  found ← finds_test isa work test
  gives (shown_label found test.text counts claims l)

abbrev pub shows_by : Isa → List ℕ → List ℕ → Label → Option (List ℕ) → Plan ShownLabel
shows_by isa work counts l None =
    gives (shown_label (found_open state.NoTest) [] counts (claims_of isa l) l)
shows_by isa work counts l (Some text) =
    shows_test isa work counts (claims_of isa l) l (test_of isa l text)

abbrev pub shows_label : Isa → List ℕ → List ℕ → Label → Plan ShownLabel
shows_label isa work counts l =
    if l.selected then shows_by isa work counts l (text_of_label isa l)
    else gives (shown_unselected l)

abbrev pub shows_labels : Isa → List ℕ → List ShownLabel → List ℕ → List Label
    → Plan (List ShownLabel)
shows_labels isa work shown counts [] = gives shown
shows_labels isa work shown counts (l ∷ ls) =
    shows_label isa work (take (width l) counts) l
    >>= (λ one. shows_labels isa work (shown ++ one ∷ []) (drop (width l) counts) ls)

-- the device file and the logs are read, and then the files of the tests, one test after the other
abbrev pub shows_page : ReportArguments → Inputs → Plan Page
shows_page asked inputs = do
  device ← device_file asked.device
  covered ← takes_logs file_name (counts_more asked.windows inputs.groups)
      (uncounted inputs.groups) asked.logs
  labels ← shows_labels inputs.isa asked.work [] covered.counts inputs.groups
  gives (page_with asked inputs device covered labels)

-- after the ISA file and the group files
abbrev pub finds_page : ReportArguments → Plan Page
finds_page asked = do
  inputs ← tested_inputs asked.isa asked.families asked.groups
  shows_page asked inputs

abbrev pub puts_page : Page → Plan Finish
puts_page page = do
  _ ← prints (page_of page)
  gives (end_by (verdict_of page.labels))

-- and then the page is put
abbrev pub report : ReportArguments → Plan Finish
report asked = finds_page asked >>= puts_page
