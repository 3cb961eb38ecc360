-- Reading what a run left: it only reads, and what it finds over given files.
use Rattle.std.proofs.Common.{ℕ, Bool, if◌then◌else◌, List, [], ◌∷◌, ◌++◌, take, drop}
use Rattle.std.proofs.Common.{Option, Some, None, Ok, refl, subst, append_assoc}
use Rattle.std.proofs.Common.{append-nil, arith, rules}
use Rattle.rvs_base.specs.Host.{Files}
use Rattle.rvs_plan.specs.Plan.{Plan, gives, ◌>>=◌}
use Rattle.rvs_plan.specs.Inputs.{input}
use Rattle.rvs_insn.specs.Isa.{Isa}
use Rattle.rvs_cgf.specs.Groups.{Label}
use Rattle.rvs_count.specs.Report.{width}
use Rattle.rvs_test.specs.Made.{text_of_label}
use Rattle.rvs_device.specs.DeviceFile.{Told}
use Rattle.rvs_page.specs.declared.shown.Page.{Page}
use Rattle.rvs_page.specs.declared.shown.Label.{Label as ShownLabel}
use Rattle.rvs_inputs.specs.GroupFiles.{Inputs, and_then}
use Rattle.rvs_generate.specs.TestedInputs.{tested_in, tested_inputs}
use Rattle.rvs_inputs.specs.DeviceInput.{device_limit, checks, device_file, device_in}
use Rattle.rvs_coverage.specs.LogReport.{takes_logs, logs_in}
use Rattle.rvs_coverage.specs.Coverage.{uncounted, counts_more, file_name}
use Rattle.rvs_generate.specs.TestFiles.{files_of}
use Rattle.rvs_report.specs.Findings.{if_like, finds_words, finds_test}
use Rattle.rvs_showing.specs.Showing.{shown_unselected}
use Rattle.rvs_report.specs.Report.{page_with, shown_by, shown_in, all_shown_in, page_in}
use Rattle.rvs_report.specs.Report.{shows_by, shows_label, shows_labels, finds_page}
use Rattle.rvs_coverage.specs.declared.covering.Covered.{Covered}
use Rattle.rvs_report.specs.declared.reviewing.Likeness.{Likeness}
use Rattle.rvs_showing.specs.declared.found.Found.{Found}
use Rattle.rvs_generate.specs.declared.gathering.Test.{Test}
use Rattle.rvs_words.specs.declared.command.ReportArguments.{ReportArguments}
use Rattle.rvs_inputs.proofs.Readers.{OnlyReads, OnlyReads-then}
use Rattle.rvs_inputs.proofs.Finding.{Finds, finds-then}
use Rattle.rvs_promises.proofs.TestedInputs.{reads-tested, finds-tested}
use Rattle.rvs_inputs.proofs.GroupInputs.{finds-and_then}
use Rattle.rvs_coverage.proofs.LogReads.{reads-logs, finds-logs}
use Rattle.rvs_suite.proofs.RunReads.{finds-device}

-- ---- the parts of the plan

abbrev gives_page : ReportArguments → Inputs → Told → Covered → List ShownLabel → Plan Page
gives_page asked inputs device covered labels = gives (page_with asked inputs device covered labels)

abbrev shows_all : ReportArguments → Inputs → Told → Covered → Plan Page
shows_all asked inputs device covered =
    shows_labels inputs.isa asked.work [] covered.counts inputs.groups
    >>= gives_page asked inputs device covered

abbrev takes_all : ReportArguments → Inputs → Told → Plan Page
takes_all asked inputs device =
    takes_logs file_name (counts_more asked.windows inputs.groups) (uncounted inputs.groups)
    asked.logs
    >>= shows_all asked inputs device

abbrev asks_device : ReportArguments → Inputs → Plan Page
asks_device asked inputs = device_file asked.device >>= takes_all asked inputs

-- ---- it only reads
reads-if : (like : Likeness) (next : Plan Found) → OnlyReads next → OnlyReads (if_like like next)
reads-if like next reads = grind arith

reads-words : (isa : Isa) (work : List ℕ) (test : Test)
    → OnlyReads (finds_words (files_of work test.name) isa test)
reads-words isa work test = grind (arith, reads-if)

reads-test : (isa : Isa) (work : List ℕ) (test : Test) → OnlyReads (finds_test isa work test)
reads-test isa work test = grind (arith, reads-if, reads-words)

reads-by : (isa : Isa) (work counts : List ℕ) (l : Label) (text : Option (List ℕ))
    → OnlyReads (shows_by isa work counts l text)
reads-by isa work counts l None = tt
reads-by isa work counts l (Some text) = grind (arith, reads-test)

reads-label : (isa : Isa) (work counts : List ℕ) (l : Label) (selected : Bool)
    → OnlyReads (if selected then shows_by isa work counts l (text_of_label isa l)
    else gives (shown_unselected l))
reads-label isa work counts l selected = search (rules, reads-by)

reads-all : (isa : Isa) (work : List ℕ) (shown : List ShownLabel) (counts : List ℕ)
    (ls : List Label) → OnlyReads (shows_labels isa work shown counts ls)
reads-all isa work shown counts [] = tt
reads-all isa work shown counts (l ∷ ls) =
    OnlyReads-then (shows_label isa work (take (width l) counts) l)
    (λ one. shows_labels isa work (shown ++ one ∷ []) (drop (width l) counts) ls)
    (reads-label isa work (take (width l) counts) l l.selected)
    (λ one. reads-all isa work (shown ++ one ∷ []) (drop (width l) counts) ls)

pub reads-page : (asked : ReportArguments) → OnlyReads (finds_page asked)
reads-page asked =
    OnlyReads-then (tested_inputs asked.isa asked.families asked.groups) (asks_device asked)
    (reads-tested asked.isa asked.families asked.groups) (λ inputs.
    OnlyReads-then (device_file asked.device) (takes_all asked inputs)
    (OnlyReads-then (input device_limit asked.device) (checks asked.device) (λ found. tt)
    (λ bytes. tt)) (λ device.
    OnlyReads-then
    (takes_logs file_name (counts_more asked.windows inputs.groups) (uncounted inputs.groups)
    asked.logs) (shows_all asked inputs device)
    (reads-logs file_name (counts_more asked.windows inputs.groups) (uncounted inputs.groups)
    asked.logs) (λ covered.
    OnlyReads-then (shows_labels inputs.isa asked.work [] covered.counts inputs.groups)
    (gives_page asked inputs device covered)
    (reads-all inputs.isa asked.work [] covered.counts inputs.groups) (λ labels. tt))))

-- ---- what it finds

found-by : (files : Files) (isa : Isa) (work counts : List ℕ) (l : Label) (text : Option (List ℕ))
    → Finds files (shows_by isa work counts l text) (Ok (shown_by files isa work counts l text))
found-by files isa work counts l text = grind arith

found-label : (files : Files) (isa : Isa) (work counts : List ℕ) (l : Label) (selected : Bool)
    → Finds files (if selected then shows_by isa work counts l (text_of_label isa l)
    else gives (shown_unselected l))
    (Ok (if selected then shown_by files isa work counts l (text_of_label isa l)
    else shown_unselected l))
found-label files isa work counts l selected = grind arith

found-all : (files : Files) (isa : Isa) (work : List ℕ) (shown : List ShownLabel)
    (counts : List ℕ) (ls : List Label)
    → Finds files (shows_labels isa work shown counts ls)
    (Ok (shown ++ all_shown_in files isa work counts ls))
found-all files isa work shown counts [] = simp append-nil
found-all files isa work shown counts (l ∷ ls) =
    let one = shown_in files isa work (take (width l) counts) l in
    let others = drop (width l) counts in
    finds-then files (shows_label isa work (take (width l) counts) l)
    (λ (s : ShownLabel). shows_labels isa work (shown ++ s ∷ []) others ls) (Ok one)
    (Ok (shown ++ one ∷ all_shown_in files isa work others ls))
    (found-label files isa work (take (width l) counts) l l.selected)
    (subst (λ (xs : List ShownLabel). Finds files
    (shows_labels isa work (shown ++ one ∷ []) others ls) (Ok xs))
    (append_assoc shown (one ∷ []) (all_shown_in files isa work others ls))
    (found-all files isa work (shown ++ one ∷ []) others ls))

pub finds-page : (files : Files) (asked : ReportArguments)
    → Finds files (finds_page asked) (page_in files asked)
finds-page files asked =
    finds-and_then files (tested_inputs asked.isa asked.families asked.groups) (asks_device asked)
    (tested_in files asked.isa asked.families asked.groups) (λ inputs.
    and_then (device_in files asked.device) (λ device.
    and_then (logs_in files file_name (counts_more asked.windows inputs.groups)
    (uncounted inputs.groups) asked.logs) (λ covered.
    Ok (page_with asked inputs device covered
    (all_shown_in files inputs.isa asked.work covered.counts inputs.groups)))))
    (finds-tested files asked.isa asked.families asked.groups) (λ inputs.
    finds-and_then files (device_file asked.device) (takes_all asked inputs)
    (device_in files asked.device) (λ device.
    and_then (logs_in files file_name (counts_more asked.windows inputs.groups)
    (uncounted inputs.groups) asked.logs) (λ covered.
    Ok (page_with asked inputs device covered
    (all_shown_in files inputs.isa asked.work covered.counts inputs.groups))))
    (finds-device files asked.device) (λ device.
    finds-and_then files
    (takes_logs file_name (counts_more asked.windows inputs.groups) (uncounted inputs.groups)
    asked.logs) (shows_all asked inputs device)
    (logs_in files file_name (counts_more asked.windows inputs.groups) (uncounted inputs.groups)
    asked.logs) (λ covered.
    Ok (page_with asked inputs device covered
    (all_shown_in files inputs.isa asked.work covered.counts inputs.groups)))
    (finds-logs files file_name (counts_more asked.windows inputs.groups)
    (uncounted inputs.groups) asked.logs) (λ covered.
    let labels = all_shown_in files inputs.isa asked.work covered.counts inputs.groups in
    finds-then files (shows_labels inputs.isa asked.work [] covered.counts inputs.groups)
    (gives_page asked inputs device covered) (Ok labels)
    (Ok (page_with asked inputs device covered labels))
    (found-all files inputs.isa asked.work [] covered.counts inputs.groups) refl)))
