use Rattle.std.proofs.Common.{◌≡◌, [], ap, ◌∙◌, arith}
use Rattle.rvs_machine.specs.Machine.{started}
use Rattle.std.specs.Prelude.{map}
use Rattle.rvs_points.specs.PointView.{label_view}
use Rattle.rvs_count.specs.Report.{report_of}
use Rattle.rvs_count.proofs.Answered.{IfOk-map}
use Rattle.rvs_index.specs.State.{CountState, Tallied, state_of, tally_of}
use Rattle.rvs_log.proofs.Streams.{fed_of, none_waits}
use Rattle.rvs_demo.specs.Program.{core, image}
use Rattle.rvs_demo.proofs.Reported.{fed_report}
use Rattle.rvs_demo.proofs.demo.report_on.Goals as goal

pub count_run-requires-clause-begun : goal.count_run-requires-clause-begun
count_run-requires-clause-begun c =
    let is : c.in_ok-counter.counter ≡ state_of c.args.groups.now c.new.result [] 0 =
    rw c.in_ok-counter.ensures.both.0 at c.new_counter-counter.ensures in
    ap (λ (s : CountState). s.waiting) is
    ∙ none_waits (tally_of c.args.groups.now c.new.result)

pub count_run-requires-clause-few : goal.count_run-requires-clause-few
count_run-requires-clause-few c =
    let is : c.in_ok-counter.counter ≡ state_of c.args.groups.now c.new.result [] 0 =
    rw c.in_ok-counter.ensures.both.0 at c.new_counter-counter.ensures in
    let none : c.in_ok-counter.counter.fed ≡ 0 =
    ap (λ (s : CountState). s.fed) is
    ∙ fed_of (tally_of c.args.groups.now c.new.result) [] 0 in
    omega (arith, none, c.requires)

reported : {a b : Tallied} → a ≡ b
    → report_of (map label_view a.labels) a.counts a.instructions
    ≡ report_of (map label_view b.labels) b.counts b.instructions
reported is = ap (λ (t : Tallied). report_of (map label_view t.labels) t.counts t.instructions) is

pub returns : goal.returns
returns c =
    let is : c.in_ok-counter.counter ≡ state_of c.args.groups.now c.new.result [] 0 =
    rw c.in_ok-counter.ensures.both.0 at c.new_counter-counter.ensures in
    let machine : c.in_ok-counter.machine ≡ started (image c.args.count) core =
    c.in_ok-counter.ensures.both.1
    ∙ c.new-machine.ensures ∙ ap (λ i. started i core) c.in_ok-image.ensures in
    let same =
    fed_report c.args.count c.in_ok-counter.machine c.args.groups.now c.new.result
    c.in_ok-counter.counter c.count_run.new.counter c.finish.new.self machine c.new.ensures
    c.requires.groups is c.count_run.ensures c.finish.ensures.state in
    IfOk-map c.report-report.result (λ text is. is ∙ reported c.told.ensures ∙ same)
    c.report-report.ensures
