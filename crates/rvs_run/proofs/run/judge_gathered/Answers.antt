use Rattle.std.proofs.Common.{◌≡◌, ◌∙◌, List}
use Rattle.std.proofs.lemmas.Result.{err_from_is_err_and}
use Rattle.rvs_plan.specs.Plan.{Plan}
use Rattle.rvs_plan.specs.declared.status.Finish.{Finish}
use Rattle.rvs_plan.proofs.Sequence.{Meets-then, Meets-stop, Meets-weaker}
use Rattle.rvs_run.specs.RunTests.{Bench, judges_tests}
use Rattle.rvs_run.specs.RunView.{bench_view}
use Rattle.rvs_generate.specs.declared.sources.Source.{Source}
use Rattle.rvs_run.proofs.run.judge_gathered.Goals as goal

-- what follows when what is said of them is put
abbrev judging : Bench → List Source → Unit {0} → Plan Finish
judging bench tests done = judges_tests bench tests

pub returns-in_err-print : goal.returns-in_err-print
returns-in_err-print g c =
    let host = g.H.Host.state c.args.host.now in
    let line : c.as_bytes.result.now ≡ c.args.gathered.now.text =
    c.as_bytes.ensures.value ∙ c.as_str.ensures in
    let p = err_from_is_err_and c.from_residual.result c.from_residual.ensures.1 in
    rw (p.1, p.2) (Meets-weaker
    (Meets-stop (judging (bench_view c.args.bench.now) c.args.gathered.now.tests)
    (rw line at (c.in_err-print.ensures host))))

pub judge_tests-requires : goal.judge_tests-requires
judge_tests-requires g c = rw c.as_slice.ensures c.requires

pub returns : goal.returns
returns g c =
    let host = g.H.Host.state c.args.host.now in
    let bench = bench_view c.args.bench.now in
    let line : c.as_bytes.result.now ≡ c.args.gathered.now.text =
    c.as_bytes.ensures.value ∙ c.as_str.ensures in
    Meets-then (judging bench c.args.gathered.now.tests)
    (Meets-weaker (rw line at (c.in_ok-print.ensures host)))
    (rw c.as_slice.ensures at c.judge_tests.ensures)
