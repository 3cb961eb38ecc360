use Rattle.std.proofs.lemmas.Result.{err_from_is_err_and}
use Rattle.rvs_plan.specs.Plan.{Plan, ◌>>=◌}
use Rattle.rvs_plan.proofs.Sequence.{Meets-then, Meets-stop, Meets-weaker}
use Rattle.rvs_device.specs.declared.verdicts.TestVerdict.{TestVerdict}
use Rattle.rvs_run.specs.RunTests.{Bench, writes_executable, judges_words}
use Rattle.rvs_run.specs.RunView.{bench_view}
use Rattle.rvs_run.specs.declared.judging.Made.{Made}
use Rattle.rvs_run.proofs.judging.judge_made.Goals as goal

-- what follows when the text is written, and when the executable is
abbrev last : Bench → Made → Unit {0} → Plan TestVerdict
last bench made done = judges_words bench made.files made.words

abbrev next : Bench → Made → Unit {0} → Plan TestVerdict
next bench made done =
    writes_executable made.files.executable made.executable >>= last bench made

pub returns-in_err-write_held : goal.returns-in_err-write_held
returns-in_err-write_held g c = λ out.
    let p = err_from_is_err_and c.from_residual.result c.from_residual.ensures.1 in
    rw (p.1, p.2) (Meets-weaker (Meets-stop (next (bench_view c.args.bench.now) c.args.made.now)
    (c.in_err-write_held.ensures out)))

pub returns-in_err-write_executable : goal.returns-in_err-write_executable
returns-in_err-write_executable g c = λ out.
    let bench = bench_view c.args.bench.now in
    let made = c.args.made.now in
    let p = err_from_is_err_and c.from_residual-in_err-write_executable.result
    c.from_residual-in_err-write_executable.ensures.1 in
    rw (p.1, p.2) (Meets-weaker (Meets-then (next bench made) (c.in_ok-write_held.ensures out)
    (Meets-stop (last bench made) (c.in_err-write_executable.ensures out))))

pub returns : goal.returns
returns g c = λ out.
    let bench = bench_view c.args.bench.now in
    let made = c.args.made.now in
    Meets-then (next bench made) (Meets-weaker (c.in_ok-write_held.ensures out))
    (Meets-then (last bench made) (Meets-weaker (c.in_ok-write_executable.ensures out))
    (rw c.as_slice.ensures at (c.judge_words.ensures out)))
