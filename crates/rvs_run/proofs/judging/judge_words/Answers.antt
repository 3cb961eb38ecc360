use Rattle.std.proofs.Common.{List, ℕ}
use Rattle.std.proofs.lemmas.Result.{err_from_is_err_and}
use Rattle.rvs_plan.proofs.Sequence.{Meets-then, Meets-stop, Meets-weaker}
use Rattle.rvs_plan.specs.Plan.{Plan}
use Rattle.rvs_device.specs.declared.verdicts.TestVerdict.{TestVerdict}
use Rattle.rvs_run.specs.RunTests.{Bench, judges_by}
use Rattle.rvs_run.specs.RunView.{bench_view}
use Rattle.rvs_generate.specs.declared.test_files.TestFiles.{TestFiles}
use Rattle.rvs_run.proofs.judging.judge_words.Goals as goal

-- what follows when the words are written
abbrev next : Bench → TestFiles → List ℕ → Unit {0} → Plan TestVerdict
next bench files words done = judges_by bench files words

pub returns-in_err-write_words : goal.returns-in_err-write_words
returns-in_err-write_words g c = λ out.
    let p = err_from_is_err_and c.from_residual.result c.from_residual.ensures.1 in
    rw (p.1, p.2) (Meets-weaker (Meets-stop
    (next (bench_view c.args.bench.now) c.args.files.now c.args.words.now)
    (c.in_err-write_words.ensures out)))

pub returns : goal.returns
returns g c = λ out.
    Meets-then (next (bench_view c.args.bench.now) c.args.files.now c.args.words.now)
    (Meets-weaker (c.in_ok-write_words.ensures out)) (c.judge_device.ensures out)
