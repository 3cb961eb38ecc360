use Rattle.std.proofs.Common.{List, ℕ, subst}
use Rattle.std.proofs.lemmas.Result.{err_from_is_err_and}
use Rattle.rvs_plan.specs.World.{world}
use Rattle.rvs_plan.specs.Meets.{Meets}
use Rattle.rvs_plan.proofs.Sequence.{Meets-then, Meets-stop, Meets-no_memory}
use Rattle.rvs_run.specs.RunView.{bench_view}
use Rattle.rvs_run.specs.RunTests.{made_found}
use Rattle.rvs_generate.specs.TestFiles.{files_at}
use Rattle.rvs_reference.specs.TestRun.{accepted}
use Rattle.rvs_generate.specs.declared.test_files.TestFiles.{TestFiles}
use Rattle.rvs_reference.proofs.Accepts.{Meets-accepts}
use Rattle.rvs_run.proofs.judging.make_given.Goals as goal

pub returns-in_err-bytes : goal.returns-in_err-bytes
returns-in_err-bytes g c = λ out.
    let bench = bench_view c.args.bench.now in
    let files = files_at bench.work c.args.given.now.place c.args.given.now.name in
    let p = err_from_is_err_and c.from_residual.result c.from_residual.ensures.1 in
    rw (p.1, p.2) (Meets-stop (λ (bytes : List ℕ). accepted (made_found bench files bytes))
    (rw c.as_str.ensures at (c.in_err-bytes.ensures out)))

pub returns-in_err-files : goal.returns-in_err-files
returns-in_err-files g c = λ out.
    let bench = bench_view c.args.bench.now in
    let files = files_at bench.work c.args.given.now.place c.args.given.now.name in
    let w = world (g.H.Host.state c.read_input.new.host) out in
    let plan = λ (bytes : List ℕ). accepted (made_found bench files bytes) in
    let p = err_from_is_err_and c.from_residual-in_err-files.result
    c.from_residual-in_err-files.ensures.1 in
    rw (p.1, p.2) (Meets-then plan (rw c.as_str.ensures at (c.in_ok-bytes.ensures out))
    (Meets-no_memory (plan c.in_ok-bytes.bytes) w))

pub returns : goal.returns
returns g c = λ out.
    let bench = bench_view c.args.bench.now in
    let files = files_at bench.work c.args.given.now.place c.args.given.now.name in
    let w = world (g.H.Host.state c.read_input.new.host) out in
    let plan = λ (bytes : List ℕ). accepted (made_found bench files bytes) in
    let result = c.made_found.result in
    let found = made_found bench c.in_ok-files.files c.as_slice.result.now in
    let one = subst (λ (own : TestFiles). Meets (accepted (made_found bench own
    c.as_slice.result.now)) w w result) c.in_ok-files.ensures
    (Meets-accepts found result w c.made_found.ensures) in
    let last = subst (λ (bytes : List ℕ). Meets (plan bytes) w w result) c.as_slice.ensures one in
    Meets-then plan (rw c.as_str.ensures at (c.in_ok-bytes.ensures out)) last
