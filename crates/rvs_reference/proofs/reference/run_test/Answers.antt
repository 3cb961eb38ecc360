use Rattle.std.proofs.Common.{List, ℕ, subst}
use Rattle.std.proofs.lemmas.Result.{err_from_is_err_and}
use Rattle.rvs_plan.specs.World.{world}
use Rattle.rvs_plan.specs.Meets.{Meets}
use Rattle.rvs_plan.proofs.Sequence.{Meets-then, Meets-stop}
use Rattle.rvs_reference.specs.TestRun.{accepted, test_found}
use Rattle.rvs_reference.proofs.Accepts.{Meets-accepts}
use Rattle.rvs_reference.proofs.reference.run_test.Goals as goal

pub returns-in_err-bytes : goal.returns-in_err-bytes
returns-in_err-bytes g c = λ out.
    let p = err_from_is_err_and c.from_residual.result c.from_residual.ensures.1 in
    rw (p.1, p.2) (Meets-stop
    (λ (bytes : List ℕ). accepted (test_found c.args.steps c.args.spec c.args.test.now bytes))
    (rw c.as_str.ensures at (c.in_err-bytes.ensures out)))

pub returns : goal.returns
returns g c = λ out.
    let w = world (g.H.Host.state c.read_input.new.host) out in
    let plan =
    λ (bytes : List ℕ). accepted (test_found c.args.steps c.args.spec c.args.test.now bytes) in
    let last = subst (λ (bytes : List ℕ). Meets (plan bytes) w w c.run_bytes.result)
    c.as_slice.ensures (Meets-accepts
    (test_found c.args.steps c.args.spec c.args.test.now c.as_slice.result.now)
    c.run_bytes.result w (rw c.as_str-2.ensures at c.run_bytes.ensures)) in
    Meets-then plan (rw c.as_str.ensures at (c.in_ok-bytes.ensures out)) last
