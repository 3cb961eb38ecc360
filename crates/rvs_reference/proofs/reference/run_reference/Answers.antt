use Rattle.std.proofs.lemmas.Result.{err_from_is_err_and}
use Rattle.rvs_plan.proofs.Sequence.{Meets-then, Meets-stop}
use Rattle.rvs_isa.specs.declared.accepted_spec.AcceptedSpec.{AcceptedSpec}
use Rattle.rvs_reference.specs.Reference.{records, reference_on}
use Rattle.rvs_reference.specs.declared.test_run.Run.{Run}
use Rattle.rvs_reference.proofs.reference.run_reference.Goals as goal

pub returns-in_err-said : goal.returns-in_err-said
returns-in_err-said g c =
    let p = err_from_is_err_and c.from_residual.result c.from_residual.ensures.1 in
    let out = g.O.Sink.state c.args.out.now in
    rw (p.1, p.2)
    (Meets-stop (λ (said : AcceptedSpec). reference_on c.args.asked.now said.spec)
    (c.in_err-said.ensures out))

pub returns-in_err-run : goal.returns-in_err-run
returns-in_err-run g c =
    let p = err_from_is_err_and c.from_residual-in_err-run.result
    c.from_residual-in_err-run.ensures.1 in
    let out = g.O.Sink.state c.args.out.now in
    rw (p.1, p.2)
    (Meets-then (λ (said : AcceptedSpec). reference_on c.args.asked.now said.spec)
    (c.in_ok-said.ensures out) (Meets-stop
    (λ (run : Run). records c.args.asked.now.signature c.args.asked.now.log run)
    (c.in_err-run.ensures out)))

pub returns : goal.returns
returns g c =
    let out = g.O.Sink.state c.args.out.now in
    Meets-then
    (λ (said : AcceptedSpec). reference_on c.args.asked.now said.spec) (c.in_ok-said.ensures out)
    (Meets-then
    (λ (run : Run). records c.args.asked.now.signature c.args.asked.now.log run)
    (c.in_ok-run.ensures out)
    c.record_run.ensures)
