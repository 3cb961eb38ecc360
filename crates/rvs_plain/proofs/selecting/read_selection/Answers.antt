use Rattle.std.proofs.lemmas.Result.{err_from_is_err_and}
use Rattle.rvs_plan.proofs.Sequence.{Meets-then, Meets-stop}
use Rattle.rvs_isa.specs.declared.accepted_spec.AcceptedSpec.{AcceptedSpec}
use Rattle.rvs_inputs.specs.DatabaseInput.{database_file}
use Rattle.rvs_plain.proofs.selecting.read_selection.Goals as goal

pub returns-in_err-said : goal.returns-in_err-said
returns-in_err-said g c = λ out.
    let p = err_from_is_err_and c.from_residual.result c.from_residual.ensures.1 in
    rw (p.1, p.2)
    (Meets-stop (λ (said : AcceptedSpec). database_file said.spec c.args.asked.now.database)
    (c.in_err-said.ensures out))

pub returns : goal.returns
returns g c = λ out.
    Meets-then (λ (said : AcceptedSpec). database_file said.spec c.args.asked.now.database)
    (c.in_ok-said.ensures out) (c.read_database_file.ensures out)
