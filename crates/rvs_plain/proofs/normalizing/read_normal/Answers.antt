use Rattle.std.proofs.lemmas.Result.{err_from_is_err_and}
use Rattle.rvs_plan.proofs.Sequence.{Meets-then, Meets-stop}
use Rattle.rvs_plain.specs.Normalize.{normal_files}
use Rattle.rvs_plain.proofs.normalizing.read_normal.Goals as goal

pub returns-in_err-said : goal.returns-in_err-said
returns-in_err-said g c = λ out.
    let p = err_from_is_err_and c.from_residual.result c.from_residual.ensures.1 in
    rw (p.1, p.2)
    (Meets-stop (λ said. normal_files said.spec c.args.asked.now.families c.args.asked.now.groups)
    (c.in_err-said.ensures out))

pub returns : goal.returns
returns g c =
    λ out. Meets-then
    (λ said. normal_files said.spec c.args.asked.now.families c.args.asked.now.groups)
    (c.in_ok-said.ensures out) (c.read_normal_files.ensures out)
