use Rattle.std.proofs.lemmas.Result.{err_from_is_err_and}
use Rattle.rvs_plan.specs.World.{world}
use Rattle.rvs_plan.specs.Plan.{Ends}
use Rattle.rvs_plan.proofs.Sequence.{Meets-then, Meets-stop}
use Rattle.rvs_inputs.specs.TreeInput.{tree_in}
use Rattle.rvs_inputs.proofs.tree_file.read_tree.Goals as goal

pub returns-in_err-bytes : goal.returns-in_err-bytes
returns-in_err-bytes g c = λ out.
    let p = err_from_is_err_and c.from_residual.result c.from_residual.ensures.1 in
    rw (p.1, p.2)
    (Meets-stop (λ bytes. Ends (tree_in c.args.name.now bytes)) (c.in_err-bytes.ensures out))

pub returns : goal.returns
returns g c = λ out.
    let w = world (g.H.Host.state c.read_input.new.host) out in
    Meets-then (λ bytes. Ends (tree_in c.args.name.now bytes)) (c.in_ok-bytes.ensures out)
    (rw c.as_slice.ensures at (c.tree_in.ensures w))
