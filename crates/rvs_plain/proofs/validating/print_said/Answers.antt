use Rattle.std.proofs.lemmas.Result.{err_from_is_err_and}
use Rattle.rvs_plan.specs.World.{world}
use Rattle.rvs_plan.proofs.Sequence.{Meets-no_memory}
use Rattle.rvs_plain.specs.Validate.{print_said}
use Rattle.rvs_plain.proofs.validating.print_said.Goals as goal

pub returns-in_err-text : goal.returns-in_err-text
returns-in_err-text g c = λ host.
    let p = err_from_is_err_and c.from_residual.result c.from_residual.ensures.1 in
    rw (p.1, p.2)
    (Meets-no_memory (print_said c.args.said.now) (world host (g.O.Sink.state c.args.out.now)))

pub returns : goal.returns
returns g c = λ host. rw c.in_ok-text.ensures at (c.print_text.ensures host)
