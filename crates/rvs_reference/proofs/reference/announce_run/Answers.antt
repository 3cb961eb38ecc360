use Rattle.std.proofs.Common.{◌≡◌, ℕ, List, length, ap, ◌∙◌}
use Rattle.std.proofs.lemmas.Result.{err_from_is_err_and}
use Rattle.rvs_plan.specs.World.{world}
use Rattle.rvs_plan.proofs.Sequence.{Meets-no_memory}
use Rattle.rvs_machine.specs.declared.event.Executed.{Executed}
use Rattle.rvs_reference.specs.TestTexts.{ran_line}
use Rattle.rvs_reference.specs.Reference.{announces_run}
use Rattle.rvs_reference.proofs.reference.announce_run.Goals as goal

pub returns-in_err-line : goal.returns-in_err-line
returns-in_err-line g c = λ host.
    let p = err_from_is_err_and c.from_residual.result c.from_residual.ensures.1 in
    rw (p.1, p.2) (Meets-no_memory (announces_run c.args.run.now)
    (world host (g.O.Sink.state c.args.out.now)))

pub returns : goal.returns
returns g c = λ host.
    let line : c.in_ok-line.line ≡ ran_line (length c.args.run.now.trace)
    (length c.args.run.now.words) = c.in_ok-line.ensures ∙ ap
    (λ (t : List Executed). ran_line (length t) (length c.as_slice-2.result.now))
    c.as_slice.ensures ∙ ap (λ (w : List ℕ). ran_line (length c.args.run.now.trace) (length w))
    c.as_slice-2.ensures in
    rw line at (c.print_text.ensures host)
