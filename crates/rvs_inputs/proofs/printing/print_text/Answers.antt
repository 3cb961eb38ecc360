use Rattle.std.proofs.Common.{◌≡◌, ◌∙◌}
use Rattle.std.proofs.lemmas.Result.{err_from_is_err_and}
use Rattle.rvs_plan.specs.World.{world}
use Rattle.rvs_plan.specs.Plan.{gives}
use Rattle.rvs_plan.specs.declared.status.Finish.TheVariants.{Done}
use Rattle.rvs_plan.proofs.Sequence.{Meets-then, Meets-stop, Meets-gives}
use Rattle.rvs_inputs.proofs.printing.print_text.Goals as goal

pub returns-in_err-print : goal.returns-in_err-print
returns-in_err-print g c = λ host.
    let p = err_from_is_err_and c.from_residual.result c.from_residual.ensures.1 in
    let text : c.as_bytes.result.now ≡ c.args.text.now =
    c.as_bytes.ensures.value ∙ c.as_str.ensures in
    rw (p.1, p.2) (Meets-stop (λ _. gives Done) (rw text at (c.in_err-print.ensures host)))

pub returns : goal.returns
returns g c = λ host.
    let text : c.as_bytes.result.now ≡ c.args.text.now =
    c.as_bytes.ensures.value ∙ c.as_str.ensures in
    Meets-then (λ _. gives Done) (rw text at (c.in_ok-print.ensures host))
    (Meets-gives Done (world host (g.O.Sink.state c.print.new.out)))
