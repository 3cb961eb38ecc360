use Rattle.std.proofs.Common.{sym, subst}
use Rattle.std.proofs.lemmas.Result.{err_from_is_err_and}
use Rattle.rvs_plan.specs.World.{world}
use Rattle.rvs_plan.specs.Plan.{Plan}
use Rattle.rvs_plan.specs.Meets.{Meets}
use Rattle.rvs_plan.specs.declared.status.Finish.{Finish}
use Rattle.rvs_plan.proofs.Sequence.{Meets-then, Meets-stop}
use Rattle.rvs_inputs.specs.Printing.{print_text}
use Rattle.rvs_plain.proofs.NormalPlan.{normal-plan}
use Rattle.rvs_plain.proofs.normalizing.normalize_files.Goals as goal

pub returns-in_err-text : goal.returns-in_err-text
returns-in_err-text g c =
    let p = err_from_is_err_and c.from_residual.result c.from_residual.ensures.1 in
    let out = g.O.Sink.state c.args.out.now in
    rw (p.1, p.2, normal-plan c.args.asked.now)
    (Meets-stop print_text (c.in_err-text.ensures out))

pub returns : goal.returns
returns g c =
    let old = world (g.H.Host.state c.args.host.now) (g.O.Sink.state c.args.out.now) in
    let new = world (g.H.Host.state c.read_normal.new.host) (g.O.Sink.state c.print_text.new.out) in
    subst (λ (plan : Plan Finish). Meets plan old new c.print_text.result) (sym
    (normal-plan c.args.asked.now)) (Meets-then print_text
    (c.in_ok-text.ensures (g.O.Sink.state c.args.out.now))
    (c.print_text.ensures (g.H.Host.state c.read_normal.new.host)))
