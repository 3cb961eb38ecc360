use Rattle.std.proofs.lemmas.Result.{err_from_is_err_and}
use Rattle.rvs_plan.proofs.Sequence.{Meets-then, Meets-stop}
use Rattle.rvs_plain.specs.Validate.{print_said}
use Rattle.rvs_plain.proofs.validating.validate_file.Goals as goal

pub returns-in_err-said : goal.returns-in_err-said
returns-in_err-said g c =
    let p = err_from_is_err_and c.from_residual.result c.from_residual.ensures.1 in
    rw (p.1, p.2) (Meets-stop print_said (c.in_err-said.ensures (g.O.Sink.state c.args.out.now)))

pub returns : goal.returns
returns g c = Meets-then print_said (c.in_ok-said.ensures (g.O.Sink.state c.args.out.now))
    (c.print_said.ensures (g.H.Host.state c.read_isa.new.host))
