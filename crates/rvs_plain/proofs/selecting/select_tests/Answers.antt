use Rattle.std.proofs.lemmas.Result.{err_from_is_err_and}
use Rattle.rvs_plan.proofs.Sequence.{Meets-then, Meets-stop}
use Rattle.rvs_plain.specs.Select.{print_selection}
use Rattle.rvs_plain.proofs.selecting.select_tests.Goals as goal

pub returns-in_err-database : goal.returns-in_err-database
returns-in_err-database g c =
    let p = err_from_is_err_and c.from_residual.result c.from_residual.ensures.1 in
    rw (p.1, p.2)
    (Meets-stop print_selection (c.in_err-database.ensures (g.O.Sink.state c.args.out.now)))

pub returns : goal.returns
returns g c = Meets-then print_selection (c.in_ok-database.ensures (g.O.Sink.state c.args.out.now))
    (c.print_selection.ensures (g.H.Host.state c.read_selection.new.host))
