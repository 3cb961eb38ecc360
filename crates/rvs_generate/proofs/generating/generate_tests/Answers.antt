use Rattle.std.proofs.lemmas.Result.{err_from_is_err_and}
use Rattle.rvs_plan.proofs.Sequence.{Meets-then, Meets-stop}
use Rattle.rvs_inputs.specs.Printing.{print_text}
use Rattle.rvs_generate.specs.Generate.{generates}
use Rattle.rvs_generate.proofs.generating.generate_tests.Goals as goal

pub returns-in_err-inputs : goal.returns-in_err-inputs
returns-in_err-inputs g c =
    let p = err_from_is_err_and c.from_residual.result c.from_residual.ensures.1 in
    rw (p.1, p.2) (Meets-stop (generates c.args.asked.now.work)
    (c.in_err-inputs.ensures.met (g.O.Sink.state c.args.out.now)))

pub returns-in_err-text : goal.returns-in_err-text
returns-in_err-text g c =
    let out = g.O.Sink.state c.args.out.now in
    let p = err_from_is_err_and c.from_residual-in_err-text.result
    c.from_residual-in_err-text.ensures.1 in
    rw (p.1, p.2) (Meets-then (generates c.args.asked.now.work) (c.in_ok-inputs.ensures.met out)
    (Meets-stop print_text (c.in_err-text.ensures out)))

pub returns : goal.returns
returns g c =
    let out = g.O.Sink.state c.args.out.now in
    Meets-then (generates c.args.asked.now.work) (c.in_ok-inputs.ensures.met out)
    (Meets-then print_text (c.in_ok-text.ensures out)
    (c.print_text.ensures (g.H.Host.state c.write_tests-written.new.host)))
