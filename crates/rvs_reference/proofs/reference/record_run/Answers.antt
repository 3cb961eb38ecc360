use Rattle.std.proofs.lemmas.Result.{err_from_is_err_and}
use Rattle.rvs_plan.proofs.Sequence.{Meets-then, Meets-stop}
use Rattle.rvs_reference.specs.Reference.{announces_run, records_log}
use Rattle.rvs_reference.proofs.reference.record_run.Goals as goal

pub returns-in_err-write_signature : goal.returns-in_err-write_signature
returns-in_err-write_signature g c =
    let p = err_from_is_err_and c.from_residual.result c.from_residual.ensures.1 in
    let first = rw c.as_slice.ensures at
    (c.in_err-write_signature.ensures (g.O.Sink.state c.args.out.now)) in
    rw (p.1, p.2) (Meets-stop (λ _. records_log c.args.asked.now.log c.args.run.now) first)

pub returns-in_err-write_log : goal.returns-in_err-write_log
returns-in_err-write_log g c =
    let p = err_from_is_err_and c.from_residual-in_err-write_log.result
    c.from_residual-in_err-write_log.ensures.1 in
    let first = rw c.as_slice.ensures at
    (c.in_ok-write_signature.ensures (g.O.Sink.state c.args.out.now)) in
    let second =
    rw c.as_slice-2.ensures at (c.in_err-write_log.ensures (g.O.Sink.state c.args.out.now)) in
    rw (p.1, p.2) (Meets-then (λ _. records_log c.args.asked.now.log c.args.run.now) first
    (Meets-stop (λ _. announces_run c.args.run.now) second))

pub returns : goal.returns
returns g c =
    let first = rw c.as_slice.ensures at
    (c.in_ok-write_signature.ensures (g.O.Sink.state c.args.out.now)) in
    let second =
    rw c.as_slice-2.ensures at (c.in_ok-write_log.ensures (g.O.Sink.state c.args.out.now)) in
    let third = c.announce_run.ensures (g.H.Host.state c.write_log.new.host) in
    Meets-then (λ _. records_log c.args.asked.now.log c.args.run.now) first
    (Meets-then (λ _. announces_run c.args.run.now) second third)
