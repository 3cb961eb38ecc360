use Rattle.std.proofs.Common.{◌≡◌, length, ◌∙◌, ap}
use Rattle.std.proofs.lemmas.Result.{err_from_is_err_and}
use Rattle.rvs_plan.specs.World.{world}
use Rattle.rvs_plan.specs.Plan.{gives}
use Rattle.rvs_plan.proofs.Sequence.{Meets-then, Meets-stop, Meets-gives, Meets-no_memory}
use Rattle.rvs_sig.specs.Verdicts.{verdict_of}
use Rattle.rvs_plain.specs.Compare.{announce, verdict_finish}
use Rattle.rvs_plain.specs.Texts.{verdict_line}
use Rattle.rvs_plain.proofs.comparing.print_verdict.Goals as goal

pub returns-in_err-line : goal.returns-in_err-line
returns-in_err-line g c = λ host.
    let p = err_from_is_err_and c.from_residual.result c.from_residual.ensures.1 in
    rw (p.1, p.2) (Meets-no_memory (announce c.args.left.now c.args.right.now)
    (world host (g.O.Sink.state c.args.out.now)))

pub returns-in_err-print : goal.returns-in_err-print
returns-in_err-print g c = λ host.
    let p = err_from_is_err_and c.from_residual-in_err-print.result
    c.from_residual-in_err-print.ensures.1 in
    let verdict = verdict_of c.args.left.now c.args.right.now in
    let line : c.as_bytes.result.now ≡ verdict_line (length c.args.left.now) verdict =
    c.as_bytes.ensures.value ∙ c.as_str.ensures ∙ c.in_ok-line.ensures
    ∙ ap (verdict_line (length c.args.left.now)) c.compare-verdict.ensures.verdict in
    rw (p.1, p.2) (Meets-stop (λ _. gives (verdict_finish verdict))
    (rw line at (c.in_err-print.ensures host)))

pub returns : goal.returns
returns g c = λ host.
    let verdict = verdict_of c.args.left.now c.args.right.now in
    let line : c.as_bytes.result.now ≡ verdict_line (length c.args.left.now) verdict =
    c.as_bytes.ensures.value ∙ c.as_str.ensures ∙ c.in_ok-line.ensures
    ∙ ap (verdict_line (length c.args.left.now)) c.compare-verdict.ensures.verdict in
    let finish : c.finish_of.result ≡ verdict_finish verdict =
    c.finish_of.ensures ∙ ap verdict_finish c.compare-verdict.ensures.verdict in
    rw finish (Meets-then (λ _. gives (verdict_finish verdict))
    (rw line at (c.in_ok-print.ensures host))
    (Meets-gives (verdict_finish verdict) (world host (g.O.Sink.state c.print.new.out))))
