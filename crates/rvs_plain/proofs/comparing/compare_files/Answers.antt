use Rattle.std.proofs.lemmas.Result.{err_from_is_err_and}
use Rattle.rvs_plan.proofs.Sequence.{Meets-then, Meets-stop}
use Rattle.rvs_plain.specs.Compare.{announce, compare_right}
use Rattle.rvs_plain.proofs.comparing.compare_files.Goals as goal

pub returns-in_err-left_words : goal.returns-in_err-left_words
returns-in_err-left_words g c =
    let p = err_from_is_err_and c.from_residual.result c.from_residual.ensures.1 in
    let out = g.O.Sink.state c.args.out.now in
    rw (p.1, p.2) (Meets-stop (compare_right c.args.asked.now.right)
    (c.in_err-left_words.ensures out))

pub returns-in_err-right_words : goal.returns-in_err-right_words
returns-in_err-right_words g c =
    let p = err_from_is_err_and c.from_residual-in_err-right_words.result
    c.from_residual-in_err-right_words.ensures.1 in
    let out = g.O.Sink.state c.args.out.now in
    rw (p.1, p.2) (Meets-then (compare_right c.args.asked.now.right)
    (c.in_ok-left_words.ensures out)
    (Meets-stop (announce c.in_ok-left_words.left_words) (c.in_err-right_words.ensures out)))

pub returns : goal.returns
returns g c =
    let out = g.O.Sink.state c.args.out.now in
    let last = rw (c.as_slice.ensures, c.as_slice-2.ensures) at
    (c.print_verdict.ensures (g.H.Host.state c.read_signature-2.new.host)) in
    Meets-then (compare_right c.args.asked.now.right) (c.in_ok-left_words.ensures out)
    (Meets-then (announce c.in_ok-left_words.left_words) (c.in_ok-right_words.ensures out) last)
