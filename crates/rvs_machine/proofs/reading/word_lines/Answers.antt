use Rattle.std.proofs.Common.{◌∙◌}
use Rattle.std.proofs.lemmas.Result.{err_from_is_err_and}
use Rattle.rvs_base.proofs.Refusing.{refuses}
use Rattle.rvs_machine.proofs.WordLines.{words_go, words_stop}
use Rattle.rvs_machine.proofs.reading.word_lines.Goals as goal

pub returns-in_err-word : goal.returns-in_err-word
returns-in_err-word c =
    let p = err_from_is_err_and c.from_residual.result c.from_residual.ensures.1 in
    let e = words_stop c.args.count c.loop.counter c.loop-test.true c.loop.bytes.items c.loop.lines
    _
    c.in_err-word.ensures in
    rw (p.1, p.2) (refuses (c.loop.invariant ∙ e))

pub loop-preserved : goal.loop-preserved
loop-preserved c =
    let e = words_go c.args.count c.loop.counter c.loop-test.true c.loop.bytes.items c.loop.lines
    c.word_line.new.lines c.in_ok-word.word c.in_ok-word.ensures in
    let f = c.in_ok-extend_from_slice.ensures.items in
    cc (c.to_le_bytes.ensures)
