use Rattle.rvs_log.proofs.Straight.{words_are}
use Rattle.rvs_log.proofs.plain.words_at.Goals as goal

pub returns : goal.returns
returns c =
    words_are c.args.text.now c.in_ok-pc.rest.now c.in_ok-rest.rest.now c.in_ok-word.rest.now
    c.in_ok-rest-2.rest.now c.in_ok-rest-3.rest.now c.in_ok-pc.pc c.in_ok-word.word
    c.in_ok-pc.ensures c.in_ok-rest.ensures c.in_ok-word.ensures c.in_ok-rest-2.ensures
    c.in_ok-rest-3.ensures
