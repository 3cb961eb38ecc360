use Rattle.rvs_log.specs.Grammar.{hex_value}
use Rattle.rvs_log.proofs.Values.{four_counted, four_skipped, four_small}
use Rattle.rvs_log.proofs.words.four_digits.Goals as goal

pub returns-clause-run : goal.returns-clause-run
returns-clause-run c h v bs =
    let a = c.counted in
    let b = c.counted-2 in
    let d = c.counted-3 in
    let e = c.counted-4 in
    four_counted v c.args.a c.args.b c.args.c c.args.d a.result b.result d.result e.result bs
    a.ensures.none a.ensures.digit b.ensures.none b.ensures.digit d.ensures.none d.ensures.digit
    e.ensures.none e.ensures.digit h

pub returns-clause-small : goal.returns-clause-small
returns-clause-small c h =
    let a = c.counted in
    let b = c.counted-2 in
    let d = c.counted-3 in
    let e = c.counted-4 in
    four_small (hex_value c.args.a) (hex_value c.args.b) (hex_value c.args.c) (hex_value c.args.d)
    a.result b.result d.result e.result a.ensures.none a.ensures.digit b.ensures.none
    b.ensures.digit d.ensures.none d.ensures.digit e.ensures.none e.ensures.digit h

pub returns-clause-later : goal.returns-clause-later
returns-clause-later c h bs =
    let a = c.counted in
    let b = c.counted-2 in
    let d = c.counted-3 in
    let e = c.counted-4 in
    four_skipped c.args.a c.args.b c.args.c c.args.d a.result b.result d.result e.result bs
    a.ensures.none a.ensures.digit b.ensures.none b.ensures.digit d.ensures.none d.ensures.digit
    e.ensures.none e.ensures.digit h
