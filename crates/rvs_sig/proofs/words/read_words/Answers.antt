use Rattle.std.proofs.Common.{◌≡◌, ◌∙◌, [], arith}
use Rattle.rvs_base.proofs.Refusing.{refuses}
use Rattle.rvs_sig.proofs.Counting.{HasWords-more, words_of-read, words_of-long, words_of-bad}
use Rattle.rvs_sig.proofs.words.read_words.Goals as goal

pub returns-then-line-eq-MOST_LINES :
    goal.returns-then-line-eq-MOST_LINES
returns-then-line-eq-MOST_LINES c =
    refuses (words_of-long c.args.bytes.now c.loop-word.left.now c.loop-word.words
    (rw c.if-line-eq-MOST_LINES.true at c.loop-word.invariant)
    (omega (arith, c.in-Some.ensures.shorter)))

pub returns-in-None : goal.returns-in-None
returns-in-None c =
    let here = c.in-Some.ensures.line in
    refuses (words_of-bad c.args.bytes.now c.loop-word.left.now c.in-Some.rest.now c.loop-word.line
    c.loop-word.words here.line c.loop-word.invariant here.cut (here.reads ∙ c.in-None.is)
    (omega (arith, c.loop-word.invariant.few)))

pub loop-word-preserved : goal.loop-word-preserved
loop-word-preserved c =
    let here = c.in-Some.ensures.line in
    rw c.in_ok-push-in-Some-word.ensures.added (HasWords-more c.args.bytes.now
    c.loop-word.left.now c.in-Some.rest.now c.loop-word.line c.loop-word.words here.line
    c.in-Some-word.word c.loop-word.invariant here.cut (here.reads ∙ c.in-Some-word.is)
    (omega (arith, c.loop-word.invariant.few)))

pub returns : goal.returns
returns c =
    let empty : c.loop-word.left.now ≡ [] = c.in_default.ensures.line in
    words_of-read c.args.bytes.now c.loop-word.line c.loop-word.words
    (rw empty at c.loop-word.invariant)
