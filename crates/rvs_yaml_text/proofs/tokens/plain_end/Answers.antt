use Rattle.std.proofs.Common.{◌≡◌, ◌+◌, ◌∙◌, sym, ap, get_or, drop, true, false}
use Rattle.rvs_yaml_text.specs.Tokens.{ends_plain}
use Rattle.rvs_yaml_text.proofs.Scans.{rest-all}
use Rattle.rvs_yaml_text.proofs.Plains.{plain-found, plain-more}
use Rattle.rvs_yaml_text.proofs.tokens.plain_end.Goals as goal

pub returns-then-ends_plain-clause-split : goal.returns-then-ends_plain-clause-split
returns-then-ends_plain-clause-split c =
    let bs = c.args.bytes.now in
    let i = c.loop-i.i in
    let stops : ends_plain c.loop-i.spaced (get_or bs i 0) (drop (i + 1) bs) ≡ true =
    ap (ends_plain c.loop-i.spaced (get_or bs i 0)) (sym (rest-all bs (i + 1)))
    ∙ sym c.ends_plain.ensures ∙ c.if-ends_plain.true in
    sym c.loop-i.invariant ∙ plain-found c.loop-i.spaced bs i c.loop-i-test.true stops

pub loop-i-preserved : goal.loop-i-preserved
loop-i-preserved c =
    let bs = c.args.bytes.now in
    let i = c.loop-i.i in
    let goes : ends_plain c.loop-i.spaced (get_or bs i 0) (drop (i + 1) bs) ≡ false =
    ap (ends_plain c.loop-i.spaced (get_or bs i 0)) (sym (rest-all bs (i + 1)))
    ∙ sym c.ends_plain.ensures ∙ c.if-ends_plain.false in
    plain-more c.loop-i.spaced bs i c.loop-i-test.true goes ∙ c.loop-i.invariant
