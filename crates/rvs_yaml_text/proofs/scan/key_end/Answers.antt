use Rattle.std.proofs.Common.{◌+◌, ◌∙◌, sym, ap, add-one, get_or}
use Rattle.std.specs.Prelude.{◌==◌, ◌&&◌}
use Rattle.rvs_yaml_text.specs.Scalar.{ends_indicator}
use Rattle.rvs_yaml_text.proofs.Scans.{key-found, key-more, rest-all}
use Rattle.rvs_yaml_text.proofs.scan.key_end.Goals as goal

pub returns-then-ends_key-clause-split : goal.returns-then-ends_key-clause-split
returns-then-ends_key-clause-split c =
    sym c.loop-i.invariant ∙ rw add-one at (key-found c.loop-i.spaced c.args.bytes.now c.loop-i.i
    c.loop-i-test.true (sym c.begins_comment.ensures ∙ c.if-begins_comment.false) (ap
    (λ ys. get_or c.args.bytes.now c.loop-i.i 0 == 58 && ends_indicator ys)
    (sym (rest-all c.args.bytes.now (c.loop-i.i + 1))) ∙ sym c.ends_key.ensures
    ∙ c.if-ends_key.true))

pub loop-i-preserved : goal.loop-i-preserved
loop-i-preserved c =
    key-more c.loop-i.spaced c.args.bytes.now c.loop-i.i c.loop-i-test.true (sym
    c.begins_comment.ensures ∙ c.if-begins_comment.false) (ap
    (λ ys. get_or c.args.bytes.now c.loop-i.i 0 == 58 && ends_indicator ys)
    (sym (rest-all c.args.bytes.now (c.loop-i.i + 1))) ∙ sym c.ends_key.ensures
    ∙ c.if-ends_key.false) ∙ c.loop-i.invariant
