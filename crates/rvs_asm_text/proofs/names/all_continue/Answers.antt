use Rattle.std.proofs.Common.{sym, ◌∙◌}
use Rattle.rvs_asm_text.specs.Operands.{continues_symbol}
use Rattle.rvs_asm_text.proofs.Found.{all_passed, not_all}
use Rattle.rvs_asm_text.proofs.names.all_continue.Goals as goal

pub loop-c-preserved : goal.loop-c-preserved
loop-c-preserved c =
    all_passed continues_symbol c.args.text.now c.loop-c.c-index 0 c.loop-c-test.true
    (sym c.may_continue.ensures ∙ c.if-not-may_continue.false)
    ∙ c.loop-c.invariant

pub returns-then-not-may_continue : goal.returns-then-not-may_continue
returns-then-not-may_continue c =
    sym (not_all continues_symbol c.args.text.now c.loop-c.c-index 0 c.loop-c-test.true
    (sym c.may_continue.ensures ∙ c.if-not-may_continue.true))
    ∙ c.loop-c.invariant
