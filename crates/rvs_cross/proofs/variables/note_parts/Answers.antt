use Rattle.std.proofs.Common.{sym, ◌∙◌}
use Rattle.rvs_cross.specs.Variables.{note_part}
use Rattle.rvs_cross.proofs.Rows.{each_more, each_done, each_fails}
use Rattle.rvs_cross.proofs.variables.note_parts.Goals as goal

pub loop-part-preserved : goal.loop-part-preserved
loop-part-preserved c =
    each_more note_part c.args.parts.now c.loop-part.part-index _ c.loop-part.variables
    c.note_part.new.variables c.loop-part-test.true c.in-Ok.ensures
    ∙ c.loop-part.invariant

pub returns-in-Err : goal.returns-in-Err
returns-in-Err c = λ r e.
    sym c.loop-part.invariant
    ∙ each_fails note_part c.args.parts.now c.loop-part.part-index _ c.loop-part.variables r
    c.loop-part-test.true (c.in-Err.ensures r e)

pub returns : goal.returns
returns c =
    sym c.loop-part.invariant
    ∙ each_done note_part c.args.parts.now c.loop-part.part-index c.loop-part.variables
    c.loop-part-test.false
