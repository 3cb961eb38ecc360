use Rattle.std.proofs.Common.{◌≡◌, Ok, map, sym, ◌∙◌}
use Rattle.rvs_cross.specs.Variables.{note_entry, variables}
use Rattle.rvs_cross.proofs.Noting.{at_most_three}
use Rattle.rvs_cross.proofs.Rows.{each_more, each_done}
use Rattle.rvs_cross.proofs.variables.variables.Goals as goal

pub loop-entry-preserved : goal.loop-entry-preserved
loop-entry-preserved c =
    each_more note_entry c.args.entries.now c.loop-entry.entry-index _ c.loop-entry.variables
    c.note_entry.new.variables c.loop-entry-test.true c.in_ok-note_entry.ensures
    ∙ c.loop-entry.invariant

noted : (c : goal.After-loop-entry)
    → variables (map (λ t. t.now) c.args.entries.now) ≡ Ok c.loop-entry.variables
noted c =
    sym c.loop-entry.invariant
    ∙ each_done note_entry c.args.entries.now c.loop-entry.entry-index c.loop-entry.variables
    c.loop-entry-test.false

pub returns-clause-noted : goal.returns-clause-noted
returns-clause-noted c = noted c

pub returns-clause-few : goal.returns-clause-few
returns-clause-few c =
    at_most_three (map (λ t. t.now) c.args.entries.now) c.loop-entry.variables (noted c)
