use Rattle.rvs_condition.proofs.Items.{part_whole, part_first, part_shorter}
use Rattle.rvs_condition.proofs.conditions.first_part.Goals as goal

pub returns-in-Some-clause-parts : goal.returns-in-Some-clause-parts
returns-in-Some-clause-parts c =
    part_first c.args.text.now c.in-Some.part.now c.in-Some.rest.now c.in-Some.ensures

pub returns-in-Some-clause-shorter : goal.returns-in-Some-clause-shorter
returns-in-Some-clause-shorter c =
    part_shorter c.args.text.now c.in-Some.part.now c.in-Some.rest.now c.in-Some.ensures

pub returns-in-None-clause-parts : goal.returns-in-None-clause-parts
returns-in-None-clause-parts c = part_whole c.args.text.now c.in-None.ensures
