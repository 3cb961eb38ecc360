use Rattle.rvs_cross.proofs.Found.{none_found}
use Rattle.rvs_cross.proofs.matching.found.Goals as goal

pub returns-else-used-clause-value : goal.returns-else-used-clause-value
returns-else-used-clause-value c =
    none_found c.args.variable c.args.places.now c.args.window.now c.args.used c.requires.used
    c.if-used.false
