use Rattle.rvs_tree.specs.TreeView.{view}
use Rattle.rvs_cgf.proofs.Spelling.{read_spelled}
use Rattle.rvs_cgf.proofs.Validity.{read_valid}
use Rattle.rvs_cgf.proofs.listing.read_groups.Goals as goal

pub returns-clause-valid : goal.returns-clause-valid
returns-clause-valid c =
    read_valid c.args.isa.now c.args.families (view c.args.tree.now) c.read_tree.result
    c.read_tree.ensures

pub returns-clause-plain : goal.returns-clause-plain
returns-clause-plain c =
    read_spelled c.args.isa.now c.args.families (view c.args.tree.now) c.read_tree.result
    c.read_tree.ensures
