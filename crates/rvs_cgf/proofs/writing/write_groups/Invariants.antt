use Rattle.rvs_tree.specs.TreeView.{view}
use Rattle.rvs_cgf.specs.WrittenView.{written_view}
use Rattle.rvs_cgf.proofs.LabelsTold.{Stands}
use Rattle.rvs_cgf.proofs.writing.write_groups.Given as goal

abbrev pub invariant-loop-i : goal.invariant-loop-i
invariant-loop-i l = Stands l.isa l.families (view l.tree) l.i (written_view l.written)
