use Rattle.rvs_expr_text.specs.declared.outer.Outer.{size-Outer}
use Rattle.rvs_expr_text.proofs.outer.+closed.Given as goal

abbrev pub decreases-closed : goal.decreases-closed
decreases-closed l = size-Outer l.outer
