use Rattle.std.proofs.Common.{◌+◌}
use Rattle.rvs_expr.specs.TypedView.{view}
use Rattle.rvs_expr.proofs.Weights.{formula_weight}
use Rattle.rvs_expr.proofs.register_truth.+registers.Given as goal

abbrev pub decreases-truth : goal.decreases-truth
decreases-truth g l = formula_weight (view l.formula.now)

abbrev pub decreases-part_truth : goal.decreases-part_truth
decreases-part_truth g l = formula_weight (view l.formula.now) + 1
