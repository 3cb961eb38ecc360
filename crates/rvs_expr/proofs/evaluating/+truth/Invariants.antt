use Rattle.std.proofs.Common.{◌+◌}
use Rattle.rvs_expr.specs.TypedView.{view}
use Rattle.rvs_expr.proofs.Weights.{formula_weight}
use Rattle.rvs_expr.proofs.evaluating.+truth.Given as goal

abbrev pub decreases-truth : goal.decreases-truth
decreases-truth l = formula_weight (view l.formula.now)

abbrev pub decreases-is_true : goal.decreases-is_true
decreases-is_true l = formula_weight (view l.formula.now) + 1
