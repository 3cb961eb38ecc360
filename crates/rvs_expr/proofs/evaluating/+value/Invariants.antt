use Rattle.std.proofs.Common.{◌+◌}
use Rattle.rvs_expr.specs.TypedView.{num_view}
use Rattle.rvs_expr.proofs.Weights.{weight}
use Rattle.rvs_expr.proofs.evaluating.+value.Given as goal

abbrev pub decreases-value_of : goal.decreases-value_of
decreases-value_of l = weight (num_view l.num.now)

abbrev pub decreases-operand : goal.decreases-operand
decreases-operand l = weight (num_view l.num.now) + 1
