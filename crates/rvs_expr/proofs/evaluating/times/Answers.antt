use Rattle.std.proofs.Common.{◌≤◌, ◌*◌, ◌^◌, ◌*ℤ◌, arith, FitsSigned, ℤ}
use Rattle.std.specs.Prelude.{unsigned_abs}
use Rattle.std.specs.Int.{w128}
use Rattle.std.proofs.lemmas.Int.{to_z-of_z, unsigned_abs-mul, fits_signed_from_abs}
use Rattle.rvs_expr.proofs.evaluating.times.Goals as goal

product-fits : (x y : ℤ) → unsigned_abs x * unsigned_abs y ≤ 2 ^ 100 → FitsSigned w128 (x *ℤ y)
product-fits x y h = fits_signed_from_abs w128 (x *ℤ y) (omega (arith, unsigned_abs-mul x y, h))

pub overflow_mul-result : goal.overflow_mul-result
overflow_mul-result c =
    rw (to_z-of_z w128 c.args.x c.ranges.x, to_z-of_z w128 c.args.y c.ranges.y)
    (product-fits c.args.x c.args.y c.requires)

pub returns-clause-value : goal.returns-clause-value
returns-clause-value c =
    rw (to_z-of_z w128 c.args.x c.ranges.x, to_z-of_z w128 c.args.y c.ranges.y)
    (to_z-of_z w128 (c.args.x *ℤ c.args.y) (product-fits c.args.x c.args.y c.requires))

pub returns-clause-within : goal.returns-clause-within
returns-clause-within c =
    rw (to_z-of_z w128 c.args.x c.ranges.x, to_z-of_z w128 c.args.y c.ranges.y)
    (rw (to_z-of_z w128 (c.args.x *ℤ c.args.y) (product-fits c.args.x c.args.y c.requires))
    (omega (arith, unsigned_abs-mul c.args.x c.args.y)))
