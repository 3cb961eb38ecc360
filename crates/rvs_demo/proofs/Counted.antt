-- The group of the demonstration has 39 points.
use Rattle.std.proofs.Common.{◌≡◌, length, refl}
use Rattle.rvs_insn.specs.Names as names
use Rattle.rvs_expr.specs.Parse as expressions
use Rattle.rvs_cross.specs.Parse as crosses
use Rattle.rvs_points.specs.Keys as keys
use Rattle.rvs_demo.specs.Label.{points, points_of, mnemonics, registers, equations, comparisons}
use Rattle.rvs_demo.specs.Label.{hazards}

pub counted : length points ≡ 39
unfolding names.op_of_name expressions.parse crosses.parse keys.is_skipped points_of mnemonics
    registers equations comparisons hazards
counted = refl
