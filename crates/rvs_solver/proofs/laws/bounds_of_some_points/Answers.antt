use Rattle.std.proofs.Common.{refl}
use Rattle.rvs_solver.specs.Truth.{constants_in, holds_within}
use Rattle.rvs_solver.specs.Datasets.{dataset, with_number, is_between, is_there, around}
use Rattle.rvs_solver.specs.Datasets.{distance_list}
use Rattle.rvs_solver.specs.Datasets.{rds, rs1s, rs2s}
use Rattle.rvs_solver.specs.Bound.{bound}
use Rattle.rvs_solver.specs.Rows.{rows}
use Rattle.rvs_solver.proofs.laws.bounds_of_some_points.Goals as goal

pub returns : goal.returns
unfolding rows bound constants_in holds_within dataset with_number is_between is_there around
    distance_list
    rds rs1s rs2s
returns c = refl
