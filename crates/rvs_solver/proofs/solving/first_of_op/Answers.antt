use Rattle.std.proofs.Common.{◌≡◌, sym, subst}
use Rattle.std.specs.Prelude.{IfOk, find}
use Rattle.rvs_points.specs.declared.group.Meaning.{Meaning}
use Rattle.rvs_points.specs.PointView.{meaning_view}
use Rattle.rvs_solver.specs.Truth.{holds}
use Rattle.rvs_solver.specs.Choices.{choices}
use Rattle.rvs_solver.specs.Point.{hits, constants_of}
use Rattle.rvs_solver.proofs.solving.first_of_op.Goals as goal

pub returns-in-Nums-clause-first : goal.returns-in-Nums-clause-first
unfolding holds
returns-in-Nums-clause-first g c =
    let P : Meaning → Type 0 = λ m. IfOk c.first_value.result
    (λ x. x ≡ find (hits c.args.kind (meaning_view m))
    (choices c.args.spec.now c.args.op (constants_of (meaning_view m)))) in
    subst P (sym c.in-Nums.is) c.first_value.ensures.first
