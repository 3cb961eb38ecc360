use Rattle.std.proofs.Common.{map}
use Rattle.rvs_points.specs.declared.group.Kind.TheVariants.{Mnemonic, Rs1, Rs2, Rd, OpComb}
use Rattle.rvs_points.specs.declared.group.Kind.TheVariants.{ValComb, CrossComb}
use Rattle.rvs_points.specs.PointView.{point_view}
use Rattle.rvs_demo.specs.Label.{points_of, mnemonics, registers, equations, comparisons, hazards}
use Rattle.rvs_demo.proofs.Points.{all_added}
use Rattle.rvs_demo.proofs.label.add_all.Goals as goal

pub returns : goal.returns
unfolding mnemonics registers equations comparisons hazards
returns c =
    all_added (map point_view c.args.points.now.items) _ _ _ _ _ _ _
    (points_of Mnemonic mnemonics) (points_of Rs1 registers) (points_of Rs2 registers)
    (points_of Rd registers) (points_of OpComb equations) (points_of ValComb comparisons)
    (points_of CrossComb hazards) c.in_ok-add_points.ensures c.in_ok-add_points-2.ensures
    c.in_ok-add_points-3.ensures c.in_ok-add_points-4.ensures c.in_ok-add_points-5.ensures
    c.in_ok-add_points-6.ensures c.in_ok-add_points-7.ensures
