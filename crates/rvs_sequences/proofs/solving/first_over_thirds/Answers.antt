use Rattle.std.proofs.Common.{map, sym, ◌∙◌, arith}
use Rattle.rvs_cross.specs.CrossView.{place_view}
use Rattle.rvs_cross.specs.Windows.{with_third}
use Rattle.rvs_sequences.specs.Sequences.{first_solutions}
use Rattle.rvs_sequences.proofs.Solutions.{third_found, third_none}
use Rattle.rvs_sequences.proofs.solving.first_over_thirds.Goals as goal

pub returns-in-Some-clause-first : goal.returns-in-Some-clause-first
returns-in-Some-clause-first g c =
    third_found c.args.spec.now (map place_view c.args.places.now) c.args.first c.args.second
    c.args.thirds.now c.loop-third.third-index _ c.in-Some.insns
    (first_solutions c.args.spec.now (map place_view c.args.places.now)
    (with_third c.args.thirds.now c.args.first c.args.second)) (omega arith)
    c.loop-third.invariant.first (sym c.in-Some.is ∙ c.in_ok-insns.ensures.first)

pub loop-third-preserved : goal.loop-third-preserved
loop-third-preserved g c = record {
  first = third_none c.args.spec.now (map place_view c.args.places.now) c.args.first c.args.second
      c.args.thirds.now c.loop-third.third-index _
      (first_solutions c.args.spec.now (map place_view c.args.places.now)
      (with_third c.args.thirds.now c.args.first c.args.second)) (omega arith)
      c.loop-third.invariant.first (sym c.in-None.is ∙ c.in_ok-insns.ensures.first);
  cost = omega (arith, c.in_ok-insns.ensures.cost, c.loop-third.invariant.cost);
}
