use Rattle.std.proofs.Common.{map, sym, ◌∙◌, arith}
use Rattle.rvs_cross.specs.CrossView.{place_view}
use Rattle.rvs_cross.specs.Windows.{with_third, with_second}
use Rattle.rvs_sequences.specs.Sequences.{first_solutions}
use Rattle.rvs_sequences.proofs.Solutions.{values_found, values_none}
use Rattle.rvs_sequences.proofs.solving.first_over_seconds.Goals as goal

pub returns-in-Some-clause-first : goal.returns-in-Some-clause-first
returns-in-Some-clause-first g c =
    values_found c.args.spec.now (map place_view c.args.places.now)
    (with_third c.args.thirds.now c.args.first) c.args.seconds.now c.loop-second.second-index _
    c.in-Some.insns (first_solutions c.args.spec.now (map place_view c.args.places.now)
    (with_second c.args.seconds.now c.args.thirds.now c.args.first)) (omega arith)
    c.loop-second.invariant.first (sym c.in-Some.is ∙ c.in_ok-insns.ensures.first)

pub loop-second-preserved : goal.loop-second-preserved
loop-second-preserved g c = record {
  first = values_none c.args.spec.now (map place_view c.args.places.now)
      (with_third c.args.thirds.now c.args.first) c.args.seconds.now c.loop-second.second-index _
      (first_solutions c.args.spec.now (map place_view c.args.places.now)
      (with_second c.args.seconds.now c.args.thirds.now c.args.first)) (omega arith)
      c.loop-second.invariant.first (sym c.in-None.is ∙ c.in_ok-insns.ensures.first);
  cost = omega (arith, c.in_ok-insns.ensures.cost, c.loop-second.invariant.cost);
}
