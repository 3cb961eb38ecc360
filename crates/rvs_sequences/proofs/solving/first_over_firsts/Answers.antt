use Rattle.std.proofs.Common.{◌*◌, map, length, sym, ◌∙◌, arith}
use Rattle.std.specs.Prelude.{flat_map}
use Rattle.rvs_cross.specs.CrossView.{place_view}
use Rattle.rvs_cross.specs.Windows.{with_second}
use Rattle.rvs_sequences.specs.Sequences.{count_of, first_solutions}
use Rattle.rvs_cross.proofs.Searching.{within_rows}
use Rattle.rvs_sequences.proofs.Solutions.{values_found, values_none}
use Rattle.rvs_sequences.proofs.solving.first_over_firsts.Goals as goal

pub returns-in_err-insns-clause-cost : goal.returns-in_err-insns-clause-cost
returns-in_err-insns-clause-cost g c =
    within_rows c.first_over_seconds.new.steps c.loop-first.steps c.args.steps.now
    c.loop-first.first-index (length c.args.firsts.now) (length c.args.seconds.now
    * (length c.args.thirds.now * count_of c.args.spec.now (map place_view c.args.places.now)))
    (omega arith) c.loop-first.invariant.cost c.in_err-insns.ensures.cost

pub returns-in-Some-clause-first : goal.returns-in-Some-clause-first
returns-in-Some-clause-first g c =
    values_found c.args.spec.now (map place_view c.args.places.now)
    (with_second c.args.seconds.now c.args.thirds.now) c.args.firsts.now c.loop-first.first-index _
    c.in-Some.insns (first_solutions c.args.spec.now (map place_view c.args.places.now)
    (flat_map (with_second c.args.seconds.now c.args.thirds.now) c.args.firsts.now)) (omega arith)
    c.loop-first.invariant.first (sym c.in-Some.is ∙ c.in_ok-insns.ensures.first)

pub returns-in-Some-clause-cost : goal.returns-in-Some-clause-cost
returns-in-Some-clause-cost g c =
    within_rows c.first_over_seconds.new.steps c.loop-first.steps c.args.steps.now
    c.loop-first.first-index (length c.args.firsts.now) (length c.args.seconds.now
    * (length c.args.thirds.now * count_of c.args.spec.now (map place_view c.args.places.now)))
    (omega arith) c.loop-first.invariant.cost c.in_ok-insns.ensures.cost

pub loop-first-preserved : goal.loop-first-preserved
loop-first-preserved g c = record {
  first = values_none c.args.spec.now (map place_view c.args.places.now)
      (with_second c.args.seconds.now c.args.thirds.now) c.args.firsts.now
      c.loop-first.first-index _
      (first_solutions c.args.spec.now (map place_view c.args.places.now)
      (flat_map (with_second c.args.seconds.now c.args.thirds.now) c.args.firsts.now)) (omega arith)
      c.loop-first.invariant.first (sym c.in-None.is ∙ c.in_ok-insns.ensures.first);
  cost = omega (arith, c.in_ok-insns.ensures.cost, c.loop-first.invariant.cost);
}
