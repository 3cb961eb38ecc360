use Rattle.std.proofs.Common.{◌≡◌, ◌+◌, ◌-◌, ◌<◌, ℕ, subst, arith, length, take, get_or}
use Rattle.rvs_tree.specs.Shown.{Shown}
use Rattle.rvs_yaml.specs.Reach as spec
use Rattle.rvs_yaml.specs.Seen.{TellsAt}
use Rattle.rvs_yaml.specs.StackView.{stack_view}
use Rattle.rvs_yaml.proofs.Chaining.{same-at}
use Rattle.rvs_yaml.proofs.Seeing.{tells-first, tells-next}
use Rattle.rvs_yaml.proofs.sight.sight.Goals as goal

pub loop-i-init : goal.loop-i-init
loop-i-init c =
    let bs = c.args.blocks.now in
    record {
      inside = omega arith;
      told = tells-first bs c.in-Some.top.now c.in_ok-own.own c.in_ok-seen.seen
          c.in-Some.ensures.value c.in_ok-own.ensures c.in_ok-seen.ensures;
    }

pub loop-i-preserved : goal.loop-i-preserved
loop-i-preserved c =
    let bs = c.args.blocks.now in
    let m = c.loop-i.i - 1 in
    let top = c.in-Some.top.now in
    let one : c.loop-i.i ≡ m + 1 = omega arith in
    let here : m < length bs = omega (arith, c.loop-i.invariant.inside) in
    let told = subst (λ i. (f : Shown) × (n : ℕ)
    × TellsAt (stack_view (take i bs)) c.loop-i.seen f n
    × (spec.seen f n (stack_view (take i bs)) ≡ spec.sight (stack_view bs))) one
    c.loop-i.invariant.told in
    record {
      inside = omega (arith, c.loop-i.invariant.inside);
      told = tells-next bs m top c.loop-i.seen c.in_ok-seen-2.seen
          (spec.sight (stack_view bs)) here told (c.in_ok-seen-2.ensures (get_or bs m top)
          (same-at bs m top (get_or bs m top) here));
    }
