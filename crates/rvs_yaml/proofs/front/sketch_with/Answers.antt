use Rattle.std.proofs.Common.{◌≡◌, ◌+◌, ◌-◌, ◌<◌, ap, subst, arith, length, take}
use Rattle.std.proofs.lemmas.Result.{err_from_is_err_and}
use Rattle.rvs_tree.specs.Value.{Value}
use Rattle.rvs_tree.proofs.Sums.{take_whole}
use Rattle.rvs_yaml.specs.Front.{ends}
use Rattle.rvs_yaml.specs.Sketched.{IsSketch}
use Rattle.rvs_yaml.specs.StackView.{stack_view}
use Rattle.rvs_yaml.proofs.Sketching.{sketch-err, sketch-ok, ended-sketch}
use Rattle.rvs_yaml.proofs.front.sketch_with.Goals as goal

pub loop-i-init : goal.loop-i-init
loop-i-init c = record {
  inside = omega arith;
  sketched = λ v s. (v, s, ap (λ xs. ends v (stack_view xs)) (take_whole c.args.blocks.now));
}

pub returns-in_err-sketch : goal.returns-in_err-sketch
returns-in_err-sketch c = λ v s.
    let bs = c.args.blocks.now in
    let m = c.loop-i.i - 1 in
    let one : c.loop-i.i ≡ m + 1 = omega arith in
    let here : m < length bs = omega (arith, c.loop-i.invariant.inside) in
    let sketched = subst (λ n. (w : Value) × IsSketch w c.loop-i.sketch
    × (ends w (stack_view (take n bs)) ≡ ends v (stack_view bs))) one
    (c.loop-i.invariant.sketched v s) in
    let p = err_from_is_err_and c.from_residual.result c.from_residual.ensures.1 in
    rw (p.1, p.2) (sketch-err bs m c.index-blocks-i.result c.loop-i.sketch (ends v (stack_view bs))
    _ here sketched c.in_err-sketch.ensures)

pub loop-i-preserved : goal.loop-i-preserved
loop-i-preserved c =
    let bs = c.args.blocks.now in
    let m = c.loop-i.i - 1 in
    let one : c.loop-i.i ≡ m + 1 = omega arith in
    let here : m < length bs = omega (arith, c.loop-i.invariant.inside) in
    record {
      inside = omega (arith, c.loop-i.invariant.inside);
      sketched = λ v s.
          let sketched = subst (λ n. (w : Value) × IsSketch w c.loop-i.sketch
          × (ends w (stack_view (take n bs)) ≡ ends v (stack_view bs))) one
          (c.loop-i.invariant.sketched v s) in
          sketch-ok bs m c.index-blocks-i.result c.loop-i.sketch c.in_ok-sketch.sketch
          (ends v (stack_view bs)) here sketched c.in_ok-sketch.ensures;
    }

pub returns : goal.returns
returns c = λ v s. ended-sketch c.args.blocks.now c.loop-i.i c.loop-i.sketch
    (ends v (stack_view c.args.blocks.now)) (omega arith) (c.loop-i.invariant.sketched v s)
