use Rattle.std.proofs.Common.{◌≡◌, ◌+◌, ◌-◌, ◌∙◌, sym, ap, arith, length, min, take, add-one, false}
use Rattle.rvs_tree.specs.Data.{members_of, is_scalar}
use Rattle.rvs_tree.specs.Bound.{members_depth}
use Rattle.rvs_tree.specs.TreeView.{view}
use Rattle.rvs_tree.proofs.Sums.{take_whole}
use Rattle.rvs_tree.proofs.Depths.{depth-members, take-get}
use Rattle.rvs_tree.proofs.members.+depth_up_to.Goals as goal

pub loop-i-preserved : goal.loop-i-preserved
loop-i-preserved t c =
    let ms = members_of (view c.args.tree.now) in
    let before : c.loop-i.deepest ≡ min (members_depth (take c.loop-i.i ms)) (c.args.most - 1) =
    c.loop-i.invariant in
    let more : c.max-deepest.result
    ≡ min (members_depth (take (c.loop-i.i + 1) ms)) (c.args.most - 1) =
    rw add-one (omega (
      arith,
      before,
      c.max-deepest.ensures,
      c.depth_up_to.ensures,
      take-get ms c.loop-i.i (view c.item.result.now) c.item.ensures,
    )) in
    more

pub returns : goal.returns
returns t c =
    let d = view c.args.tree.now in
    let ms = members_of d in
    let before : c.loop-i.deepest ≡ min (members_depth (take c.loop-i.i ms)) (c.args.most - 1) =
    c.loop-i.invariant in
    let inner : is_scalar d ≡ false = sym c.is_scalar.ensures ∙ c.if-is_scalar.false in
    let all : c.loop-i.i ≡ length ms =
    omega (arith, c.len-i-end.ensures, c.loop-i.auto.i-end, c.loop-i-test.false) in
    omega (
      arith,
      before,
      depth-members d inner,
      ap (λ n. members_depth (take n ms)) all,
      ap members_depth (take_whole ms),
    )
