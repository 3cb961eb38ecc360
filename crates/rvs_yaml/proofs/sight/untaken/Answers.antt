use Rattle.std.proofs.Common.{◌≡◌, true, refl, arith, subst, string_bytes, take}
use Rattle.rvs_tree.specs.Value.{has_key}
use Rattle.rvs_tree.proofs.Showing.{push-visible}
use Rattle.rvs_yaml.specs.Chain.{chain_keys}
use Rattle.rvs_yaml.specs.StackView.{stack_view}
use Rattle.rvs_yaml.proofs.Seeing.{at-taken}
use Rattle.rvs_yaml.proofs.sight.untaken.Goals as goal

pub loop-pair-preserved-then-is_taken_around : goal.loop-pair-preserved-then-is_taken_around
loop-pair-preserved-then-is_taken_around c = λ T h.
    let d = c.in-Some.pair in
    let keys = chain_keys (stack_view (take c.args.end c.args.blocks.now)) in
    let there = h (string_bytes d.key)
    (subst (λ k. has_key k keys ≡ true) c.as_str.ensures.value
    (c.is_taken_around.ensures c.if-is_taken_around.true)) in
    omega (
      arith,
      at-taken (has_key (string_bytes d.key) T) d.depth there,
      c.loop-pair.invariant T h,
      push-visible c.loop-pair.yielded _ d T refl,
    )

pub loop-pair-preserved : goal.loop-pair-preserved
loop-pair-preserved c = λ T h.
    let d = c.in-Some.pair in
    omega (
      arith,
      c.loop-pair.invariant T h,
      push-visible c.loop-pair.yielded _ d T refl,
      push-visible c.loop-pair.kept.items c.push.new.self.items d T c.in_ok-push.ensures.items,
    )
