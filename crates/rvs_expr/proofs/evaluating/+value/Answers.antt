use Rattle.std.proofs.Common.{◌≡◌, ◌≤◌, ◌+◌, ◌*◌, ◌^◌, arith, rules, FitsSigned}
use Rattle.std.proofs.Math.Nat.{mul-le-mul}
use Rattle.std.specs.Int.{w128}
use Rattle.std.proofs.lemmas.Int.{to_z-of_z}
use Rattle.rvs_expr.specs.TypedView.{num_view}
use Rattle.rvs_expr.specs.Meaning.{bound}
use Rattle.rvs_expr.proofs.evaluating.+value.Goals as goal

pub value_of-plus-requires : goal.value_of-plus-requires
value_of-plus-requires t c =
    let a = c.deref-in-Sum.result.now in
    let b = c.deref-in-Sum-2.result.now in
    let h : bound (num_view a) + bound (num_view b) ≤ 2 ^ 100 = search rules in
    let fx : FitsSigned w128 c.operand-in-Sum.result = search rules in
    let fy : FitsSigned w128 c.operand-in-Sum-2.result = search rules in
    rw (to_z-of_z _ _ fx, to_z-of_z _ _ fy)
    (omega (
      arith,
      c.operand-in-Sum.ensures.within,
      c.operand-in-Sum-2.ensures.within,
    ))

pub value_of-less-requires : goal.value_of-less-requires
value_of-less-requires t c =
    let a = c.deref-in-Difference.result.now in
    let b = c.deref-in-Difference-2.result.now in
    let h : bound (num_view a) + bound (num_view b) ≤ 2 ^ 100 = search rules in
    let fx : FitsSigned w128 c.operand-in-Difference.result = search rules in
    let fy : FitsSigned w128 c.operand-in-Difference-2.result = search rules in
    rw (to_z-of_z _ _ fx, to_z-of_z _ _ fy)
    (omega (
      arith,
      c.operand-in-Difference.ensures.within,
      c.operand-in-Difference-2.ensures.within,
    ))

pub value_of-times-requires : goal.value_of-times-requires
value_of-times-requires t c =
    let a = c.deref-in-Product.result.now in
    let b = c.deref-in-Product-2.result.now in
    let h : bound (num_view a) * bound (num_view b) ≤ 2 ^ 100 = search rules in
    let fx : FitsSigned w128 c.operand-in-Product.result = search rules in
    let fy : FitsSigned w128 c.operand-in-Product-2.result = search rules in
    rw (to_z-of_z _ _ fx, to_z-of_z _ _ fy)
    (omega (
      arith,
      mul-le-mul c.operand-in-Product.ensures.within
          c.operand-in-Product-2.ensures.within,
    ))

pub value_of-returns-in-Sum-clause-within : goal.value_of-returns-in-Sum-clause-within
value_of-returns-in-Sum-clause-within t c =
    let a = c.deref-in-Sum.result.now in
    let b = c.deref-in-Sum-2.result.now in
    let whole : bound (num_view c.args.num.now) ≡ bound (num_view a) + bound (num_view b) =
    search rules in
    let fx : FitsSigned w128 c.operand-in-Sum.result = search rules in
    let fy : FitsSigned w128 c.operand-in-Sum-2.result = search rules in
    let fz : FitsSigned w128 c.plus.result = search rules in
    let within = simp to_z-of_z at c.plus.ensures.within in
    rw (to_z-of_z _ _ fz) (omega (
      arith,
      whole,
      within,
      c.operand-in-Sum.ensures.within,
      c.operand-in-Sum-2.ensures.within,
    ))

pub value_of-returns-in-Difference-clause-within : goal.value_of-returns-in-Difference-clause-within
value_of-returns-in-Difference-clause-within t c =
    let a = c.deref-in-Difference.result.now in
    let b = c.deref-in-Difference-2.result.now in
    let whole : bound (num_view c.args.num.now) ≡ bound (num_view a) + bound (num_view b) =
    search rules in
    let fx : FitsSigned w128 c.operand-in-Difference.result = search rules in
    let fy : FitsSigned w128 c.operand-in-Difference-2.result = search rules in
    let fz : FitsSigned w128 c.less.result = search rules in
    let within = simp to_z-of_z at c.less.ensures.within in
    rw (to_z-of_z _ _ fz) (omega (
      arith,
      whole,
      within,
      c.operand-in-Difference.ensures.within,
      c.operand-in-Difference-2.ensures.within,
    ))

pub value_of-returns-in-Product-clause-within : goal.value_of-returns-in-Product-clause-within
value_of-returns-in-Product-clause-within t c =
    let a = c.deref-in-Product.result.now in
    let b = c.deref-in-Product-2.result.now in
    let whole : bound (num_view c.args.num.now) ≡ bound (num_view a) * bound (num_view b) =
    search rules in
    let fx : FitsSigned w128 c.operand-in-Product.result = search rules in
    let fy : FitsSigned w128 c.operand-in-Product-2.result = search rules in
    let fz : FitsSigned w128 c.times.result = search rules in
    let within = simp to_z-of_z at c.times.ensures.within in
    rw (to_z-of_z _ _ fz) (omega (
      arith,
      whole,
      within,
      mul-le-mul c.operand-in-Product.ensures.within
          c.operand-in-Product-2.ensures.within,
    ))
