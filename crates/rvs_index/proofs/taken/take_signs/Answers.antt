use Rattle.std.proofs.Common.{arith}
use Rattle.rvs_index.proofs.taken.take_signs.Goals as goal

pub returns : goal.returns
returns c = omega (
  arith,
  c.three-first.ensures.value,
  c.three-second.ensures.value,
  c.three-third.ensures.value,
  c.order-values.ensures.value,
  c.equality-immediate.ensures.value,
  c.shift-second_shift.ensures.value,
  c.shift-third_shift.ensures.value,
  c.relation-rd_rs1.ensures.value,
  c.relation-rd_rs2.ensures.value,
  c.relation-rs1_rs2.ensures.value,
  c.zero-rd_zero.ensures.value,
  c.four-rest.ensures.value,
)
