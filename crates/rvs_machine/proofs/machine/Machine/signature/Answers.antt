use Rattle.std.proofs.Common.{ap, arith}
use Rattle.rvs_machine.specs.Machine.{Whole}
use Rattle.rvs_machine.proofs.Words.{word_more}
use Rattle.rvs_machine.proofs.machine.Machine.signature.Goals as goal

pub overflow_sub-first : goal.overflow_sub-first
overflow_sub-first c =
    let base = ap (λ (m : Whole). m.setup.isa.memory.data_base) c.self.view_is in
    omega (arith, base)

pub overflow_sub-count : goal.overflow_sub-count
overflow_sub-count c = omega arith

pub overflow_mul-index : goal.overflow_mul-index
overflow_mul-index c = omega arith

pub overflow_add-first : goal.overflow_add-first
overflow_add-first c = omega arith

pub word_in-requires : goal.word_in-requires
word_in-requires c =
    let base = ap (λ (m : Whole). m.setup.isa.memory.data_base) c.self.view_is in
    omega (arith, base)

pub loop-index-preserved : goal.loop-index-preserved
loop-index-preserved c = grind (arith, word_more)
