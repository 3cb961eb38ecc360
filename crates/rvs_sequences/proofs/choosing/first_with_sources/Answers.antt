use Rattle.std.proofs.Common.{◌≡◌, ◌≤◌, ◌+◌, length, None, arith}
use Rattle.rvs_sequences.specs.Sequences.{over_registers, middle}
use Rattle.rvs_sequences.proofs.Choices.{over_length}
use Rattle.rvs_sequences.proofs.choosing.first_with_sources.Goals as goal

pub returns-clause-cost : goal.returns-clause-cost
returns-clause-cost g c =
    let count : length (over_registers c.args.op None middle middle middle) ≡ 512 =
    over_length c.args.op None middle middle middle in
    let cost : c.first_over_rds.new.steps ≤ c.args.steps.now + 512 =
    c.first_over_rds.ensures.cost in
    omega arith
