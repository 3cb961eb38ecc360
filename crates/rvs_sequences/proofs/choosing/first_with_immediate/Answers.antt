use Rattle.std.proofs.Common.{◌≡◌, ◌≤◌, ◌+◌, length, [], ◌∷◌, Some, None, arith}
use Rattle.std.specs.Prelude.{pos}
use Rattle.rvs_sequences.specs.Sequences.{over_registers, middle}
use Rattle.rvs_sequences.proofs.Choices.{over_length}
use Rattle.rvs_sequences.proofs.choosing.first_with_immediate.Goals as goal

pub returns-clause-cost : goal.returns-clause-cost
returns-clause-cost g c =
    let count : length (over_registers c.args.op (Some (pos 1)) middle middle (None ∷ [])) ≡ 64 =
    over_length c.args.op (Some (pos 1)) middle middle (None ∷ []) in
    let cost : c.first_over_rds.new.steps ≤ c.args.steps.now + 64 = c.first_over_rds.ensures.cost in
    omega arith
