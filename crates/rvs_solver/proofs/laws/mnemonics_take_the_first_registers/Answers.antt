use Rattle.rvs_insn.specs.declared.op.Op.TheVariants.{Add}
use Rattle.rvs_solver.proofs.Mnemonics.{first_of_mnemonic}
use Rattle.rvs_solver.proofs.laws.mnemonics_take_the_first_registers.Goals as goal

pub returns-clause-any : goal.returns-clause-any
returns-clause-any c spec op h = first_of_mnemonic spec op h

pub returns-clause-add : goal.returns-clause-add
returns-clause-add c spec = first_of_mnemonic spec Add (λ e. cc)
