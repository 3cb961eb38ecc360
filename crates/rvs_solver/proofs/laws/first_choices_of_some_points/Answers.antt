use Rattle.rvs_solver.proofs.SomePoints.{at_address, at_no_address, last_register, no_register}
use Rattle.rvs_solver.proofs.laws.first_choices_of_some_points.Goals as goal

pub returns-clause-address : goal.returns-clause-address
returns-clause-address c = at_address

pub returns-clause-other : goal.returns-clause-other
returns-clause-other c = at_no_address

pub returns-clause-last : goal.returns-clause-last
returns-clause-last c = last_register

pub returns-clause-none : goal.returns-clause-none
returns-clause-none c = no_register
