use Rattle.rvs_expr_text.specs.Reading.{start}
use Rattle.rvs_expr_text.proofs.Fronts.{refused-all, faults-of-fronts, begins-none}
use Rattle.rvs_expr_text.proofs.laws.refused_fronts_begin_no_expression.Goals as goal

pub returns-clause-refused : goal.returns-clause-refused
returns-clause-refused c ts more why none h = refused-all start ts more why none h

pub returns-clause-none : goal.returns-clause-none
returns-clause-none c ts more why t none h whole deep few =
    begins-none ts more why t none h whole deep few

pub returns-clause-faults : goal.returns-clause-faults
returns-clause-faults c ts column none = faults-of-fronts start ts column none
