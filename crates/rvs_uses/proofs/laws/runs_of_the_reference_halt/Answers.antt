use Rattle.rvs_uses.proofs.Halted.{runs-halt, logs-tell-runs, runs-are-limited, runs-are-bounded}
use Rattle.rvs_uses.proofs.laws.runs_of_the_reference_halt.Goals as goal

pub returns-clause-halts : goal.returns-clause-halts
returns-clause-halts c = runs-halt

pub returns-clause-logged : goal.returns-clause-logged
returns-clause-logged c = logs-tell-runs

pub returns-clause-limited : goal.returns-clause-limited
returns-clause-limited c = runs-are-limited

pub returns-clause-bounded : goal.returns-clause-bounded
returns-clause-bounded c = runs-are-bounded
