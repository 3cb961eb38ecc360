use Rattle.rvs_normal.proofs.OneLabel.{text_is, example-read}
use Rattle.rvs_normal.proofs.laws.an_example_is_read_again.Goals as goal

pub returns-clause-text : goal.returns-clause-text
returns-clause-text c = text_is

pub returns-clause-again : goal.returns-clause-again
returns-clause-again c isa = example-read isa
