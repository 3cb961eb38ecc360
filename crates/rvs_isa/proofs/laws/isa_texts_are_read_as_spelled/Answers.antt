use Rattle.rvs_isa.proofs.Grammar.{read_as_spelled}
use Rattle.rvs_isa.proofs.laws.isa_texts_are_read_as_spelled.Goals as goal

pub returns : goal.returns
returns c = read_as_spelled
