use Rattle.rvs_normal.proofs.ReadAgain.{read-again, short-keeps, own-admitted}
use Rattle.rvs_normal.proofs.laws.normal_text_is_read_again.Goals as goal

pub returns-clause-again : goal.returns-clause-again
returns-clause-again c isa other families bytes tree groups a g keeps admits =
    read-again isa other families bytes tree groups a g keeps admits

pub returns-clause-short : goal.returns-clause-short
returns-clause-short c isa families bytes tree groups a g short =
    short-keeps isa families bytes tree groups a g short

pub returns-clause-own_core : goal.returns-clause-own_core
returns-clause-own_core c isa families bytes tree groups a g =
    own-admitted isa families bytes tree groups a g
