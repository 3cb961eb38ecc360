use Rattle.rvs_inputs.proofs.Accepting.{Meets-stops}
use Rattle.rvs_plain.proofs.comparing.check_words.Goals as goal

pub returns : goal.returns
returns c = λ w. Meets-stops _ _ _ _ _ w c.read_words.ensures c.accepted.ensures
