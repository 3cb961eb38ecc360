use Rattle.rvs_uses.proofs.Made.{passes-by-spelling}
use Rattle.rvs_uses.proofs.laws.a_pass_means_the_reference_words.Goals as goal

pub returns : goal.returns
returns c = passes-by-spelling
