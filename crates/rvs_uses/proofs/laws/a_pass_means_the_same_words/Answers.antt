use Rattle.rvs_uses.proofs.Compares.{passes-the-same}
use Rattle.rvs_uses.proofs.laws.a_pass_means_the_same_words.Goals as goal

pub returns : goal.returns
returns c = passes-the-same
