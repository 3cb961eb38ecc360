use Rattle.rvs_isa.proofs.Canonical.{canonical_accepted}
use Rattle.rvs_isa.proofs.laws.canonical_texts_are_accepted.Goals as goal

pub returns : goal.returns
returns c = canonical_accepted
