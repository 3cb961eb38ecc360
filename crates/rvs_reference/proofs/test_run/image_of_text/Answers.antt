use Rattle.rvs_reference.proofs.Accepts.{Accepts-stops}
use Rattle.rvs_reference.proofs.test_run.image_of_text.Goals as goal

pub returns : goal.returns
returns c = Accepts-stops _ _ _ _ _ c.assemble.ensures.answer c.accepted.ensures
