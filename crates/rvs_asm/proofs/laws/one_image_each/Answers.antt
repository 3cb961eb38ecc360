use Rattle.rvs_asm.proofs.Stands.{one_image, image_answered}
use Rattle.rvs_asm.proofs.laws.one_image_each.Goals as goal

pub returns-clause-one : goal.returns-clause-one
returns-clause-one c = one_image

pub returns-clause-answered : goal.returns-clause-answered
returns-clause-answered c = image_answered
