use Rattle.rvs_asm.proofs.Stands.{parts_make_address}
use Rattle.rvs_asm.proofs.laws.parts_make_the_address.Goals as goal

pub returns : goal.returns
returns c = parts_make_address
