use Rattle.std.proofs.Common.{refl}
use Rattle.rvs_insn.specs.declared.op.Op.TheVariants.{Lui}
use Rattle.rvs_insn.specs.Names.{op_of_name}
use Rattle.rvs_cross.specs.Alone.{AloneIsRead}
use Rattle.rvs_cross.specs.Parse.{parse}
use Rattle.rvs_cross.proofs.laws.one_mnemonic_is_read.Goals as goal

alone_is_read : AloneIsRead
unfolding parse op_of_name
alone_is_read Lui = refl
alone_is_read _ = refl

pub returns : goal.returns
returns c = alone_is_read
