-- What a cross point asks of each of its places.
use Rattle.std.specs.Prelude.{List, Option}
use Rattle.rvs_insn.specs.declared.op.Op.{Op}
use Rattle.rvs_expr.specs.Typed.{Formula}
use Rattle.rvs_cross.specs.declared.cross.Assignment.{Assignment}

-- the mnemonics that it lists, none where any will do; what it says of the variables; and its
-- expression over registers, where it has one
pub record Place : Type 0 where
  pub ops : Option (List Op)
  pub sets : List Assignment
  pub condition : Option Formula
