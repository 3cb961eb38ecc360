-- The first place of a cross point.
use Rattle.std.specs.Prelude.{List, [], ◌∷◌, Option, None}
use Rattle.rvs_cross.specs.Cross.{Place}
use Rattle.rvs_insn.specs.declared.op.Op.{Op}

-- the mnemonics that it lists, none where any will do
abbrev pub first_ops : List Place → Option (List Op)
first_ops [] = None
first_ops (p ∷ ps) = p.ops
