-- A mnemonic is known by its place in the table.
use Rattle.std.proofs.Common.{◌≡◌, Some, refl, sym, ap, ◌∙◌}
use Rattle.std.specs.Prelude.{slice_get}
use Rattle.rvs_insn.specs.declared.op.Op.{Op}
use Rattle.rvs_insn.specs.declared.op.Op.TheVariants.{Lui}
use Rattle.rvs_insn.specs.Table.{all_ops}
use Rattle.rvs_facts.specs.Mnemonics.{number}

-- the table has each mnemonic at its number
stands : (op : Op) → slice_get all_ops (number op) ≡ Some op
stands Lui = refl
stands _ = refl

some-is : (a b : Op) → Some a ≡ Some b → a ≡ b
some-is a b e = cc

pub same_number : (a b : Op) → number a ≡ number b → a ≡ b
same_number a b e = some-is a b (sym (stands a) ∙ ap (slice_get all_ops) e ∙ stands b)
