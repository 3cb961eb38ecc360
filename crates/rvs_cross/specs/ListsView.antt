-- What the code's three lists stand for.
use Rattle.rvs_cross.specs.Lists as spec
use Rattle.rvs_cross.specs.declared.lists.Lists.{Lists}

abbrev pub lists_view : Lists → spec.Lists
lists_view l = record {
  mnemonics = l.mnemonics.now;
  assignments = l.assignments.now;
  conditions = l.conditions.now;
}
