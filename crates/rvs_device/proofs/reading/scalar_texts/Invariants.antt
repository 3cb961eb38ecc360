use Rattle.std.proofs.Common.{◌≡◌, true, map, take}
use Rattle.std.specs.List.{list_all}
use Rattle.rvs_tree.specs.Data.{is_scalar, members_of, text_of}
use Rattle.rvs_tree.specs.TreeView.{view}
use Rattle.rvs_device.proofs.reading.scalar_texts.Given as goal

abbrev pub invariant-loop-i : goal.invariant-loop-i
invariant-loop-i l = record {
  texts : l.texts ≡ map text_of (take l.i (members_of (view l.entry)));
  scalars : list_all is_scalar (take l.i (members_of (view l.entry))) ≡ true;
}
