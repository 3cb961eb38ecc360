-- Trees of which each map has each of its keys once.
use Rattle.std.specs.Prelude.{◌≡◌, true}
use Rattle.rvs_tree.specs.Data.{Data, scalar, sequence, mapping, Items, no_items, item, Entries}
use Rattle.rvs_tree.specs.Data.{no_entries, entry, pairs_of}
use Rattle.rvs_cgf.specs.Spelled.{keys_are_own}

abbrev mutual
  pub KeysOnce : Data → Type 0
  KeysOnce (scalar text line) = Unit {0}
  KeysOnce (sequence ds line) = ItemsOnce ds
  KeysOnce (mapping es line) = (keys_are_own (pairs_of es) ≡ true) × EntriesOnce es

  pub ItemsOnce : Items → Type 0
  ItemsOnce no_items = Unit {0}
  ItemsOnce (item d ds) = KeysOnce d × ItemsOnce ds

  pub EntriesOnce : Entries → Type 0
  EntriesOnce no_entries = Unit {0}
  EntriesOnce (entry k d es) = KeysOnce d × EntriesOnce es
