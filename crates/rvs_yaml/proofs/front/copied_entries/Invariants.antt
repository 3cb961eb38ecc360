use Rattle.std.proofs.Common.{◌≡◌, take}
use Rattle.rvs_tree.specs.ValueView.{entries_view}
use Rattle.rvs_yaml.proofs.front.copied_entries.Given as goal

abbrev pub invariant-loop-written : goal.invariant-loop-written
invariant-loop-written l =
    entries_view l.list.entries.items ≡ entries_view (take l.written-index l.entries)
