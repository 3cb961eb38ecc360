use Rattle.std.proofs.Common.{◌≡◌, [], drop}
use Rattle.rvs_tree.specs.Value.{resolved, explicit_keys}
use Rattle.rvs_tree.specs.ValueView.{entries_view}
use Rattle.rvs_tree.specs.PairsView.{pairs_view}
use Rattle.rvs_tree.proofs.merged.unmerged_pairs.Given as goal

abbrev pub invariant-loop-written : goal.invariant-loop-written
invariant-loop-written l =
    resolved (explicit_keys (entries_view l.entries)) (pairs_view l.pairs)
    (entries_view (drop l.written-index l.entries))
    ≡ resolved (explicit_keys (entries_view l.entries)) [] (entries_view l.entries)
