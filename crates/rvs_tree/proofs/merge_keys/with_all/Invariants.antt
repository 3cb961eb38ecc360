use Rattle.std.proofs.Common.{◌≡◌, ℕ, List, true, length}
use Rattle.std.specs.Prelude.{◌||◌}
use Rattle.std.specs.BTreeSet.{contains_text}
use Rattle.rvs_tree.proofs.merge_keys.with_all.Given as goal

abbrev pub invariant-loop-key : goal.invariant-loop-key
invariant-loop-key l = (k : List ℕ) → (contains_text l.set k || contains_text l.from k) ≡ true
    → (contains_text l.fn.into k || contains_text l.fn.from k) ≡ true

abbrev pub decreases-loop-key : goal.decreases-loop-key
decreases-loop-key l = length l.from.keys
