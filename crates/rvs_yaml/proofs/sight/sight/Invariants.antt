use Rattle.std.proofs.Common.{◌≡◌, ◌≤◌, ℕ, length, take}
use Rattle.rvs_tree.specs.Shown.{Shown}
use Rattle.rvs_yaml.specs.Reach as spec
use Rattle.rvs_yaml.specs.Seen.{TellsAt}
use Rattle.rvs_yaml.specs.StackView.{stack_view}
use Rattle.rvs_yaml.proofs.sight.sight.Given as goal

abbrev pub invariant-loop-i : goal.invariant-loop-i
invariant-loop-i l = record {
  inside : l.i ≤ length l.blocks;
  told : (f : Shown) × (n : ℕ) × TellsAt (stack_view (take l.i l.blocks)) l.seen f n
      × (spec.seen f n (stack_view (take l.i l.blocks)) ≡ spec.sight (stack_view l.blocks));
}

abbrev pub decreases-loop-i : goal.decreases-loop-i
decreases-loop-i l = l.i
