use Rattle.std.proofs.Common.{◌≡◌, ◌≤◌, length, take}
use Rattle.rvs_tree.specs.Value.{Value}
use Rattle.rvs_yaml.specs.Front.{ends}
use Rattle.rvs_yaml.specs.Sketched.{IsSketch}
use Rattle.rvs_yaml.specs.StackView.{stack_view}
use Rattle.rvs_yaml.proofs.front.sketch_with.Given as goal

abbrev pub invariant-loop-i : goal.invariant-loop-i
invariant-loop-i l = record {
  inside : l.i ≤ length l.blocks;
  sketched : (v : Value) → IsSketch v l.fn.own → (w : Value) × IsSketch w l.sketch
      × (ends w (stack_view (take l.i l.blocks)) ≡ ends v (stack_view l.blocks));
}

abbrev pub decreases-loop-i : goal.decreases-loop-i
decreases-loop-i l = l.i
