use Rattle.std.proofs.Common.{ℕ, ◌≤◌, ◌+◌, max, min, length}
use Rattle.rvs_yaml_text.specs.Tokens.{tokens, tokens_of}
use Rattle.rvs_yaml.specs.Heights.{height, height_by, alike}
use Rattle.rvs_yaml.specs.StackView.{all_known, IsKeptUpTo}
use Rattle.rvs_yaml.proofs.height.flow_height.Given as goal

abbrev pub invariant-loop-left : goal.invariant-loop-left
invariant-loop-left l = record {
  reaches : min (max 1 (height (all_known l.known) 1 (tokens_of l.fn.text))) 33 ≤ max l.scan.reached
      (height (all_known l.known) l.scan.level
      (tokens l.left l.scan.closed l.scan.spaced l.scan.rest.now));
  kept : (most : ℕ) → IsKeptUpTo most l.known → max l.scan.reached (min (height_by (alike most)
      l.scan.level (tokens l.left l.scan.closed l.scan.spaced l.scan.rest.now)) 33)
      ≤ max 1 (min (height_by (alike most) 1 (tokens_of l.fn.text)) 33);
  low : l.scan.level + l.left ≤ length l.fn.text + 1;
  shallow : l.scan.reached ≤ 33;
}

abbrev pub decreases-loop-left : goal.decreases-loop-left
decreases-loop-left l = l.left
