use Rattle.std.proofs.Common.{◌≡◌, ◌∷◌, [], length, take, vec_len}
use Rattle.rvs_yaml.specs.Block.{found}
use Rattle.rvs_yaml.specs.Rising.{Rises, befores}
use Rattle.rvs_yaml.specs.Stack.{settled}
use Rattle.rvs_yaml.specs.StepParts.{bare}
use Rattle.rvs_yaml.specs.StackView.{block_at, anchored}
use Rattle.rvs_tree.specs.ValueView.{value_view}
use Rattle.rvs_yaml_text.specs.WordView.{word_view}
use Rattle.rvs_yaml.proofs.stack.settle.Given as goal

abbrev pub invariant-loop-blocks : goal.invariant-loop-blocks
invariant-loop-blocks l = record {
  rising : Rises (length l.anchors.anchors.items) (l.block.before ∷ befores l.blocks.items);
  same : settled (found (value_view l.value) []) (bare (block_at l.anchors.anchors.items l.block))
      (anchored (take l.block.before l.anchors.anchors.items) l.blocks.items) (word_view l.word)
      ≡ settled (found (value_view l.initial.value) [])
      (bare (block_at l.initial.anchors.anchors.items l.initial.block))
      (anchored (take l.initial.block.before l.initial.anchors.anchors.items)
      l.initial.blocks.items) (word_view l.word);
}

abbrev pub decreases-loop-blocks : goal.decreases-loop-blocks
decreases-loop-blocks l = vec_len l.blocks
