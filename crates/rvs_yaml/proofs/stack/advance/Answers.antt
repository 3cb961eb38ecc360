use Rattle.std.proofs.Common.{[], take, refl}
use Rattle.rvs_yaml.specs.Block.{found}
use Rattle.rvs_yaml.specs.StepParts.{put_content, advanced_content}
use Rattle.rvs_yaml.specs.StepView.{done_content}
use Rattle.rvs_yaml.specs.StackView.{block_at, anchored}
use Rattle.rvs_tree.specs.ValueView.{value_view}
use Rattle.rvs_yaml_text.specs.WordView.{word_view, head_view}
use Rattle.rvs_yaml.proofs.Giving.{gives_same, fails_first}
use Rattle.rvs_yaml.proofs.Stepping.{block_with, advanced-put, then-parts}
use Rattle.rvs_yaml.proofs.stack.advance.Goals as goal

pub put-requires : goal.put-requires
put-requires c = c.requires

pub returns-in-Err-clause-given : goal.returns-in-Err-clause-given
returns-in-Err-clause-given c =
    let all = c.args.anchors.anchors.items in
    let bs = anchored (take c.args.block.before all) c.args.blocks.items in
    let b = block_at all c.args.block in
    let v = value_view c.args.value in
    let w = word_view c.args.word in
    let h = head_view c.head-head.result in
    fails_first _ (advanced_content b.done b.column v w)
    (λ q. put_content (block_with b.line b.column q.0 b.anchors) bs h q.1) _
    (advanced-put b (found v []) bs w h b.anchors c.head-head.ensures refl) c.in-Err.ensures.given

pub returns-in-Ok-clause-given : goal.returns-in-Ok-clause-given
returns-in-Ok-clause-given c =
    let all = c.args.anchors.anchors.items in
    let bs = anchored (take c.args.block.before all) c.args.blocks.items in
    let b = block_at all c.args.block in
    let v = value_view c.args.value in
    let w = word_view c.args.word in
    let h = head_view c.head-head.result in
    let p = done_content (c.in-Ok.done, c.in-Ok.content) in
    gives_same _ _ _ _ (then-parts (advanced_content b.done b.column v w) p
    (λ q. put_content (block_with b.line b.column q.0 b.anchors) bs h q.1) _
    (advanced-put b (found v []) bs w h b.anchors c.head-head.ensures refl)
    c.in-Ok.ensures.given) c.put.ensures
