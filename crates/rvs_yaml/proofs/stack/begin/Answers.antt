use Rattle.std.proofs.Common.{◌≡◌, [], ◌∙◌, ap, subst, arith, length, take, drop}
use Rattle.std.proofs.lemmas.List.{take_all, drop_all}
use Rattle.rvs_yaml.specs.Rising.{Rises, befores}
use Rattle.rvs_yaml.specs.StepParts.{put_content}
use Rattle.rvs_yaml.specs.StepView.{done_content}
use Rattle.rvs_yaml.specs.StackView.{anchors_view, anchored}
use Rattle.rvs_yaml_text.specs.WordView.{word_view, head_view}
use Rattle.rvs_yaml.proofs.Giving.{gives_same}
use Rattle.rvs_yaml.proofs.Stepping.{block_with, begins-put}
use Rattle.rvs_yaml.proofs.stack.begin.Goals as goal

pub put-requires : goal.put-requires
put-requires c =
    let all = c.args.anchors.anchors.items in
    let n = c.len-before.result in
    let same : length all ≡ n =
    omega (arith, c.len-before.ensures, c.args.anchors.anchors.ok.0) in
    (omega (arith, same), subst (λ m. Rises m (befores c.args.blocks.items)) same c.requires)

pub returns-in-Ok : goal.returns-in-Ok
returns-in-Ok c =
    let all = c.args.anchors.anchors.items in
    let n = c.len-before.result in
    let bs = c.args.blocks.items in
    let h = head_view c.head-head.result in
    let p = done_content (c.in-Ok.done, c.in-Ok.content) in
    let same : n ≡ length all =
    omega (arith, c.len-before.ensures, c.args.anchors.anchors.ok.0) in
    let whole : take n all ≡ all = take_all n all (omega (arith, same)) in
    let none : drop n all ≡ [] = drop_all n all (omega (arith, same)) in
    gives_same _ _ _ _
    (ap (λ xs. put_content (block_with h.line h.column p.0 (anchors_view xs))
    (anchored (take n all) bs) h p.1) none
    ∙ ap (λ xs. put_content (block_with h.line h.column p.0 []) (anchored xs bs) h p.1) whole
    ∙ begins-put (anchored all bs) (word_view c.args.word) h p c.head-head.ensures
    c.in-Ok.ensures) c.put.ensures
