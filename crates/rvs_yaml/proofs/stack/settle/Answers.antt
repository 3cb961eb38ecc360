use Rattle.std.proofs.Common.{◌≡◌, ◌-◌, [], arith, ◌∙◌, sym, ap, subst, refl, true, false, length}
use Rattle.std.proofs.Common.{take}
use Rattle.std.specs.Prelude.{slice_get}
use Rattle.std.proofs.lemmas.List.{append-nil}
use Rattle.rvs_tree.specs.ValueView.{value_view}
use Rattle.rvs_yaml.specs.Block.{found}
use Rattle.rvs_yaml.specs.Stack.{advanced, noted, settled}
use Rattle.rvs_yaml.specs.StepParts.{bare, closed_value}
use Rattle.rvs_yaml.specs.StackView.{block_at, open_at, anchored}
use Rattle.rvs_yaml_text.specs.WordView.{word_view, head_view}
use Rattle.rvs_yaml.proofs.Giving.{fails_first, gives_same}
use Rattle.rvs_yaml.proofs.Segments.{anchored-push, settled-closing, closes-over}
use Rattle.rvs_yaml.proofs.Segments.{Closing, closes-top, none-closes, settled-stays}
use Rattle.rvs_yaml.proofs.stack.settle.Goals as goal
use Rattle.rvs_yaml.proofs.stack.settle.Goals.{else-loop-blocks-test}
use Rattle.rvs_yaml.proofs.stack.settle.Goals.{then-loop-blocks-test+in_default}

pub loop-blocks-preserved : goal.loop-blocks-preserved
loop-blocks-preserved c =
    let l = c.loop-blocks in
    let w = word_view c.args.word in
    let k = closes-over (value_view l.value) l.block c.in-Some.outer l.blocks.items
    c.pop.new.self.items l.anchors.anchors.items c.closed_named.result c.in-Ok.closed
    c.in-Ok.kept c.in-Some.outer.block w
    (subst (λ xs. Closing (slice_get xs (length xs - 1)) w true) c.as_slice.ensures.value
    c.loop-blocks-test.ensures.inner)
    c.in-Some.ensures.items l.invariant.rising c.in-Ok.is refl
    c.closed_named.ensures.given c.closed_named.ensures.named in
    record { rising = k.0; same = k.1 ∙ l.invariant.same }

pub returns-in-Err : goal.returns-in-Err
returns-in-Err c =
    let w = word_view c.args.word in
    let outer = c.in-Some.outer in
    let l = c.loop-blocks in
    let all = l.anchors.anchors.items in
    let n = l.block.before in
    let b = block_at all l.block in
    let v = value_view l.value in
    let rest = c.pop.new.self.items in
    let around = open_at (take n all) outer in
    let below = anchored (take outer.block.before (take n all)) rest in
    let name = (head_view outer.head).anchor in
    let above = closes-top l.blocks.items rest outer w c.in-Some.ensures.items
    (subst (λ xs. Closing (slice_get xs (length xs - 1)) w true) c.as_slice.ensures.value
    c.loop-blocks-test.ensures.inner) in
    fails_first _ (closed_value b.done b.line v)
    (λ x. settled (noted name (found x b.anchors)) around below w) _
    (sym (settled-closing b v around below w above)
    ∙ sym (ap (λ s. settled (found v []) (bare b) s w)
    (ap (anchored (take n all)) c.in-Some.ensures.items ∙ anchored-push (take n all) rest outer))
    ∙ l.invariant.same) c.in-Err.ensures.given

pub returns : goal.returns
returns c =
    let l = c.loop-blocks in
    let all = take l.block.before l.anchors.anchors.items in
    let b = bare (block_at l.anchors.anchors.items l.block) in
    let g = found (value_view l.value) [] in
    let w = word_view c.args.word in
    let xs = l.blocks.items in
    let stays : advanced b g (anchored all c.loop-blocks-test.blocks.items) w
    ≡ settled g b (anchored all xs) w =
    elim c.loop-blocks-test.branch [
      | else-loop-blocks-test x ↦
          ap (λ bs. advanced b g (anchored all bs.items) w) x.blocks-is
          ∙ settled-stays g b all xs w (subst (λ bs. Closing (slice_get bs (length bs - 1)) w false)
          c.as_slice.ensures.value x.loop-blocks-test.ensures.inner)
      | then-loop-blocks-test+in_default x ↦
          ap (λ bs. advanced b g (anchored all bs.items) w) x.blocks-is
          ∙ ap (λ bs. advanced b g (anchored all bs) w)
          (sym (x.in_default.ensures.items ∙ append-nil x.pop.new.self.items))
          ∙ settled-stays g b all xs w
          (none-closes xs w (omega (arith, x.in_default.ensures.cases.0, l.blocks.ok.0)))
    ] in
    gives_same _ _ _ _ (stays ∙ l.invariant.same) c.advance.ensures.given
