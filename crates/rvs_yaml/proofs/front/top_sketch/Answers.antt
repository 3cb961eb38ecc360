use Rattle.std.proofs.Common.{◌≡◌, ◌∙◌, sym, ap, subst, true, false}
use Rattle.std.specs.Prelude.{if◌then◌else◌, []}
use Rattle.rvs_tree.specs.Value.{Value, scalar_value}
use Rattle.rvs_tree.specs.ValueView.{value_view}
use Rattle.rvs_yaml_text.specs.Word.{opens_block}
use Rattle.rvs_yaml_text.specs.WordView.{sort_view}
use Rattle.rvs_yaml.specs.Front.{own_value}
use Rattle.rvs_yaml.specs.Sketched.{SketchedAs}
use Rattle.rvs_yaml.specs.StepParts.{closed_value}
use Rattle.rvs_yaml.specs.StackView.{own_view, done_view, open_view}
use Rattle.rvs_yaml.proofs.front.top_sketch.Goals as goal

pub returns-then-opens_block : goal.returns-then-opens_block
returns-then-opens_block c =
    let top = c.args.top.now in
    let opens : opens_block (sort_view top.head.sort) ≡ true =
    sym c.opens_block.ensures ∙ c.if-opens_block.true in
    let same : own_value (open_view top) ≡ scalar_value [] top.head.line = ap
    (λ t. if t then scalar_value [] top.head.line else own_view top.head.line top.own) opens in
    subst (λ (v : Value). SketchedAs c.closed_sketch.result
    (closed_value (done_view top.block.done) top.block.line v)) (sym same)
    (c.closed_sketch.ensures (scalar_value [] top.head.line) (c.empty_sketch.ensures top.head.line))

pub returns-in-Some : goal.returns-in-Some
returns-in-Some c =
    let top = c.args.top.now in
    let leaf : opens_block (sort_view top.head.sort) ≡ false =
    sym c.opens_block.ensures ∙ c.if-opens_block.false in
    let same : own_value (open_view top) ≡ value_view c.in-Some.own.value =
    ap (λ t. if t then scalar_value [] top.head.line else own_view top.head.line top.own) leaf
    ∙ ap (own_view top.head.line) c.in-Some.is in
    let here : value_view c.deref.result.now ≡ value_view c.in-Some.own.value =
    ap value_view c.deref.ensures in
    subst (λ (v : Value). SketchedAs c.leaf_sketch.result
    (closed_value (done_view top.block.done) top.block.line v)) (here ∙ sym same)
    c.leaf_sketch.ensures

pub returns-in-None : goal.returns-in-None
returns-in-None c =
    let top = c.args.top.now in
    let leaf : opens_block (sort_view top.head.sort) ≡ false =
    sym c.opens_block.ensures ∙ c.if-opens_block.false in
    let same : own_value (open_view top) ≡ scalar_value [] top.head.line =
    ap (λ t. if t then scalar_value [] top.head.line else own_view top.head.line top.own) leaf
    ∙ ap (own_view top.head.line) c.in-None.is in
    subst (λ (v : Value). SketchedAs c.closed_sketch-in-None.result
    (closed_value (done_view top.block.done) top.block.line v)) (sym same)
    (c.closed_sketch-in-None.ensures (scalar_value [] top.head.line)
    (c.empty_sketch-in-None.ensures top.head.line))
