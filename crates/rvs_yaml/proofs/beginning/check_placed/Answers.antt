use Rattle.std.proofs.Common.{rules, ◌≡◌, ◌-◌, ◌∙◌, sym, ap, subst, length, take, Some}
use Rattle.std.proofs.Common.{None, true}
use Rattle.std.specs.Prelude.{slice_get}
use Rattle.rvs_yaml.specs.Checks.{◌>>◌, check}
use Rattle.rvs_yaml.specs.Gives.{Agrees}
use Rattle.rvs_yaml.specs.Rising.{Rises, befores}
use Rattle.rvs_yaml.specs.StackView.{anchors_view, anchored}
use Rattle.rvs_yaml.specs.StepParts.{looked_up, own_content, placed}
use Rattle.rvs_yaml_text.specs.Word.{is_below, opens_block}
use Rattle.rvs_yaml_text.specs.WordView.{word_view, head_view}
use Rattle.rvs_yaml_text.specs.declared.kind.YamlKind.TheVariants.{Unsupported}
use Rattle.rvs_yaml.proofs.Deciding.{placed-none, placed-below}
use Rattle.rvs_yaml.proofs.Segments.{last-whole}
use Rattle.rvs_yaml.proofs.Sketching.{none-last}
use Rattle.rvs_yaml.proofs.beginning.check_placed.Goals as goal

pub returns-in_default : goal.returns-in_default
returns-in_default c =
    let s = c.args.stack.now in
    let none = subst (λ xs. None ≡ slice_get xs (length xs - 1)) c.as_slice-blocks.ensures.value
    c.in_default.ensures.value in
    subst (Agrees (λ u. u) c.check_shape.result) (sym (placed-none s.anchors.anchors.items
    s.blocks.items (word_view c.args.word.now) (none-last s.blocks.items none) s.rising))
    c.check_shape.ensures

pub returns : goal.returns
returns c =
    let s = c.args.stack.now in
    let all = s.anchors.anchors.items in
    let bs = s.blocks.items in
    let top = c.in-Some.top.now in
    let outer = take (length bs - 1) bs in
    let w = word_view c.args.word.now in
    let l = looked_up (anchors_view all) (own_content w.shape) in
    let below : is_below (head_view top.head) w ≡ true = search rules in
    let is = last-whole bs top
    (subst (λ xs. Some top ≡ slice_get xs (length xs - 1)) c.as_slice-blocks.ensures.value
    c.in-Some.ensures.value) in
    let opens : opens_block (head_view top.head).sort ≡ true = search rules in
    subst (Agrees (λ u. u) c.check_shape-2.result)
    (sym (ap (λ xs. placed (anchored all xs) w) is ∙ placed-below all outer top w
    below
    (subst (λ xs. Rises (length all) (befores xs)) is s.rising)
    ∙ ap (λ b. check b Unsupported >> l) opens)) c.check_shape-2.ensures
