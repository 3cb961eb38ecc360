use Rattle.std.proofs.Common.{◌≡◌, ◌∷◌, ◌-◌, ◌∙◌, sym, ap, subst, length, take, Some, false}
use Rattle.std.proofs.lemmas.Result.{err_from_is_err_and}
use Rattle.rvs_base.specs.Answers.{seen}
use Rattle.rvs_tree.specs.ValueView.{value_view}
use Rattle.rvs_yaml_text.specs.Tokens.{tokens_of}
use Rattle.rvs_yaml_text.specs.Word.{opens_block}
use Rattle.rvs_yaml_text.specs.WordView.{bracket_view, sort_view}
use Rattle.rvs_yaml.specs.Filling.{filled}
use Rattle.rvs_tree.specs.Standin.{standin}
use Rattle.rvs_yaml.specs.Checks.{◌>>=◌}
use Rattle.rvs_yaml.specs.Flow.{flow_value}
use Rattle.rvs_yaml.specs.Gives.{Fails}
use Rattle.rvs_yaml.specs.Reader.{kept, Denies, DeniesFront}
use Rattle.rvs_yaml.specs.Rising.{Rises, befores}
use Rattle.rvs_yaml.specs.Front.{ends}
use Rattle.rvs_yaml.specs.StackView.{stack_view, open_at, anchored}
use Rattle.rvs_tree.specs.Value.{Value}
use Rattle.std.specs.Prelude.{slice_get}
use Rattle.rvs_yaml.proofs.Segments.{anchored-push, befores-push, known-put, ends-anchored}
use Rattle.rvs_yaml.proofs.Segments.{last-whole}
use Rattle.rvs_yaml.proofs.Paying.{denied-flow, denied-front}
use Rattle.rvs_yaml.proofs.fill.check_paid.Goals as goal

pub returns-in_err-thin : goal.returns-in_err-thin
returns-in_err-thin c =
    let s = c.args.stack.now in
    let bs = s.blocks.items in
    let all = s.anchors.anchors.items in
    let top = c.in-Some.top.now in
    let b = bracket_view c.args.bracket in
    let ts = tokens_of c.args.text.now in
    let outer = take (length bs - 1) bs in
    let is = last-whole bs top
    (subst (λ xs. Some top ≡ slice_get xs (length xs - 1)) c.as_slice-blocks.ensures.value
    c.in-Some.ensures.value) in
    let split = ap (anchored all) is ∙ anchored-push all outer top in
    let risen : Rises (length all) (top.block.before ∷ befores outer) =
    subst (Rises (length all)) (ap befores is ∙ befores-push outer top) s.rising in
    let known = known-put all top.block.before outer risen in
    let p = err_from_is_err_and c.from_residual.result
    c.from_residual.ensures.1 in
    rw (p.1, p.2)
    (subst (λ x. Fails c.in_err-thin.field-0.0 (filled (Some (b, ts)) x >>= kept)) (sym split)
    (denied-flow (open_at all top) (anchored (take top.block.before all) outer) b ts _
    (subst (λ xs. Fails c.in_err-thin.field-0.0 (seen standin (flow_value xs top.head.line b ts)))
    (sym known) c.in_err-thin.ensures)))

pub returns : goal.returns
returns c =
    let s = c.args.stack.now in
    let bs = s.blocks.items in
    let all = s.anchors.anchors.items in
    let top = c.in-Some.top.now in
    let b = bracket_view c.args.bracket in
    let ts = tokens_of c.args.text.now in
    let outer = take (length bs - 1) bs in
    let is = last-whole bs top
    (subst (λ xs. Some top ≡ slice_get xs (length xs - 1)) c.as_slice-blocks.ensures.value
    c.in-Some.ensures.value) in
    let rest = anchored (take top.block.before all) outer in
    let split = ap (anchored all) is ∙ anchored-push all outer top in
    let risen : Rises (length all) (top.block.before ∷ befores outer) =
    subst (Rises (length all)) (ap befores is ∙ befores-push outer top) s.rising in
    let known = known-put all top.block.before outer risen in
    let leaf : opens_block (sort_view top.head.sort) ≡ false =
    sym c.opens_block.ensures ∙ c.if-opens_block.false in
    let front : (v : Value) → ends v (stack_view c.as_slice-blocks.result.now)
    ≡ ends v (open_at all top ∷ rest) =
    λ v. ap (λ xs. ends v (stack_view xs)) c.as_slice-blocks.ensures.value
    ∙ sym (ends-anchored v all bs)
    ∙ ap (ends v) split in
    subst (λ x. Denies c.check_thin-checked.result (filled (Some (b, ts)) x)) (sym split)
    (denied-front c.check_thin-checked.result (open_at all top) rest b ts
    (value_view c.in_ok-thin.thin) leaf
    (ap (λ xs. seen standin (flow_value xs top.head.line b ts)) known ∙ c.in_ok-thin.ensures)
    (λ v e t. subst (DeniesFront c.check_thin-checked.result) (front v)
    (c.check_thin-checked.ensures top.head.line b
    v (sym (ap (λ xs. flow_value xs top.head.line b ts) known) ∙ e) t)))
