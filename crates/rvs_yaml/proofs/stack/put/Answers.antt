use Rattle.std.proofs.Common.{◌≡◌, ◌∷◌, ◌++◌, [], ◌∙◌, sym, ap, subst, refl, length, take, Ok}
use Rattle.std.proofs.Common.{List}
use Rattle.rvs_base.specs.Answers.{seen}
use Rattle.rvs_yaml.specs.Block.{content_value}
use Rattle.rvs_yaml.specs.Checks.{Checked}
use Rattle.rvs_yaml.specs.Stack as spec
use Rattle.rvs_yaml.specs.StepParts.{opened}
use Rattle.rvs_yaml.specs.Rising.{Rises, befores}
use Rattle.rvs_yaml.specs.StackView.{anchors_view, block_at, anchored}
use Rattle.rvs_yaml.specs.declared.open.Open.{Open}
use Rattle.rvs_yaml_text.specs.WordView.{content_view, head_view}
use Rattle.rvs_yaml.proofs.Giving.{fails_first}
use Rattle.rvs_yaml.proofs.Segments.{anchored-push, befores-push, put-all}
use Rattle.rvs_yaml.proofs.Tokens.{seen-bind}
use Rattle.rvs_yaml.proofs.stack.put.Goals as goal

pub returns-in-Err : goal.returns-in-Err
returns-in-Err c =
    let all = c.args.anchors.anchors.items in
    let b = c.args.block in
    let bs = c.args.blocks.items in
    let h = head_view c.args.head in
    let t = content_view c.args.content in
    fails_first c.in-Err.fault (content_value (anchors_view all) h.line t)
    (λ v. let r : Checked (List spec.Open) =
    Ok (opened (block_at all b) h v ∷ anchored (take b.before all) bs) in r) _
    (sym (put-all all b.before (block_at all b) bs h t refl c.requires)) c.in-Err.ensures.given

pub invariant_of-result : goal.invariant_of-result
invariant_of-result c =
    let made = c.in_ok-blocks-in-Ok in
    let both = made.ensures.both in
    let bs = c.args.blocks.items in
    let top : Open = record { block = c.args.block; head = c.args.head; own = c.in-Ok.own } in
    let items : made.blocks.items ≡ bs ++ top ∷ [] = rw both.0 at c.pushed.ensures in
    record {
      rising = subst (Rises (length made.anchors.anchors.items))
          (sym (ap befores items ∙ befores-push bs top))
          (subst (λ a. Rises (length a.anchors.items) (c.args.block.before ∷ befores bs))
          (sym both.1) c.requires);
    }

pub returns-in_ok-blocks-in-Ok : goal.returns-in_ok-blocks-in-Ok
returns-in_ok-blocks-in-Ok c =
    let made = c.in_ok-blocks-in-Ok in
    let both = made.ensures.both in
    let all = c.args.anchors.anchors.items in
    let b = c.args.block in
    let bs = c.args.blocks.items in
    let h = head_view c.args.head in
    let t = content_view c.args.content in
    let value = content_value (anchors_view all) h.line t in
    let top : Open = record { block = b; head = c.args.head; own = c.in-Ok.own } in
    let items : made.blocks.items ≡ bs ++ top ∷ [] = rw both.0 at c.pushed.ensures in
    put-all all b.before (block_at all b) bs h t refl c.requires
    ∙ sym (seen-bind (λ v. opened (block_at all b) h v ∷ anchored (take b.before all) bs) value)
    ∙ ap (seen (λ v. opened (block_at all b) h v ∷ anchored (take b.before all) bs))
    c.in-Ok.ensures.given
    ∙ ap Ok (sym (ap (λ a. anchored a.anchors.items made.blocks.items) both.1
    ∙ ap (anchored all) items ∙ anchored-push all bs top))
