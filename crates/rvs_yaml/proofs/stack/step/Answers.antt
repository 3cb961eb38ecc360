use Rattle.std.proofs.Common.{◌-◌, ◌∙◌, refl, sym, ap, subst, length, true, false}
use Rattle.std.specs.Prelude.{slice_get}
use Rattle.rvs_yaml.specs.Rising.{Rises, befores}
use Rattle.rvs_yaml.specs.Stack.{step}
use Rattle.rvs_yaml.specs.StackView.{anchored, open_blocks}
use Rattle.rvs_yaml_text.specs.WordView.{word_view}
use Rattle.rvs_yaml.proofs.Deciding.{gave, failed, placed-refused}
use Rattle.rvs_yaml.proofs.Giving.{fails_with, gives_same}
use Rattle.rvs_yaml.proofs.Putting.{step-begins}
use Rattle.rvs_yaml.proofs.Segments.{Closing, closes-top, befores-push}
use Rattle.rvs_yaml.proofs.stack.step.Goals as goal

pub returns-in-Err : goal.returns-in-Err
returns-in-Err c = record {
  given = fails_with _ _ (placed-refused (open_blocks c.args.stack) (word_view c.args.word) _
      c.in-Err.ensures);
  refused = failed _ _ _ refl c.in-Err.ensures;
}

pub returns-then-not-closes : goal.returns-then-not-closes
returns-then-not-closes c =
    let s = c.args.stack in
    let w = word_view c.args.word in
    record {
      given = gives_same _ _ _ _ (sym (step-begins s.anchors.anchors.items s.blocks.items w
          (subst (λ xs. Closing (slice_get xs (length xs - 1)) w false) c.as_slice.ensures.value
          c.if-not-closes.ensures.inner) c.in-Ok.ensures)) c.begin.ensures;
      refused = gave _ _ _ c.in-Ok.ensures;
    }

pub closed_top-requires : goal.closed_top-requires
closed_top-requires c =
    let s = c.args.stack in
    let top = c.in-Some.top in
    let w = word_view c.args.word in
    record {
      rising = subst (Rises (length s.anchors.anchors.items))
          (ap befores c.in-Some.ensures.items ∙ befores-push c.pop.new.self.items top) s.rising;
      above = closes-top s.blocks.items c.pop.new.self.items top w c.in-Some.ensures.items
          (subst (λ xs. Closing (slice_get xs (length xs - 1)) w true) c.as_slice.ensures.value
          c.if-not-closes.ensures.inner);
    }

pub returns-in-Some : goal.returns-in-Some
returns-in-Some c =
    let all = c.args.stack.anchors.anchors.items in
    record {
      given = gives_same _ _ _ _
          (sym (ap (λ xs. step (anchored all xs) (word_view c.args.word)) c.in-Some.ensures.items))
          c.closed_top.ensures;
      refused = gave _ _ _ c.in-Ok.ensures;
    }
