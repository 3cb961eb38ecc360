use Rattle.std.proofs.Common.{◌∷◌, ◌++◌, [], ◌∙◌, sym, ap, refl, arith, length, drop, take}
use Rattle.std.proofs.Common.{length-append}
use Rattle.std.specs.Prelude.{if◌then◌else◌}
use Rattle.std.proofs.lemmas.List.{take-append-le, drop-append-le}
use Rattle.rvs_tree.specs.ValueView.{value_view}
use Rattle.rvs_yaml.specs.Block.{found}
use Rattle.rvs_yaml.specs.Stack.{noted}
use Rattle.rvs_yaml.specs.StackView.{anchors_view}
use Rattle.rvs_yaml_text.specs.WordView.{name_view}
use Rattle.rvs_yaml.specs.declared.anchor_list.AnchorList.{AnchorList}
use Rattle.rvs_yaml.specs.declared.open.Anchor.{Anchor}
use Rattle.rvs_yaml.specs.Places.{last_place}
use Rattle.rvs_yaml.proofs.Placing.{names_of, last_place-push}
use Rattle.rvs_yaml.proofs.Segments.{anchors-append}
use Rattle.rvs_yaml.proofs.anchoring.named.Goals as goal

pub returns-then-is_behind : goal.returns-then-is_behind
returns-then-is_behind c =
    let all = c.args.list.anchors.items in
    let name = c.in-Some.name.now in
    let v = value_view c.args.value.now in
    let xs = anchors_view (drop c.args.before all) in
    record {
      inner = sym (ap (λ o. (noted (name_view o) (found v xs)).anchors) c.in-Some.is
          ∙ ap (λ t. (if t then found v xs else found v ((name, v) ∷ xs)).anchors)
          (sym c.is_behind.ensures ∙ c.if-is_behind.true));
      outer = refl;
      more = omega arith;
    }

pub invariant_of-result : goal.invariant_of-result
invariant_of-result c =
    let list = c.in_ok-value.list in
    record {
      known = λ k. c.in-Ok.ensures.places k
          ∙ last_place-push k list.anchors.items _ _ _ refl (list.known k)
          ∙ sym (ap (λ xs. last_place k (names_of xs)) c.in-Ok.ensures.items);
    }

pub returns-in-Ok : goal.returns-in-Ok
returns-in-Ok c =
    let all = c.args.list.anchors.items in
    let n = c.args.before in
    let name = c.in-Some.name.now in
    let v = value_view c.args.value.now in
    let xs = anchors_view (drop n all) in
    let a : Anchor = record { name = c.in-Some.name; value = c.in_ok-value.value } in
    let h = c.in-Ok.ensures.items
    ∙ ap (λ (l : AnchorList). l.anchors.items ++ a ∷ []) c.in_ok-value.ensures.both.1 in
    record {
      inner = ap (λ ys. anchors_view (drop n ys)) h
          ∙ ap anchors_view (drop-append-le n all (a ∷ []) c.requires)
          ∙ anchors-append (drop n all) (a ∷ [])
          ∙ ap (λ w. (name, w) ∷ xs)
          (rw c.in_ok-value.ensures.both.0 at c.shared_value.ensures.value)
          ∙ sym (ap (λ o. (noted (name_view o) (found v xs)).anchors) c.in-Some.is
          ∙ ap (λ t. (if t then found v xs else found v ((name, v) ∷ xs)).anchors)
          (sym c.is_behind.ensures ∙ c.if-is_behind.false));
      outer = ap (take n) h ∙ take-append-le n all (a ∷ []) c.requires;
      more = omega (arith, ap length h, length-append all (a ∷ []));
    }
