use Rattle.std.proofs.Common.{◌<◌, ◌≤◌, ◌∙◌, sym, ap, subst, arith, length, Some}
use Rattle.std.proofs.lemmas.List.Elements.{All-get_or}
use Rattle.rvs_tree.specs.ValueView.{value_view}
use Rattle.rvs_yaml.specs.declared.open.Anchor.{Anchor}
use Rattle.rvs_yaml.proofs.Placing.{found-place, missed-place, place-inside}
use Rattle.rvs_yaml.proofs.anchoring.find_anchor.Goals as goal

pub index-requires : goal.index-requires
index-requires c =
    let list = c.args.list.now in
    let inside : c.in-Some.place.now < length list.anchors.items = place-inside c.args.name.now
    list.anchors.items c.in-Some.place.now
    (sym (list.known c.args.name.now) ∙ sym c.in-Some.ensures.value) in
    omega (arith, inside, list.anchors.ok.0)

pub returns-in-Some-clause-value : goal.returns-in-Some-clause-value
returns-in-Some-clause-value c =
    let list = c.args.list.now in
    ap (λ (a : Anchor). Some (value_view a.value)) c.index.ensures
    ∙ sym (found-place c.args.name.now c.index.result.now list.anchors.items c.in-Some.place.now
    (sym (list.known c.args.name.now) ∙ sym c.in-Some.ensures.value))

pub returns-in-Some-clause-kept : goal.returns-in-Some-clause-kept
returns-in-Some-clause-kept c = λ most up.
    let list = c.args.list.now in
    let P = λ (a : Anchor). a.value.depth ≤ most in
    let within : c.in-Some.place.now < length list.anchors.items = place-inside c.args.name.now
    list.anchors.items c.in-Some.place.now
    (sym (list.known c.args.name.now) ∙ sym c.in-Some.ensures.value) in
    subst P (sym c.index.ensures)
    (All-get_or P list.anchors.items c.in-Some.place.now c.index.result.now within up)

pub returns-in-None-clause-value : goal.returns-in-None-clause-value
returns-in-None-clause-value c = sym (missed-place c.args.name.now
    c.args.list.now.anchors.items
    (sym (c.args.list.now.known c.args.name.now) ∙ sym c.in-None.ensures.value))
