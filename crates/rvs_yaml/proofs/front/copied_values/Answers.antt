use Rattle.std.proofs.Common.{◌+◌, ◌<◌, ◌∷◌, ◌++◌, [], ◌∙◌, sym, ap, arith, length, take, get_or}
use Rattle.std.proofs.lemmas.List.{take_more}
use Rattle.rvs_tree.specs.ValueView.{value_view, values_view}
use Rattle.rvs_tree.proofs.Sums.{map-append}
use Rattle.rvs_yaml.proofs.front.copied_values.Goals as goal

pub loop-value-preserved : goal.loop-value-preserved
loop-value-preserved c =
    let vs = c.args.values.now in
    let i = c.loop-value.value-index in
    let v = c.value-item.result in
    let copy = value_view c.in_ok-shared_value.field-0 in
    let here : i < length vs = omega (arith, c.loop-value-test.true) in
    c.in_ok-list.ensures.values
    ∙ ap (λ us. us ++ copy ∷ []) c.loop-value.invariant
    ∙ ap (λ x. values_view (take i vs) ++ x ∷ [])
    (c.in_ok-shared_value.ensures.value ∙ ap value_view c.value-item.is)
    ∙ sym (ap values_view (take_more vs i v here)
    ∙ map-append value_view (take i vs) (get_or vs i v ∷ []))
