use Rattle.std.proofs.Common.{◌+◌, ◌<◌, ◌∷◌, ◌++◌, [], ◌∙◌, sym, ap, arith, length, take, get_or}
use Rattle.std.proofs.lemmas.List.{take_more}
use Rattle.rvs_tree.specs.ValueView.{written_view, entries_view}
use Rattle.rvs_tree.proofs.Sums.{map-append}
use Rattle.rvs_yaml.proofs.front.copied_entries.Goals as goal

pub loop-written-preserved : goal.loop-written-preserved
loop-written-preserved c =
    let es = c.args.entries.now in
    let i = c.loop-written.written-index in
    let w = c.written-item.result in
    let copy = written_view c.in_ok-copied_written.field-0 in
    let here : i < length es = omega (arith, c.loop-written-test.true) in
    c.in_ok-list.ensures.entries
    ∙ ap (λ ws. ws ++ copy ∷ []) c.loop-written.invariant
    ∙ ap (λ x. entries_view (take i es) ++ x ∷ [])
    (c.in_ok-copied_written.ensures ∙ ap written_view c.written-item.is)
    ∙ sym (ap entries_view (take_more es i w here)
    ∙ map-append written_view (take i es) (get_or es i w ∷ []))
