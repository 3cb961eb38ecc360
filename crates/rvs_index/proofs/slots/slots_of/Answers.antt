use Rattle.std.proofs.Common.{◌≡◌, ◌+◌, ◌++◌, ap, ◌∙◌, arith, length, drop, get_or, length-append}
use Rattle.rvs_points.specs.PointView.{label_view}
use Rattle.rvs_points.specs.declared.group.Label.{Label}
use Rattle.rvs_index.specs.Counting.{aims_in, aims_of_label}
use Rattle.rvs_index.specs.Index.{is_for, places, places_for}
use Rattle.rvs_index.proofs.Built.{aims_more, slots_more}
use Rattle.rvs_index.proofs.slots.slots_of.Goals as goal

pub loop-label-preserved : goal.loop-label-preserved
loop-label-preserved c =
    let label = get_or c.args.labels.now c.loop-label.label-index c.label-item.result in
    let e : places c.add_label.new.slots ≡ places c.loop-label.slots
    ++ places_for (is_for c.args.key) c.loop-label.first (aims_of_label (label_view label)) =
    c.in_ok-first.ensures.slots ∙ ap (λ (l : Label). places c.loop-label.slots
    ++ places_for (is_for c.args.key) c.loop-label.first (aims_of_label (label_view l)))
    c.label-item.is in
    let n : c.in_ok-first.first ≡ c.loop-label.first + length (aims_of_label (label_view label)) =
    c.in_ok-first.ensures.next
    ∙ ap (λ (l : Label). c.loop-label.first + length (aims_of_label (label_view l)))
    c.label-item.is in
    let m = ap (λ l. length l) (aims_more c.args.labels.now c.loop-label.label-index
    c.label-item.result c.loop-label-test.true)
    ∙ length-append (aims_of_label (label_view label))
    (aims_in (drop (c.loop-label.label-index + 1) c.args.labels.now)) in
    record {
      room = omega (arith, n, m, c.loop-label.invariant.room);
      same =
          slots_more (is_for c.args.key) c.args.labels.now c.loop-label.slots c.add_label.new.slots
          c.loop-label.label-index c.loop-label.first c.in_ok-first.first c.label-item.result
          c.loop-label-test.true e n
          ∙ c.loop-label.invariant.same;
    }
