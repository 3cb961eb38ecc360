use Rattle.std.proofs.Common.{◌∙◌, sym, ap}
use Rattle.rvs_tree.specs.TreeView.{view}
use Rattle.rvs_cgf.specs.Groups.{under, at_key, at_node, abstract_key, abstract_entry}
use Rattle.rvs_cgf.specs.GroupView.{taken_view, refusal_view}
use Rattle.rvs_cgf.specs.PlaceView.{place_view}
use Rattle.rvs_cgf.proofs.Loops.{each-more, each-fails, map-entries, at-place}
use Rattle.rvs_cgf.proofs.entries.abstract_node.Goals as goal

pub loop-i-init : goal.loop-i-init
loop-i-init c =
    map-entries (under (at_node (place_view c.args.place).label abstract_key)
    (abstract_entry c.args.families)) (place_view c.args.place) (view c.args.entries.now)
    (taken_view c.args.taken.now) (sym c.is_empty_scalar.ensures ∙ c.if-is_empty_scalar.false)
    (sym c.is_map.ensures ∙ c.if-is_map.true)

pub loop-i-preserved : goal.loop-i-preserved
loop-i-preserved c =
    let at = at_node (place_view c.args.place).label abstract_key in
    let f = abstract_entry c.args.families in
    let entry = view c.item.result.now in
    let t = taken_view c.loop-i.taken in
    each-more (under at f) (view c.args.entries.now) c.loop-i.i c.key.result.now entry t
    (taken_view c.abstract_entry.new.taken) (sym c.is_map.ensures ∙ c.if-is_map.true)
    c.key.ensures c.item.ensures
    (at-place f at (place_view c.at_key-place.result) c.key.result.now entry t _
    (c.at_key-place.ensures ∙ ap (λ n. at_key n c.key.result.now) c.at_node-node.ensures)
    c.in-Ok.ensures)
    ∙ c.loop-i.invariant

pub returns-in-Err : goal.returns-in-Err
returns-in-Err c = λ refusal is.
    let at = at_node (place_view c.args.place).label abstract_key in
    let f = abstract_entry c.args.families in
    let entry = view c.item.result.now in
    let t = taken_view c.loop-i.taken in
    sym c.loop-i.invariant
    ∙ each-fails (under at f) (view c.args.entries.now) c.loop-i.i c.key.result.now entry t
    (refusal_view refusal) (sym c.is_map.ensures ∙ c.if-is_map.true) c.key.ensures c.item.ensures
    (at-place f at (place_view c.at_key-place.result) c.key.result.now entry t _
    (c.at_key-place.ensures ∙ ap (λ n. at_key n c.key.result.now) c.at_node-node.ensures)
    (c.in-Err.ensures refusal is))
