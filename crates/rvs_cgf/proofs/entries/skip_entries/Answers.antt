use Rattle.std.proofs.Common.{◌<◌, ◌∙◌, sym, arith, length}
use Rattle.rvs_tree.specs.Data.{members_of}
use Rattle.rvs_tree.specs.TreeView.{view}
use Rattle.rvs_cgf.specs.Groups.{under, skipped_entry}
use Rattle.rvs_cgf.specs.GroupView.{taken_view, refusal_view}
use Rattle.rvs_cgf.specs.PlaceView.{place_view}
use Rattle.rvs_cgf.proofs.Loops.{each-more, each-fails, map-skipped, at-place}
use Rattle.rvs_cgf.proofs.entries.skip_entries.Goals as goal

pub loop-i-init : goal.loop-i-init
loop-i-init c =
    let some : 0 < length (members_of (view c.args.entries.now)) =
    omega (arith, c.if-len-eq0.false, c.len.ensures) in
    map-skipped (place_view c.args.place) (view c.args.entries.now) (taken_view c.args.taken.now)
    (sym c.is_empty_scalar.ensures ∙ c.if-is_empty_scalar.false)
    (sym c.is_map.ensures ∙ c.if-is_map.true) some

pub loop-i-preserved : goal.loop-i-preserved
loop-i-preserved c =
    let at = place_view c.args.place in
    let entry = view c.item.result.now in
    let t = taken_view c.loop-i.taken in
    each-more (under at skipped_entry) (view c.args.entries.now) c.loop-i.i c.key.result.now entry
    t (taken_view c.skip_entry.new.taken) (sym c.is_map.ensures ∙ c.if-is_map.true) c.key.ensures
    c.item.ensures
    (at-place skipped_entry at (place_view c.at_key-in-loop-i.result) c.key.result.now entry t _
    c.at_key-in-loop-i.ensures c.in-Ok.ensures)
    ∙ c.loop-i.invariant

pub returns-in-Err : goal.returns-in-Err
returns-in-Err c = λ refusal is.
    let at = place_view c.args.place in
    let entry = view c.item.result.now in
    let t = taken_view c.loop-i.taken in
    sym c.loop-i.invariant
    ∙ each-fails (under at skipped_entry) (view c.args.entries.now) c.loop-i.i c.key.result.now
    entry t (refusal_view refusal) (sym c.is_map.ensures ∙ c.if-is_map.true) c.key.ensures
    c.item.ensures
    (at-place skipped_entry at (place_view c.at_key-in-loop-i.result) c.key.result.now entry t _
    c.at_key-in-loop-i.ensures (c.in-Err.ensures refusal is))
