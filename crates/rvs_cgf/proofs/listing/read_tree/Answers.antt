use Rattle.std.proofs.Common.{◌∙◌, sym, ap, Ok}
use Rattle.rvs_tree.specs.TreeView.{view}
use Rattle.rvs_cgf.specs.Groups.{label_step, ◌>>=◌}
use Rattle.rvs_cgf.specs.GroupView.{listed_view, refusal_view}
use Rattle.rvs_cgf.proofs.LabelsTold.{groups-are}
use Rattle.rvs_cgf.proofs.Loops.{each-more, each-fails}
use Rattle.rvs_cgf.proofs.listing.read_tree.Goals as goal

pub loop-i-preserved : goal.loop-i-preserved
loop-i-preserved c =
    each-more (label_step c.args.isa.now c.args.families) (view c.args.tree.now) c.loop-i.i
    c.key.result.now (view c.item.result.now) (listed_view c.loop-i.listed)
    (listed_view c.label_step.new.listed) (sym c.is_map.ensures ∙ c.if-is_map.true) c.key.ensures
    c.item.ensures c.in-Ok.ensures
    ∙ c.loop-i.invariant

pub returns-in-Err : goal.returns-in-Err
returns-in-Err c = λ refusal is.
    let d = view c.args.tree.now in
    let map = sym c.is_map.ensures ∙ c.if-is_map.true in
    groups-are c.args.isa.now c.args.families d
    (sym c.is_empty_scalar.ensures ∙ c.if-is_empty_scalar.false) map
    ∙ ap (λ r. r >>= (λ listed. Ok listed.labels)) (sym c.loop-i.invariant
    ∙ each-fails (label_step c.args.isa.now c.args.families) d c.loop-i.i c.key.result.now
    (view c.item.result.now) (listed_view c.loop-i.listed) (refusal_view refusal) map
    c.key.ensures c.item.ensures (c.in-Err.ensures refusal is))
