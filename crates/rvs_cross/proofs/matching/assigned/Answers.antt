use Rattle.std.proofs.Common.{map, ap, ◌∙◌}
use Rattle.rvs_cross.specs.CrossView.{place_view}
use Rattle.rvs_cross.specs.Assigned.{assigned_field, assigned}
use Rattle.rvs_cross.proofs.Turns.{assigned_turn, assigned_here, assigned_end}
use Rattle.rvs_cross.proofs.matching.assigned.Goals as goal

pub returns-in-Some-clause-value : goal.returns-in-Some-clause-value
returns-in-Some-clause-value c =
    c.register_in.ensures.value
    ∙ assigned_here c.args.variable c.args.places.now c.args.window.now c.loop-k.k
    c.index-places-k.result c.index-window-k.result
    (assigned c.args.variable (map place_view c.args.places.now) c.args.window.now)
    c.in-Some.field c.loop-k-test.true c.requires c.index-places-k.is c.index-window-k.is
    c.loop-k.invariant
    (c.in-Some.ensures ∙ ap (assigned_field c.args.variable) c.as_slice.ensures)

pub loop-k-preserved : goal.loop-k-preserved
loop-k-preserved c =
    assigned_turn c.args.variable c.args.places.now c.args.window.now c.loop-k.k
    c.index-places-k.result c.index-window-k.result
    (assigned c.args.variable (map place_view c.args.places.now) c.args.window.now)
    c.loop-k-test.true c.requires c.index-places-k.is c.index-window-k.is
    c.loop-k.invariant
    (c.in-None.ensures ∙ ap (assigned_field c.args.variable) c.as_slice.ensures)

pub returns-clause-value : goal.returns-clause-value
returns-clause-value c =
    assigned_end c.args.variable c.args.places.now c.args.window.now c.loop-k.k
    (assigned c.args.variable (map place_view c.args.places.now) c.args.window.now)
    c.loop-k-test.false c.loop-k.invariant
