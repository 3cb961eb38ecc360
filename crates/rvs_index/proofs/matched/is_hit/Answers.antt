use Rattle.rvs_index.proofs.Matching.{other_length}
use Rattle.rvs_index.proofs.matched.is_hit.Goals as goal

pub returns-else-places-window : goal.returns-else-places-window
returns-else-places-window g c =
    other_length c.args.point.now.meaning c.in-Window.cross c.args.window.now c.places.result
    c.in-Window.is
    c.places.ensures.count c.if-places-window.false
