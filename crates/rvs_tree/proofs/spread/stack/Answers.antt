use Rattle.std.proofs.Common.{◌∙◌}
use Rattle.rvs_tree.proofs.Drafts.{stack-next, stack-sizes}
use Rattle.rvs_tree.proofs.spread.stack.Goals as goal

pub loop-part-preserved : goal.loop-part-preserved
loop-part-preserved g c =
    let first = c.loop-part.first.items in
    let rest = c.pop.new.self.items in
    let work = c.loop-part.work.items in
    let new = c.push.new.self.items in (
      stack-next first rest work new c.in-Some.part c.in-Some.ensures.items
          c.in_ok-push.ensures.items ∙ c.loop-part.invariant.0,
      stack-sizes first rest work new c.in-Some.part c.in-Some.ensures.items
          c.in_ok-push.ensures.items ∙ c.loop-part.invariant.1,
    )
