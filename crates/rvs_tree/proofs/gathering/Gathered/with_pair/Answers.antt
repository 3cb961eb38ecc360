use Rattle.std.proofs.Common.{ℕ, List, ◌∙◌, ◌∷◌, ◌++◌, [], true, false, sym}
use Rattle.rvs_tree.specs.Data.{Data}
use Rattle.rvs_tree.specs.TreeView.{view}
use Rattle.rvs_tree.specs.PairsView.{pairs_view}
use Rattle.rvs_tree.specs.GatheredView.{taken_view, gathered_view}
use Rattle.rvs_tree.proofs.Single.{gathered-by-key, same-pair}
use Rattle.rvs_tree.proofs.gathering.Gathered.with_pair.Goals as goal

pub returns-then-has : goal.returns-then-has
returns-then-has c =
    sym (gathered-by-key true (gathered_view c.args.self) c.args.key.now
    (view c.args.tree.now.value)
    (sym c.has.ensures ∙ c.if-has.true))

pub returns : goal.returns
returns c =
    let p : List ℕ × Data = (c.args.key.now, view c.args.tree.now.value) in
    same-pair (pairs_view c.in_ok-pairs.pairs) (pairs_view c.args.self.pairs ++ p ∷ [])
    (taken_view c.in_ok-taken.taken) (c.args.key.now ∷ taken_view c.args.self.taken)
    c.in_ok-pairs.ensures c.in_ok-taken.ensures
    ∙ sym (gathered-by-key false (gathered_view c.args.self) c.args.key.now
    (view c.args.tree.now.value) (sym c.has.ensures ∙ c.if-has.false))
