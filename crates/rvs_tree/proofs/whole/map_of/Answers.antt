use Rattle.std.proofs.Common.{◌∙◌, ap}
use Rattle.std.specs.declared.alloc.Global.{Global}
use Rattle.std.specs.declared.rc.Rc.{Rc}
use Rattle.rvs_tree.specs.Data.{mapping, entries_of, own_pairs}
use Rattle.rvs_tree.specs.DraftView.{draft_view}
use Rattle.rvs_tree.specs.declared.tree.Tree.{Tree}
use Rattle.rvs_tree.proofs.Views.{ok_more}
use Rattle.rvs_tree.proofs.Bared.{rebuilt}
use Rattle.rvs_tree.proofs.whole.map_of.Goals as goal

pub returns : goal.returns
returns c =
    ok_more c.new_map.result c.new_map.ensures (λ (t : Rc Tree Global) h.
    h ∙ ap (λ ps. mapping (entries_of ps) c.line.result) c.in_ok-keys.ensures
    ∙ ap (mapping (entries_of (own_pairs (draft_view c.args.draft.now)))) c.line.ensures
    ∙ rebuilt c.args.draft.now c.requires)
