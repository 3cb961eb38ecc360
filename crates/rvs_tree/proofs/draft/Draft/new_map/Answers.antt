use Rattle.std.proofs.Common.{◌∙◌, ap}
use Rattle.std.specs.declared.alloc.Global.{Global}
use Rattle.std.specs.declared.rc.Rc.{Rc}
use Rattle.rvs_tree.specs.DraftView.{data_of}
use Rattle.rvs_tree.specs.PartsView.{parts_view}
use Rattle.rvs_tree.specs.declared.draft.Draft.{Draft}
use Rattle.rvs_tree.proofs.Views.{ok_more}
use Rattle.rvs_tree.proofs.Drafts.{view-map}
use Rattle.rvs_tree.proofs.draft.Draft.new_map.Goals as goal

pub returns : goal.returns
returns c =
    ok_more c.shared.result c.shared.ensures (λ (d : Rc Draft Global) h.
    view-map d.value h.1 ∙ ap (λ v. data_of (parts_view v.items) d.value.line) h.0
    ∙ ap (data_of (parts_view c.args.parts.items)) h.2)
