use Rattle.std.proofs.Common.{◌∙◌, sym, ap}
use Rattle.rvs_tree.specs.Data.{sequence, items_of}
use Rattle.rvs_tree.specs.Value.{pairs_in}
use Rattle.rvs_tree.specs.DraftView.{data_of, merged_trees}
use Rattle.rvs_tree.specs.PartsView.{parts_view, sizes}
use Rattle.rvs_tree.proofs.Bared.{draft-items}
use Rattle.rvs_tree.proofs.Drafts.{draft-map, draft-list, size-draft}
use Rattle.rvs_tree.proofs.draft.Draft.parts.Goals as goal

pub returns-clause-map : goal.returns-clause-map
returns-clause-map c = λ h. (
  c.args.self.now.line,
  draft-map c.args.self.now h
      ∙ ap (λ ps. data_of (parts_view ps) c.args.self.now.line) (sym c.as_slice.ensures.value),
)

pub returns-clause-list : goal.returns-clause-list
returns-clause-list c = λ h. draft-list c.args.self.now h
    ∙ ap (λ ps. pairs_in (merged_trees (parts_view ps))) (sym c.as_slice.ensures.value)

pub returns-clause-size : goal.returns-clause-size
returns-clause-size c = size-draft c.args.self.now ∙ ap sizes (sym c.as_slice.ensures.value)

pub returns-clause-items : goal.returns-clause-items
returns-clause-items c = λ h. (
  c.args.self.now.line,
  draft-items c.args.self.now h
      ∙ ap (λ ps. sequence (items_of (merged_trees
      (parts_view ps))) c.args.self.now.line) (sym c.as_slice.ensures.value),
)
