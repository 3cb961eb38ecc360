use Rattle.std.proofs.Common.{◌∙◌, sym, ap, refl}
use Rattle.rvs_tree.specs.TreeView.{view}
use Rattle.rvs_tree.specs.HeldView.{held_view}
use Rattle.rvs_tree.specs.DraftView.{draft_view, merging_entry}
use Rattle.rvs_tree.specs.declared.draft.Part.TheVariants as part
use Rattle.rvs_tree.proofs.Drafts.{view-whole, view-nested}
use Rattle.rvs_tree.proofs.parts.merged_part.Goals as goal

pub returns-in_ok-clone-in-Whole : goal.returns-in_ok-clone-in-Whole
returns-in_ok-clone-in-Whole c =
    let t = c.in_ok-clone-in-Whole.field-0 in
    view-whole (part.Whole t) t refl
    ∙ ap (λ u. merging_entry (view u)) c.in_ok-clone-in-Whole.ensures.cases
    ∙ sym (ap (λ h. merging_entry (held_view h)) c.in-Whole.is)

pub returns-in_ok-clone-in-Merging : goal.returns-in_ok-clone-in-Merging
returns-in_ok-clone-in-Merging c =
    let d = c.in_ok-clone-in-Merging.field-0 in
    view-nested (part.Nested d) d refl
    ∙ ap (λ u. merging_entry (draft_view u)) c.in_ok-clone-in-Merging.ensures.cases
    ∙ sym (ap (λ h. merging_entry (held_view h)) c.in-Merging.is)
