use Rattle.std.proofs.Common.{◌≡◌, ◌∙◌, sym, ap, true}
use Rattle.rvs_tree.specs.Data.{is_scalar, is_map, line_of, mapping, no_entries}
use Rattle.rvs_tree.specs.TreeView.{view}
use Rattle.rvs_tree.proofs.Views.{ok_more}
use Rattle.rvs_tree.proofs.Single.{thin-scalar, thin-map}
use Rattle.rvs_tree.proofs.thin.thin_whole.Goals as goal

pub returns-then-is_scalar : goal.returns-then-is_scalar
returns-then-is_scalar c =
    let d = view c.args.tree.now.value in
    let s : is_scalar d ≡ true =
    sym (ap (λ t. is_scalar (view t)) c.deref.ensures) ∙ sym c.is_scalar.ensures
    ∙ c.if-is_scalar.true in
    ap view c.in_ok-clone.ensures.cases ∙ sym (thin-scalar d s)

pub returns-then-is_map : goal.returns-then-is_map
returns-then-is_map c =
    let d = view c.args.tree.now.value in
    let m : is_map d ≡ true =
    sym (ap (λ t. is_map (view t)) c.deref-2.ensures) ∙ sym c.is_map.ensures ∙ c.if-is_map.true in
    ok_more c.thin_map.result c.thin_map.ensures (λ t h.
    h ∙ ap (λ n. mapping no_entries n)
    (c.line.ensures ∙ ap (λ u. line_of (view u)) c.deref-then-is_map.ensures)
    ∙ sym (thin-map d m))
