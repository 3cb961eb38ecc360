use Rattle.std.proofs.Common.{◌≡◌, ℕ, Bool, List, sym, subst, IfOk}
use Rattle.rvs_tree.specs.Data.{scalar}
use Rattle.rvs_tree.specs.TreeView.{view}
use Rattle.rvs_tree.proofs.Single.{thin_for}
use Rattle.rvs_tree.proofs.thin.thin_list.Goals as goal

pub returns-in_ok-from_str : goal.returns-in_ok-from_str
returns-in_ok-from_str c =
    let line = c.args.line in
    let made = subst
    (λ (s : List ℕ). IfOk c.new_scalar.result (λ t. view t.value ≡ scalar s line))
    c.in_ok-from_str.ensures.ok c.new_scalar.ensures in
    subst (λ (b : Bool). IfOk c.new_scalar.result (λ t. view t.value ≡ thin_for b line))
    (sym c.if-all_maps.false) made
