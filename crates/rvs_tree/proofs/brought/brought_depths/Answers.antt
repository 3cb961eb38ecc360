use Rattle.std.proofs.Common.{◌≡◌, ◌∙◌, [], ap, map, string_bytes, arith}
use Rattle.std.specs.List.{zip}
use Rattle.rvs_tree.specs.Value.{merged_pairs}
use Rattle.rvs_tree.specs.Sifted.{gathered}
use Rattle.rvs_tree.specs.Shown.{visible}
use Rattle.rvs_tree.specs.PairsView.{pairs_view}
use Rattle.rvs_tree.specs.TreeView.{view, rc_view}
use Rattle.rvs_tree.specs.ValueView.{value_view}
use Rattle.rvs_tree.proofs.Showing.{brought-visible}
use Rattle.rvs_tree.proofs.Views.{ok_more}
use Rattle.rvs_tree.proofs.brought.brought_depths.Goals as goal

pub returns : goal.returns
returns c =
    let qs = zip (map string_bytes c.as_slice.result.now) (map rc_view c.as_slice-2.result.now) in
    let d = (value_view c.args.value.now).tree in
    let pairs = c.in_ok-pairs.field-0.pairs in
    let first : qs ≡ pairs_view pairs =
    ap (λ xs. zip (map string_bytes xs) (map rc_view c.as_slice-2.result.now))
    c.as_slice.ensures.value
    ∙ ap (λ ys. zip (map string_bytes pairs.keys.items) (map rc_view ys))
    c.as_slice-2.ensures.value in
    let is : qs ≡ (gathered ([], []) (merged_pairs d)).0 =
    first ∙ ap (λ g. g.0) (c.in_ok-pairs.ensures
    ∙ ap (λ g. gathered g (merged_pairs (view c.deref.result.now))) c.none_gathered.ensures
    ∙ ap (λ t. gathered ([], []) (merged_pairs t))
    (ap view c.deref.ensures ∙ c.in_ok-tree.ensures)) in
    ok_more c.depths_of.result c.depths_of.ensures
    (λ l e. λ T. omega (arith, brought-visible d qs is T, ap (λ x. visible x T) e))
