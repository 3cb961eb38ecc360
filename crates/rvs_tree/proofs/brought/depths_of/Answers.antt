use Rattle.std.proofs.Common.{◌≡◌, ◌∙◌, ◌∷◌, ◌++◌, [], suc, min, sym, ap, map, drop, add-one}
use Rattle.std.proofs.Common.{append_assoc, append-nil, string_bytes}
use Rattle.std.specs.List.{zip}
use Rattle.std.proofs.lemmas.List.{drop_all}
use Rattle.rvs_tree.specs.Data.{depth}
use Rattle.rvs_tree.specs.Shown.{key_depths}
use Rattle.rvs_tree.specs.ShownView.{depths_view}
use Rattle.rvs_tree.specs.TreeView.{view, rc_view}
use Rattle.rvs_tree.specs.declared.tree.Tree.{Tree}
use Rattle.rvs_tree.proofs.Single.{zip-step}
use Rattle.rvs_tree.proofs.brought.depths_of.Goals as goal

pub loop-i-preserved : goal.loop-i-preserved
loop-i-preserved c =
    let i = c.loop-i.i in
    let ks = c.args.keys.now in
    let vs = c.args.values.now in
    let k = c.index-keys-i.result in
    let v = c.index-values-i.result in
    let old = depths_view c.loop-i.depths.items in
    let rest = zip (map string_bytes (drop (suc i) ks)) (map rc_view (drop (suc i) vs)) in
    rw add-one (ap (λ x. x ++ key_depths rest)
    (c.in_ok-depths.ensures
    ∙ ap (λ n. old ++ (n, min (depth (view c.deref.result.now)) 33) ∷ []) c.as_str.ensures.value
    ∙ ap (λ (t : Tree). old ++ (string_bytes k, min (depth (view t)) 33) ∷ []) c.deref.ensures)
    ∙ append_assoc old ((string_bytes k, min (depth (rc_view v)) 33) ∷ []) (key_depths rest)
    ∙ sym (ap (λ ps. old ++ key_depths ps) (zip-step ks vs i k v c.loop-i-test.true
    c.if-i-values.false c.index-keys-i.is c.index-values-i.is))
    ∙ c.loop-i.invariant)

pub returns : goal.returns
returns c =
    let i = c.loop-i.i in
    let ks = c.args.keys.now in
    let vs = map rc_view (drop i c.args.values.now) in
    let old = depths_view c.loop-i.depths.items in
    let none : drop i ks ≡ [] = drop_all i ks c.loop-i-test.false in
    sym (append-nil old)
    ∙ sym (ap (λ us. old ++ key_depths (zip (map string_bytes us) vs)) none)
    ∙ c.loop-i.invariant
