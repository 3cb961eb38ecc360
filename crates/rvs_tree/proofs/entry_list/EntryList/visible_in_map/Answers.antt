use Rattle.std.proofs.Common.{◌≡◌, ◌<◌, ◌∙◌, ◌∷◌, [], suc, max, min, sym, ap, map, drop, length}
use Rattle.std.proofs.Common.{add-one, drop-cons, arith, string_bytes}
use Rattle.std.specs.List.{zip}
use Rattle.std.proofs.lemmas.List.{drop_all}
use Rattle.std.specs.Prelude.{if◌then◌else◌}
use Rattle.rvs_tree.specs.Data.{depth}
use Rattle.rvs_tree.specs.Value.{has_key, explicit_keys}
use Rattle.rvs_tree.specs.declared.tree.Tree.{Tree}
use Rattle.rvs_tree.specs.Bound.{visible_depth}
use Rattle.rvs_tree.specs.TreeView.{view, rc_view}
use Rattle.rvs_tree.specs.ValueView.{entries_view}
use Rattle.rvs_tree.proofs.Depths.{visible-step}
use Rattle.rvs_tree.proofs.entry_list.EntryList.visible_in_map.Goals as goal

pub loop-i-preserved : goal.loop-i-preserved
loop-i-preserved c =
    let E = explicit_keys (entries_view c.args.self.now.entries.items) in
    let i = c.loop-i.i in
    let ks = c.entries.result.0.now in
    let vs = c.entries.result.1.now in
    let k = c.index-keys-i.result in
    let v = c.index-values-i.result in
    let there : i < length vs = omega arith in
    let keys : drop i ks ≡ k ∷ drop (suc i) ks = drop-cons ks i k c.loop-i-test.true
    ∙ ap (λ t. t ∷ drop (suc i) ks) (sym c.index-keys-i.is) in
    let values : drop i vs ≡ v ∷ drop (suc i) vs =
    drop-cons vs i v there ∙ ap (λ t. t ∷ drop (suc i) vs) (sym c.index-values-i.is) in
    let rest = zip (map string_bytes (drop (suc i) ks)) (map rc_view (drop (suc i) vs)) in
    let n = c.loop-i.deepest in
    rw add-one (
    ap (λ m. max m (min (visible_depth E rest) 33)) (c.deepest_with-deepest.ensures
    ∙ ap (λ b. max n (min (if has_key b E then 0 else depth (view c.deref.result.now)) 33))
    c.as_str.ensures.value
    ∙ ap (λ (t : Tree). max n (min (if has_key (string_bytes k) E then 0 else depth (view t)) 33))
    c.deref.ensures)
    ∙ visible-step E n (string_bytes k) (rc_view v) rest
    ∙ sym (ap (λ us. max n (min (visible_depth E
    (zip (map string_bytes us) (map rc_view (drop i vs)))) 33)) keys
    ∙ ap (λ us. max n
    (min (visible_depth E (zip (map string_bytes (k ∷ drop (suc i) ks)) (map rc_view us))) 33))
    values)
    ∙ c.loop-i.invariant)

pub returns : goal.returns
returns c =
    let E = explicit_keys (entries_view c.args.self.now.entries.items) in
    let i = c.loop-i.i in
    let ks = c.entries.result.0.now in
    let vs = map rc_view (drop i c.entries.result.1.now) in
    let n = c.loop-i.deepest in
    let none : drop i ks ≡ [] = drop_all i ks c.loop-i-test.false in
    let same : n ≡ max n (min 0 33) = omega arith in
    same
    ∙ sym (ap (λ us. max n (min (visible_depth E (zip (map string_bytes us) vs)) 33)) none)
    ∙ c.loop-i.invariant ∙ sym (ap (λ ps. min (visible_depth E ps) 33) c.entries.ensures)
