use Rattle.std.proofs.Common.{◌≡◌, ◌∙◌, ◌∷◌, [], suc, sym, ap, map, drop, add-one, string_bytes}
use Rattle.std.specs.List.{zip}
use Rattle.std.proofs.lemmas.List.{drop_all}
use Rattle.rvs_tree.specs.Sifted.{gathered}
use Rattle.rvs_tree.specs.TreeView.{rc_view}
use Rattle.rvs_tree.specs.GatheredView.{gathered_view}
use Rattle.rvs_tree.proofs.Bringing.{gathered-step}
use Rattle.rvs_tree.proofs.Single.{zip-step}
use Rattle.rvs_tree.proofs.gathering.Gathered.with_map.Goals as goal

pub loop-i-preserved : goal.loop-i-preserved
loop-i-preserved c =
    let i = c.loop-i.i in
    let ks = c.entries.result.0.now in
    let vs = c.entries.result.1.now in
    let k = c.index-keys-i.result in
    let v = c.index-values-i.result in
    let s = gathered_view c.loop-i.gathered in
    let rest = zip (map string_bytes (drop (suc i) ks)) (map rc_view (drop (suc i) vs)) in
    rw add-one (ap (λ g. gathered g rest)
    (c.in_ok-gathered.ensures
    ∙ ap (λ n. gathered s ((n, rc_view v) ∷ [])) c.as_str.ensures.value)
    ∙ sym (gathered-step s (string_bytes k, rc_view v) rest)
    ∙ sym (ap (gathered s) (zip-step ks vs i k v c.loop-i-test.true c.if-i-values.false
    c.index-keys-i.is c.index-values-i.is)) ∙ c.loop-i.invariant)

pub returns : goal.returns
returns c =
    let i = c.loop-i.i in
    let ks = c.entries.result.0.now in
    let vs = c.entries.result.1.now in
    let s = gathered_view c.loop-i.gathered in
    let none : drop i ks ≡ [] = drop_all i ks c.loop-i-test.false in
    sym (ap (λ us. gathered s (zip (map string_bytes us) (map rc_view (drop i vs)))) none)
    ∙ c.loop-i.invariant ∙ sym (ap (gathered (gathered_view c.args.self)) c.entries.ensures)
