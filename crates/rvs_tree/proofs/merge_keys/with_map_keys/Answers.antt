use Rattle.std.proofs.Common.{◌∙◌, ◌<◌, ap, add-one, arith, length}
use Rattle.std.specs.Prelude.{◌||◌, bytes_eq}
use Rattle.std.specs.BTreeSet.{contains_text}
use Rattle.rvs_tree.proofs.Showing.{key-next}
use Rattle.rvs_tree.proofs.merge_keys.with_map_keys.Goals as goal

pub loop-i-preserved : goal.loop-i-preserved
loop-i-preserved c = λ k.
    let ks = c.entries.result.0.now in
    let vs = c.entries.result.1.now in
    let here : c.loop-i.i < length ks = c.loop-i-test.true in
    let there : c.loop-i.i < length vs = omega arith in
    rw add-one (key-next k ks vs c.loop-i.i c.index-keys-i.result (contains_text c.loop-i.set k)
    (contains_text c.in_ok-set.set k) here there c.index-keys-i.is (c.in_ok-set.ensures k
    ∙ ap (λ x. contains_text c.loop-i.set k || bytes_eq x k) c.as_str.ensures.value)
    ∙ c.loop-i.invariant k)
