use Rattle.std.proofs.Common.{◌≡◌, ◌∙◌, true, false, sym, ap, cond, string_bytes}
use Rattle.std.specs.Prelude.{◌||◌, bytes_eq}
use Rattle.std.specs.BTreeSet.{contains_text}
use Rattle.std.proofs.lemmas.Map.Text.{btree_set_updates_text}
use Rattle.std.proofs.lemmas.Slice.Eq.{bytes_eq-Decides}
use Rattle.rvs_tree.proofs.Joining.{moved}
use Rattle.rvs_tree.proofs.merge_keys.with_all.Goals as goal

pub loop-key-preserved : goal.loop-key-preserved
loop-key-preserved c = λ k h.
    let key = string_bytes c.in-Some.key in
    let set = c.loop-key.set in
    let from = c.loop-key.from in
    let left = c.pop_first.new.self in
    let put : contains_text c.insert.new.self k
    ≡ cond (bytes_eq key k) true (contains_text set k) =
    btree_set_updates_text key set c.insert.new.self true c.in_ok-insert.ensures.updates k in
    let out : contains_text left k ≡ cond (bytes_eq key k) false (contains_text from k) =
    btree_set_updates_text key from left false c.in-Some.ensures.updates k in
    let there : bytes_eq key k ≡ true → contains_text from k ≡ true = λ e.
    ap (contains_text from) (sym ((bytes_eq-Decides key k).0 e)) ∙ c.in-Some.ensures.member in
    let was = contains_text from k in
    c.loop-key.invariant k (moved (bytes_eq key k) (contains_text set k) was there
    (sym (ap (λ b. b || contains_text left k) put
    ∙ ap (λ b. cond (bytes_eq key k) true (contains_text set k) || b) out) ∙ h))
