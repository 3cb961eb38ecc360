use Rattle.std.proofs.Common.{◌≡◌, ℕ, List, [], ◌∷◌, ◌++◌, Some, None, set, sym, ◌∙◌, ap}
use Rattle.std.specs.List.{position}
use Rattle.std.proofs.lemmas.Result.{on_ok_weaker}
use Rattle.rvs_memory.specs.Memory.{held}
use Rattle.rvs_memory.proofs.Held.{is_named, held-set, held-push}
use Rattle.rvs_memory.proofs.memory_run.store.Goals as goal

pub returns-in-None-clause-stored : goal.returns-in-None-clause-stored
returns-in-None-clause-stored c =
    let named : c.from-name_of_file.result ≡ c.args.name.now =
    c.from-name_of_file.ensures ∙ c.in_ok-from_str.ensures.ok in
    let copied : c.from-bytes.result ≡ c.args.bytes.now =
    c.from-bytes.ensures ∙ c.in_ok-to_vec.ensures.items_if_clones_equal (λ x y e. e) in
    let missing : position (is_named c.args.name.now) c.args.files.now ≡ None =
    ap (position (is_named c.args.name.now)) (sym c.as_slice.ensures) ∙ sym c.in-None.ensures in
    on_ok_weaker c.push.result
    (λ added other. ap (λ fs. held fs other) (added
    ∙ ap (λ (f : List ℕ × List ℕ). c.args.files.now ++ f ∷ []) (λ i. (named i, copied i)))
    ∙ held-push c.args.files.now c.args.name.now c.args.bytes.now missing other)
    c.push.ensures.added

pub returns-in-Some-clause-stored : goal.returns-in-Some-clause-stored
returns-in-Some-clause-stored c = λ other.
    let named : c.from-name_of_file.result ≡ c.args.name.now =
    c.from-name_of_file.ensures ∙ c.in_ok-from_str.ensures.ok in
    let copied : c.from-bytes.result ≡ c.args.bytes.now =
    c.from-bytes.ensures ∙ c.in_ok-to_vec.ensures.items_if_clones_equal (λ x y e. e) in
    let found : position (is_named c.args.name.now) c.args.files.now ≡ Some c.in-Some.place =
    ap (position (is_named c.args.name.now)) (sym c.as_slice.ensures) ∙ sym c.in-Some.ensures in
    ap (λ fs. held fs other) (c.set.ensures ∙ ap
    (λ (f : List ℕ × List ℕ). set c.args.files.now c.in-Some.place f)
    (λ i. (named i, copied i))) ∙ held-set c.args.files.now c.args.name.now c.args.bytes.now
    c.in-Some.place found other
