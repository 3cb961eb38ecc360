use Rattle.std.proofs.Common.{◌≡◌, ℕ, List, [], Some, ap, sym, ◌∙◌}
use Rattle.std.specs.List.{position}
use Rattle.std.proofs.lemmas.List.{get_or_read}
use Rattle.std.proofs.lemmas.List.Quantifiers.{position-Some}
use Rattle.rvs_memory.proofs.Held.{is_named, held-None, held-Some}
use Rattle.rvs_memory.proofs.memory_run.copy_of.Goals as goal

pub returns-in-None : goal.returns-in-None
returns-in-None c = sym (held-None c.args.files.now c.args.name.now (sym c.in-None.ensures))

pub returns-in_ok-to_vec-in-Some : goal.returns-in_ok-to_vec-in-Some
returns-in_ok-to_vec-in-Some c =
    let found : position (is_named c.args.name.now) c.args.files.now ≡ Some c.in-Some.place =
    sym c.in-Some.ensures in
    let within = (position-Some (is_named c.args.name.now) c.args.files.now c.in-Some.place ([], [])
    found).0 in
    let read = get_or_read c.args.files.now c.in-Some.place c.index-files-place.result within
    c.index-files-place.is ([], []) in
    ap Some (c.from.ensures ∙ c.in_ok-to_vec-in-Some.ensures.items_if_clones_equal (λ x y e. e)
    ∙ c.as_slice.ensures ∙ ap (λ (f : List ℕ × List ℕ). f.1) (sym c.index-files-place.is))
    ∙ ap (λ (f : List ℕ × List ℕ). Some f.1) read
    ∙ sym (held-Some c.args.files.now c.args.name.now c.in-Some.place found)
