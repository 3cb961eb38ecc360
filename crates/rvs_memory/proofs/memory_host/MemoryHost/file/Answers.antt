use Rattle.std.proofs.Common.{◌≡◌, List, ℕ, Some, None, get_or, [], sym, ◌∙◌, ap}
use Rattle.std.specs.List.{position}
use Rattle.std.proofs.lemmas.List.{get_or_read}
use Rattle.std.proofs.lemmas.List.Quantifiers.{position-Some}
use Rattle.rvs_memory.proofs.Held.{is_named, held-None, held-Some}
use Rattle.rvs_memory.proofs.memory_host.MemoryHost.file.Goals as goal

pub returns-in_err-place-clause-absent : goal.returns-in_err-place-clause-absent
returns-in_err-place-clause-absent c =
    let files = c.as_slice.ensures ∙ ap (λ s. s.files) c.self.view_is in
    let missing : position (is_named c.args.name.now) c.args.self.now.files ≡ None =
    ap (position (is_named c.args.name.now)) (sym files) ∙ sym c.place_of.ensures
    ∙ c.in_err-place.was in
    rw c.from_residual.ensures (held-None c.args.self.now.files c.args.name.now missing)

pub returns-clause-there : goal.returns-clause-there
returns-clause-there c =
    let files = c.as_slice.ensures ∙ ap (λ s. s.files) c.self.view_is in
    let files_again = c.as_slice-2.ensures ∙ ap (λ s. s.files) c.self.view_is in
    let found : position (is_named c.args.name.now) c.args.self.now.files
    ≡ Some c.in_ok-place.place = ap (position (is_named c.args.name.now)) (sym files)
    ∙ sym c.place_of.ensures ∙ c.in_ok-place.was in
    let within = (position-Some (is_named c.args.name.now) c.args.self.now.files c.in_ok-place.place
    ([], []) found).0 in
    let item = c.index-as_slice-place.is
    ∙ ap (λ fs. get_or fs c.in_ok-place.place c.index-as_slice-place.result) files_again in
    let read = get_or_read c.args.self.now.files c.in_ok-place.place c.index-as_slice-place.result
    within item ([], []) in
    held-Some c.args.self.now.files c.args.name.now c.in_ok-place.place found ∙ ap
    (λ (f : List ℕ × List ℕ). Some f.1) (sym read) ∙ ap Some
    (ap (λ (f : List ℕ × List ℕ). f.1) c.index-as_slice-place.is ∙ sym c.as_slice-3.ensures)
