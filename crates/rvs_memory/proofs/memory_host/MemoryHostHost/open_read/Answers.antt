use Rattle.std.proofs.Common.{◌≡◌, ℕ, List, Some, None, get_or, [], refl, sym, ◌∙◌, ap, rules}
use Rattle.std.specs.List.{position}
use Rattle.rvs_memory.proofs.Held.{is_named, held-None, held-Some}
use Rattle.rvs_memory.proofs.Telling.{lacks, opens}
use Rattle.rvs_memory.proofs.memory_host.MemoryHostHost.open_read.Goals as goal

pub returns-in-None-clause-cause : goal.returns-in-None-clause-cause
returns-in-None-clause-cause c =
    let files = c.as_slice.ensures ∙ ap (λ s. s.files) c.self.view_is
    ∙ ap (λ s. s.files) c.begins_to_fail-fails.ensures.counted in
    let missing : position (is_named c.args.name.now) c.args.self.now.files ≡ None =
    ap (position (is_named c.args.name.now)) (sym files) ∙ sym c.in-None.ensures in
    lacks c.args.self.now _ c.args.name.now
    (held-None c.args.self.now.files c.args.name.now missing)
    (ap (λ s. s.read_faults) c.self.view_is
    ∙ ap (λ s. s.read_faults) c.begins_to_fail-fails.ensures.counted)

pub returns-in-Some-clause-opened : goal.returns-in-Some-clause-opened
returns-in-Some-clause-opened c =
    let inside = ap (λ s. s.files) c.self.view_is
    ∙ ap (λ s. s.files) c.begins_to_fail-fails.ensures.counted in
    let files = c.as_slice.ensures ∙ inside in
    let found : position (is_named c.args.name.now) c.args.self.now.files ≡ Some c.in-Some.file =
    ap (position (is_named c.args.name.now)) (sym files) ∙ sym c.in-Some.ensures in
    let same = ap (λ (fs : List (List ℕ × List ℕ)). Some (get_or fs c.in-Some.file ([], [])).1)
    (sym inside) in
    opens c.args.self.now _ c.args.name.now _
    (held-Some c.args.self.now.files c.args.name.now c.in-Some.file found ∙ same) refl refl
    (search rules) (search rules)
