use Rattle.std.proofs.Common.{◌≡◌, Some, ◌∙◌, ap, arith, bytes_eq, string_bytes, length}
use Rattle.std.specs.Prelude.{if◌then◌else◌}
use Rattle.indexmap.specs.IndexMap.{get_by_text}
use Rattle.std.proofs.lemmas.Map.Text.{hash_map_updates_text}
use Rattle.rvs_yaml.proofs.anchoring.add_anchor.Goals as goal

pub returns-clause-places : goal.returns-clause-places
returns-clause-places c = λ k.
    let latest = c.args.latest.now in
    let n = c.len-place.result in
    let name = c.args.anchor.name.now in
    let place : n ≡ length c.args.anchors.now.items =
    omega (arith, c.len-place.ensures, c.args.anchors.now.ok.0) in
    let bytes : string_bytes c.in_ok-from_str.field-0 ≡ name = c.in_ok-from_str.ensures.ok in
    hash_map_updates_text (string_bytes c.in_ok-from_str.field-0) latest c.insert.new.self
    (Some n) c.in_ok-insert.ensures.updates k
    ∙ ap (λ bs. if bytes_eq bs k then Some n else get_by_text latest k) bytes
    ∙ ap (λ m. if bytes_eq name k then Some m else get_by_text latest k) place
