use Rattle.std.proofs.Common.{rules, ◌≡◌, ◌∙◌, ap, w32, to_z, of_z}
use Rattle.std.specs.Prelude.{pos, unwrap_or}
use Rattle.rvs_choice.specs.Choice.{ChoiceValue}
use Rattle.rvs_test.proofs.Grows.{jump_there}
use Rattle.rvs_test.proofs.case_lines.add_jump_case.Goals as goal

pub returns : goal.returns
returns c =
    let imm = c.unwrap_or.result in
    let same : to_z w32 (of_z w32 imm) ≡ imm = search rules in
    jump_there c.args.choice.now c.args.k c.pointer.result c.marker-m.result c.number.result
    (to_z w32 (of_z w32 imm)) c.unlinked.result c.args.list.now.items _ _ _ c.save.result
    c.pointer.ensures.value c.marker-m.ensures.value
    (c.number.ensures.value ∙ ap (λ (v : ChoiceValue). unwrap_or v.rd 0) c.choice.view_is)
    (same ∙ c.unwrap_or.ensures
    ∙ ap (λ (v : ChoiceValue). unwrap_or v.imm (pos 0)) c.choice.view_is)
    c.unlinked.ensures c.save.ensures c.in_ok-add_sources.ensures c.in_ok-add_frame.ensures
    c.in_ok-extend_from_slice.ensures.items
