use Rattle.std.proofs.Common.{ap, ◌∙◌}
use Rattle.std.proofs.lemmas.List.{take_at}
use Rattle.rvs_insn.specs.Memory.{Memory}
use Rattle.rvs_asm.specs.Mending.{in_region}
use Rattle.rvs_asm.proofs.mending.add_to_section.Goals as goal

pub returns-clause-text : goal.returns-clause-text
returns-clause-text c =
    let m = c.args.memory in
    let new = c.add_in_region.new.bytes in
    let old = c.deref_mut.result.now in
    take_at new _ c.args.sections.now.text.len
    (c.add_in_region.auto.bytes ∙ c.deref_mut.ensures.len)
    ∙ c.add_in_region.ensures
    ∙ ap (λ (x : Memory). in_region x.text_base c.text_limit-text_limit.result c.args.at c.args.bits
    old) c.memory.view_is
    ∙ ap (λ l. in_region m.text_base l c.args.at c.args.bits old)
    c.text_limit-text_limit.ensures.value
    ∙ ap (in_region m.text_base _ c.args.at c.args.bits) c.deref_mut.ensures.value

pub returns-clause-data_bytes : goal.returns-clause-data_bytes
returns-clause-data_bytes c =
    let m = c.args.memory in
    let new = c.add_in_region-2.new.bytes in
    let old = c.deref_mut-2.result.now in
    take_at new _ c.args.sections.now.data_bytes.len
    (c.add_in_region-2.auto.bytes ∙ c.deref_mut-2.ensures.len)
    ∙ c.add_in_region-2.ensures
    ∙ ap (λ (x : Memory). in_region x.data_base c.data_limit-data_limit.result c.args.at c.args.bits
    old) c.memory.view_is
    ∙ ap (λ l. in_region m.data_base l c.args.at c.args.bits old)
    c.data_limit-data_limit.ensures.value
    ∙ ap (in_region m.data_base _ c.args.at c.args.bits) c.deref_mut-2.ensures.value
