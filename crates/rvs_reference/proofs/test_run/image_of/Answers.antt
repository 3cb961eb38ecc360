use Rattle.std.proofs.Common.{sym, ap, ◌∙◌}
use Rattle.rvs_insn.specs.Isa.{Isa}
use Rattle.rvs_reference.proofs.Accepts.{image-stops, executable-stops}
use Rattle.rvs_reference.proofs.test_run.image_of.Goals as goal

pub returns-then-is_image_name : goal.returns-then-is_image_name
returns-then-is_image_name c = image-stops c.args.spec c.spec.inside.memory c.args.name.now
    c.args.bytes.now c.read_image.result c.accepted.result
    (ap (λ (s : Isa). s.memory) c.spec.view_is)
    (sym c.is_image_name.ensures ∙ c.if-is_image_name.true) c.read_image.ensures
    c.accepted.ensures

pub returns-then-is_executable_name : goal.returns-then-is_executable_name
returns-then-is_executable_name c =
    executable-stops c.args.spec c.spec-then-is_executable_name.inside.memory c.args.name.now
    c.args.bytes.now c.read_elf.result c.accepted-then-is_executable_name.result
    (ap (λ (s : Isa). s.memory) c.spec-then-is_executable_name.view_is)
    (sym c.is_image_name.ensures ∙ c.if-is_image_name.false)
    (sym c.is_executable_name.ensures ∙ c.if-is_executable_name.true) c.read_elf.ensures
    c.accepted-then-is_executable_name.ensures
