use Rattle.std.proofs.Common.{ap, refl}
use Rattle.rvs_elf.specs.Fields.{fields_bytes}
use Rattle.rvs_elf.proofs.Joined.{three_put}
use Rattle.rvs_elf.proofs.writing.put_loaded_sections.Goals as goal

pub returns : goal.returns
returns c =
    three_put c.args.out.now.items c.put_zeros.new.out.items c.put.new.out.items
    c.put-2.new.out.items _ _ _ _ _ _ c.in_ok-put_zeros.ensures c.in_ok-put.ensures
    c.in_ok-put-2.ensures refl (ap fields_bytes c.loaded_section.ensures)
    (ap fields_bytes c.loaded_section-2.ensures)
