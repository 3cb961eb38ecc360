use Rattle.std.proofs.Common.{ap}
use Rattle.rvs_elf.specs.Fields.{fields_bytes}
use Rattle.rvs_elf.proofs.Joined.{three_put}
use Rattle.rvs_elf.proofs.writing.put_table_sections.Goals as goal

pub returns : goal.returns
returns c =
    three_put c.args.out.now.items c.put.new.out.items c.put-2.new.out.items
    c.put-3.new.out.items _ _ _ _ _ _ c.in_ok-put.ensures c.in_ok-put-2.ensures
    c.in_ok-put-3.ensures (ap fields_bytes c.symbol_section.ensures)
    (ap fields_bytes c.string_section.ensures) (ap fields_bytes c.string_section-2.ensures)
