use Rattle.std.proofs.Common.{◌≡◌, drop}
use Rattle.std.specs.List.{find}
use Rattle.rvs_elf.specs.Tables.{are_symbols}
use Rattle.rvs_elf.proofs.entries.first_symbols.Given as goal

abbrev pub invariant-loop-section : goal.invariant-loop-section
invariant-loop-section l =
    find are_symbols (drop l.section-index l.sections) ≡ find are_symbols l.sections
