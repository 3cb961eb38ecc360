use Rattle.std.proofs.Common.{◌≡◌, drop}
use Rattle.std.specs.List.{list_any}
use Rattle.rvs_asm_text.specs.Text.{is_blank}
use Rattle.rvs_asm_text.proofs.directives.has_blank.Given as goal

abbrev pub invariant-loop-c : goal.invariant-loop-c
invariant-loop-c l = list_any is_blank (drop l.c-index l.text) ≡ list_any is_blank l.text
