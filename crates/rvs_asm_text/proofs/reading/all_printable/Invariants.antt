use Rattle.std.proofs.Common.{◌≡◌, drop}
use Rattle.std.specs.List.{list_all}
use Rattle.rvs_asm_text.specs.Text.{is_text_byte}
use Rattle.rvs_asm_text.proofs.reading.all_printable.Given as goal

abbrev pub invariant-loop-c : goal.invariant-loop-c
invariant-loop-c l = list_all is_text_byte (drop l.c-index l.text) ≡ list_all is_text_byte l.text
