use Rattle.std.proofs.Common.{◌≡◌, drop}
use Rattle.std.specs.List.{list_all}
use Rattle.rvs_asm_text.specs.Operands.{continues_symbol}
use Rattle.rvs_asm_text.proofs.names.all_continue.Given as goal

abbrev pub invariant-loop-c : goal.invariant-loop-c
invariant-loop-c l =
    list_all continues_symbol (drop l.c-index l.text) ≡ list_all continues_symbol l.text
