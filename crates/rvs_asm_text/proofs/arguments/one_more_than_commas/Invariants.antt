use Rattle.std.proofs.Common.{◌≡◌, ◌≤◌, ◌+◌, drop}
use Rattle.std.specs.Prelude.{◌==◌, count_by}
use Rattle.rvs_asm_text.proofs.arguments.one_more_than_commas.Given as goal

abbrev pub invariant-loop-c : goal.invariant-loop-c
invariant-loop-c l = record {
  counted : l.count + count_by (λ c. c == 44) (drop l.c-index l.text)
      ≡ count_by (λ c. c == 44) l.text + 1;
  few : l.count ≤ l.c-index + 1;
}
