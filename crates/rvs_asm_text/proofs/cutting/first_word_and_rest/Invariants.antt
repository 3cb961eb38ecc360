use Rattle.std.proofs.Common.{◌≡◌, ◌++◌, take, drop}
use Rattle.rvs_asm_text.specs.Text.{first_word, after_word}
use Rattle.rvs_asm_text.proofs.cutting.first_word_and_rest.Given as goal

abbrev pub invariant-loop-i : goal.invariant-loop-i
invariant-loop-i l = record {
  word : first_word l.text ≡ take l.i l.text ++ first_word (drop l.i l.text);
  rest : after_word l.text ≡ after_word (drop l.i l.text);
}
