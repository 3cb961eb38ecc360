-- The regions of the program's image are in order.
use Rattle.std.proofs.Common.{◌≡◌, ℕ, zero, suc, ◌+◌, ◌*◌, ◌≤◌, true, List, [], ◌∷◌}
use Rattle.std.proofs.Common.{Some, refl, ap, length, length-append, arith}
use Rattle.std.proofs.lemmas.Bool.Decides.{nat_tests}
use Rattle.rvs_insn.specs.Fields.{Fields}
use Rattle.rvs_insn.specs.Memory.{usual_memory}
use Rattle.rvs_machine.specs.Image.{is_text_length}
use Rattle.rvs_machine.specs.Image.{if_image}
use Rattle.rvs_demo.specs.Program.{code, generated, program, image, next_seed}

pub code_length : (is : List Fields) → length (code is) ≡ 4 * length is
code_length [] = refl
code_length (i ∷ is) = grind (arith, length-append, (code_length is))

pub generated_length : (n s : ℕ) → length (generated n s) ≡ n
generated_length zero s = refl
generated_length (suc n) s = ap suc (generated_length n (next_seed s))

pub program_length : (n : ℕ) → length (program n) ≡ n + 11
program_length n = grind (arith, length-append, generated_length)

is_short : (n k : ℕ) → n ≤ 1000000 → k ≡ 4 * (n + 11) → is_text_length usual_memory k ≡ true
is_short n k h e = grind (arith, nat_tests)

pub in_order : (n : ℕ) → n ≤ 1000000 → if_image (image n) ≡ Some (image n)
in_order n h = grind (arith, code_length, program_length, is_short)
