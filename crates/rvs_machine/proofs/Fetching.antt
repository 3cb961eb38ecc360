-- A word whose bytes stand in the text is fetched.
use Rattle.std.proofs.Common.{◌≡◌, ℕ, ◌+◌, ◌/◌, ◌%◌, ◌^◌, ◌-◌, ◌<◌, true, cond, List, ◌++◌, length}
use Rattle.std.proofs.Common.{Some, None, sym, ap, ◌∙◌, arith, length-append}
use Rattle.std.proofs.lemmas.List.{get_or-append-add}
use Rattle.std.proofs.lemmas.Bool.Decides.{nat_tests}
use Rattle.std.specs.Prelude.{slice_index, nat_le, nat_lt, ◌&&◌}
use Rattle.std.specs.Int.{w32, to_le_bytes}
use Rattle.rvs_insn.specs.Memory.{Memory}
use Rattle.rvs_machine.specs.Machine.{fetch, word_at}

inside : (base n k : ℕ) → n < k
    → (nat_le base (base + n) && nat_lt (base + n) (base + k)) ≡ true
inside base n k h = grind (arith, nat_tests)

-- a word that stands in the text is fetched
pub word_there : (m : Memory) (text a b : List ℕ) (w : ℕ) → text ≡ a ++ (to_le_bytes w32 w ++ b)
    → w < 2 ^ 32
    → fetch m text (m.text_base + length a) ≡ Some w
word_there m text a b w e h =
    let base = m.text_base in
    let at : base + length a - base ≡ length a = omega arith in
    let n = length a in
    let l : length text ≡ length a + (4 + length b) =
    ap length e ∙ length-append a (to_le_bytes w32 w ++ b) ∙ ap (λ k. n + k) (omega arith) in
    let f : (k : ℕ) → slice_index text (n + k) ≡ slice_index (to_le_bytes w32 w ++ b) k =
    λ k. ap (λ t. slice_index t (n + k)) e ∙ get_or-append-add a (to_le_bytes w32 w ++ b) k 0 in
    let z : n + 0 ≡ n = omega arith in
    let f0 : slice_index text n ≡ w % 256 = ap (slice_index text) (sym z) ∙ f 0 in
    let f1 : slice_index text (n + 1) ≡ w / 256 % 256 = f 1 in
    let f2 : slice_index text (n + 2) ≡ w / 65536 % 256 = f 2 in
    let f3 : slice_index text (n + 3) ≡ w / 16777216 % 256 = f 3 in
    let v : word_at text n ≡ w = rw (f0, f1, f2, f3) (omega arith) in
    let test :
    (nat_le base (base + n) && nat_lt (base + n) (base + length text))
    ≡ true = inside base n (length text) (omega (arith, l)) in
    ap (λ t. cond t (Some (word_at text (base + n - base))) None) test
    ∙ ap (λ k. Some (word_at text k)) at
    ∙ ap Some v
