-- Words one after the other.
use Rattle.std.proofs.Common.{◌≡◌, ℕ, zero, suc, ◌+◌, ◌*◌, List, [], ◌∷◌, ◌++◌, length, refl, ap}
use Rattle.std.proofs.Common.{◌∙◌, arith}
use Rattle.rvs_machine.specs.Machine.{word_at, words_from}

pub word_more : (n i : ℕ) (bytes : List ℕ)
    → words_from (n + 1) i bytes ≡ words_from n i bytes ++ word_at bytes (i + 4 * n) ∷ []
word_more zero i bytes = let e : i + 4 * 0 ≡ i = omega arith in rw e refl
word_more (suc n) i bytes =
    let e : suc n + 1 ≡ suc (n + 1) = omega arith in
    let f : i + 4 + 4 * n ≡ i + 4 * suc n = omega arith in
    ap (λ k. words_from k i bytes) e
    ∙ ap (λ l. word_at bytes i ∷ l)
    (word_more n (i + 4) bytes ∙ ap (λ k. words_from n (i + 4) bytes ++ word_at bytes k ∷ []) f)

pub words_length : (n i : ℕ) (bytes : List ℕ) → length (words_from n i bytes) ≡ n
words_length zero i bytes = refl
words_length (suc n) i bytes = ap suc (words_length n (i + 4) bytes)
