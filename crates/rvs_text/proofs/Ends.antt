-- Spaces at the ends.
use Rattle.std.proofs.Common.{◌≡◌, ℕ, ◌+◌, ◌<◌, false, List, [], ◌∷◌, ◌++◌, length, take, drop}
use Rattle.std.proofs.Common.{get_or, refl, sym, ap, ◌∙◌, arith}
use Rattle.std.specs.Prelude.{◌==◌}
use Rattle.std.proofs.lemmas.List.{take_more}
use Rattle.std.proofs.lemmas.Bool.Decides.{nat_tests}
use Rattle.rvs_text.specs.Spaces.{without_spaces, without_end, keep_end}
use Rattle.rvs_text.proofs.Lists.{drop-at}

space-here : (b : ℕ) (bs : List ℕ) → b ≡ 32 → without_spaces (b ∷ bs) ≡ without_spaces bs
space-here b bs e = rw (e, without_spaces) refl

pub spaces-more : (bs : List ℕ) (i : ℕ) → i < length bs → get_or bs i 0 ≡ 32
    → without_spaces (drop (i + 1) bs) ≡ without_spaces (drop i bs)
spaces-more bs i h e = simp (drop-at, space-here)

end-space : (xs : List ℕ) → without_end (xs ++ 32 ∷ []) ≡ without_end xs
end-space [] = refl
end-space (x ∷ xs) = ap (keep_end x) (end-space xs)

end-solid : (xs : List ℕ) (b : ℕ) → (b == 32) ≡ false → without_end (xs ++ b ∷ []) ≡ xs ++ b ∷ []
end-solid [] b h = rw h refl
end-solid (x ∷ []) b h = ap (keep_end x) (end-solid [] b h)
end-solid (x ∷ y ∷ xs) b h = ap (keep_end x) (end-solid (y ∷ xs) b h)

pub solid-more : (bs : List ℕ) (m : ℕ) → m < length bs → get_or bs m 0 ≡ 32
    → without_end (take m bs) ≡ without_end (take (m + 1) bs)
solid-more bs m h e = sym (ap without_end (take_more bs m 0 h)
    ∙ ap (λ b. without_end (take m bs ++ b ∷ [])) e ∙ end-space (take m bs))

ne_test : (a b : ℕ) → (a ≡ b → ⊥) → (a == b) ≡ false
ne_test a b h = grind (arith, nat_tests)

pub solid-end : (bs : List ℕ) (m : ℕ) → m < length bs → (get_or bs m 0 ≡ 32 → ⊥)
    → without_end (take (m + 1) bs) ≡ take (m + 1) bs
solid-end bs m h e = ap without_end (take_more bs m 0 h)
    ∙ end-solid (take m bs) (get_or bs m 0) (ne_test (get_or bs m 0) 32 e)
    ∙ sym (take_more bs m 0 h)
