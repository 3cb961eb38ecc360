-- Texts that begin with a front.
use Rattle.std.proofs.Common.{◌≡◌, ℕ, ◌==◌, ◌&&◌, Bool, true, false, if◌then◌else◌, not, List, []}
use Rattle.std.proofs.Common.{◌∷◌, length, take, drop, Option, Some, None, nat_eq, refl, ap, ◌∙◌}
use Rattle.std.proofs.Common.{arith}
use Rattle.std.specs.Prelude.{is_none}
use Rattle.std.specs.Cmp.Lexicographic.{pointwise}
use Rattle.rvs_asm_text.specs.Header.{after_front}
use Rattle.rvs_asm_text.specs.Directives.{begins}

one_more : {A : Type 0} (b same : Bool) (o : Option A) (rest : A)
    → o ≡ (if same then Some rest else None)
    → (if b then o else None) ≡ (if b && same then Some rest else None)
one_more true same o rest e = e
one_more false same o rest e = refl

-- as `strip_prefix` cuts it off
pub front_cut : (front text : List ℕ) → after_front front text
    ≡ (if pointwise nat_eq (take (length front) text) front then Some (drop (length front) text)
    else None)
front_cut [] text = refl
front_cut (p ∷ ps) [] = refl
front_cut (p ∷ ps) (c ∷ cs) =
    one_more (c == p) (pointwise nat_eq (take (length ps) cs) ps) (after_front ps cs)
    (drop (length ps) cs) (front_cut ps cs)

either_none : {A : Type 0} (b : Bool) (o : Option A)
    → not (is_none (if b then o else None)) ≡ (b && not (is_none o))
either_none true o = refl
either_none false o = refl

same_tests : (m n : ℕ) → (m == n) ≡ (n == m)
same_tests m n = grind arith

-- as `starts_with` looks for it
pub begins_as : (front text : List ℕ)
    → begins front text ≡ pointwise nat_eq front (take (length front) text)
begins_as [] text = refl
begins_as (p ∷ ps) [] = refl
begins_as (p ∷ ps) (c ∷ cs) =
    either_none (c == p) (after_front ps cs)
    ∙ ap (λ b. b && begins ps cs) (same_tests c p)
    ∙ ap (λ b. (p == c) && b) (begins_as ps cs)
