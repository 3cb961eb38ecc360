-- Keys with each single quote twice.
use Rattle.std.proofs.Common.{◌≡◌, ℕ, suc, ◌+◌, ◌<◌, Bool, true, false, List, [], ◌∷◌, ◌++◌, length}
use Rattle.std.proofs.Common.{take, drop, refl, sym, ap, ◌∙◌, arith, append_assoc, cond, not}
use Rattle.std.proofs.Common.{length-drop}
use Rattle.std.specs.Prelude.{◌==◌, if◌then◌else◌}
use Rattle.std.specs.List.{before_first, after_first, position_or_len}
use Rattle.rvs_cgf.specs.Print.{doubled}

-- where the first byte is a quote, and where it isn't
step-by : (b : Bool) (c : ℕ) (cs : List ℕ) (n : ℕ)
    → (n < length cs → doubled cs ≡ take n cs ++ (39 ∷ 39 ∷ doubled (drop (n + 1) cs)))
    → cond (not b) (1 + n) 0 < suc (length cs) →
    (if b then 39 ∷ 39 ∷ [] else c ∷ []) ++ doubled cs ≡ take (cond (not b) (1 + n) 0) (c ∷ cs)
    ++ (39 ∷ 39 ∷ doubled (drop (cond (not b) (1 + n) 0 + 1) (c ∷ cs)))
step-by true c cs n ih h = refl
step-by false c cs n ih h =
    let one : 1 + n ≡ suc n = omega arith in
    let more : suc n + 1 ≡ suc (n + 1) = omega arith in
    ap (λ xs. c ∷ xs) (ih (omega arith))
    ∙ sym (ap (λ m. take m (c ∷ cs) ++ (39 ∷ 39 ∷ doubled (drop (m + 1) (c ∷ cs)))) one
    ∙ ap (λ m. take (suc n) (c ∷ cs) ++ (39 ∷ 39 ∷ doubled (drop m (c ∷ cs)))) more)

step : (s : List ℕ) → position_or_len (λ b. b == 39) s < length s → doubled s
    ≡ before_first (λ b. b == 39) s ++ (39 ∷ 39 ∷ doubled (after_first (λ b. b == 39) s))
step [] h = absurd (omega arith)
step (c ∷ cs) h = step-by (c == 39) c cs (position_or_len (λ b. b == 39) cs) (step cs) h

pub doubled_more : (text s : List ℕ) → position_or_len (λ b. b == 39) s < length s
    → (text ++ (before_first (λ b. b == 39) s ++ (39 ∷ 39 ∷ [])))
    ++ doubled (after_first (λ b. b == 39) s) ≡ text ++ doubled s
doubled_more text s h =
    append_assoc text (before_first (λ b. b == 39) s ++ (39 ∷ 39 ∷ []))
    (doubled (after_first (λ b. b == 39) s))
    ∙ ap (λ xs. text ++ xs) (append_assoc (before_first (λ b. b == 39) s) (39 ∷ 39 ∷ [])
    (doubled (after_first (λ b. b == 39) s)) ∙ sym (step s h))

all-by : (b : Bool) (c : ℕ) (cs : List ℕ) (n : ℕ) → (n ≡ length cs → doubled cs ≡ cs)
    → cond (not b) (1 + n) 0 ≡ suc (length cs)
    → (if b then 39 ∷ 39 ∷ [] else c ∷ []) ++ doubled cs ≡ c ∷ cs
all-by true c cs n ih h = absurd (omega arith)
all-by false c cs n ih h = ap (λ xs. c ∷ xs) (ih (omega arith))

pub doubled_all : (s : List ℕ) → position_or_len (λ b. b == 39) s ≡ length s → doubled s ≡ s
doubled_all [] h = refl
doubled_all (c ∷ cs) h =
    all-by (c == 39) c cs (position_or_len (λ b. b == 39) cs) (doubled_all cs) h

-- what is behind the first quote is shorter
pub shorter : (s : List ℕ) → position_or_len (λ b. b == 39) s < length s
    → length (after_first (λ b. b == 39) s) < length s
shorter s h = simp length-drop (omega arith)
