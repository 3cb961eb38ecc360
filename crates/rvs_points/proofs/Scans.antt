-- Words that an opening parenthesis follows.
use Rattle.std.proofs.Common.{◌≡◌, ℕ, zero, suc, ◌-◌, ◌≤◌, max, Bool, true, false, List, [], ◌∷◌}
use Rattle.std.proofs.Common.{length, take, drop, length-drop, get_or, refl, sym, ap, ◌∙◌, arith}
use Rattle.std.proofs.lemmas.Bool.{or_left}
use Rattle.std.specs.Prelude.{◌||◌}
use Rattle.rvs_text.proofs.Lists.{take-all}
use Rattle.rvs_abstract.specs.Calls.{name_length, is_letter, is_digit}
use Rattle.rvs_points.specs.Keys.{calls, has_call}

over : (n : ℕ) (cs : List ℕ) → n ≤ length cs → has_call n cs ≡ has_call zero (drop n cs)
over zero cs h = refl
over (suc n) [] h = refl
over (suc n) (c ∷ cs) h = over n cs (omega arith)

or-false : (a b : Bool) → a ≡ false → (a || b) ≡ b
or-false true b e = cc
or-false false b e = refl

step : (n : ℕ) (c : ℕ) (cs : List ℕ) → n ≤ suc (length cs)
    → has_call (n - 1) cs ≡ has_call zero (drop (max n 1) (c ∷ cs))
step zero c cs h = refl
step (suc n) c cs h =
    let e : suc n - 1 ≡ n = omega arith in
    let k : suc n ≡ max (suc n) 1 = omega arith in
    ap (λ m. has_call m cs) e ∙ over n cs (omega arith)
    ∙ ap (λ m. has_call zero (drop m (c ∷ cs))) k

short-by : (c : ℕ) (cs : List ℕ) (b : Bool) → (is_letter c || is_digit c) ≡ b
    → name_length cs ≤ length cs → name_length (c ∷ cs) ≤ suc (length cs)
short-by c cs true e h = rw (e, name_length) (omega arith)
short-by c cs false e h = rw (e, name_length) (omega arith)

short : (cs : List ℕ) → name_length cs ≤ length cs
short [] = omega arith
short (c ∷ cs) = short-by c cs (is_letter c || is_digit c) refl (short cs)

-- behind a word that no opening parenthesis follows
pub call_more : (t : List ℕ) → 1 ≤ length t → calls (get_or t 0 0) t ≡ false
    → has_call zero (drop (max (name_length t) 1) t) ≡ has_call zero t
call_more [] some k = absurd (omega arith)
call_more (c ∷ cs) some k = sym (step (name_length (c ∷ cs)) c cs (short (c ∷ cs)))
    ∙ sym (or-false (calls c (c ∷ cs)) (has_call (name_length (c ∷ cs) - 1) cs) k)

pub call_here : (t : List ℕ) → 1 ≤ length t → calls (get_or t 0 0) t ≡ true → has_call zero t ≡ true
call_here [] some k = absurd (omega arith)
call_here (c ∷ cs) some k = or_left (calls c (c ∷ cs)) (has_call (name_length (c ∷ cs) - 1) cs) k

-- all that is behind an index
pub rest_all : (bs : List ℕ) (j : ℕ) → take (length bs - j) (drop j bs) ≡ drop j bs
rest_all bs j = ap (λ n. take n (drop j bs)) (sym (length-drop j bs)) ∙ take-all (drop j bs)
