-- How the lines of a piece are found.
use Rattle.std.proofs.Common.{◌≡◌, ℕ, zero, suc, ◌+◌, ◌<◌, ◌≤◌, Bool, true, false, List, []}
use Rattle.std.proofs.Common.{◌∷◌, ◌++◌, Option, Some, None, refl, sym, ap, subst, ◌∙◌, length}
use Rattle.std.proofs.Common.{take, drop, get_or, arith, append_assoc, append-nil, length-append}
use Rattle.std.proofs.Common.{length-drop, rules}
use Rattle.std.specs.Prelude.{◌==◌, nat_le}
use Rattle.rvs_text.proofs.Lists.{take-all}
use Rattle.rvs_log.specs.Lines.{held, held_more}
use Rattle.rvs_log.specs.Cutting.{held_after, lines_held, lines_after}

-- ---- bytes that wait
held_long : (t more : List ℕ) → nat_le (length t) 4096 ≡ false → None ≡ held (t ++ more)
held_long t more h = grind (arith, length-append)

held_more_held : (t more : List ℕ) → held_more (held t) more ≡ held (t ++ more)
held_more_held t more = search (rules, append-nil, held_long)

held_more_none : (c : List ℕ) → held_more None c ≡ None
held_more_none c = grind arith

held_more_twice : (w : Option (List ℕ)) (a c : List ℕ)
    → held_more (held_more w a) c ≡ held_more w (a ++ c)
held_more_twice w a c = search (rules, held_more_none, held_more_held, append_assoc)

-- ---- going over bytes
abbrev feedless : List ℕ → Type 0
feedless [] = Unit {0}
feedless (b ∷ bs) = ((b == 10) ≡ false) × feedless bs

feedless_take : (hay : List ℕ) (n : ℕ)
    → ((k : ℕ) → 0 ≤ k → k < n → (get_or hay k 0 == 10) ≡ true → ⊥) → feedless (take n hay)
feedless_take [] zero h = tt
feedless_take [] (suc n) h = tt
feedless_take (b ∷ bs) zero h = tt
feedless_take (b ∷ bs) (suc n) h = (
  isnt (b == 10) (h 0 (omega arith) (omega arith)),
  feedless_take bs n
      (λ k l u. h (suc k) (omega arith) (omega arith)),
)
  where
    isnt : (t : Bool) → (t ≡ true → ⊥) → t ≡ false
    isnt true h = absurd (h refl)
    isnt false h = refl

held_feedless : (w : Option (List ℕ)) (bs rest : List ℕ) → feedless bs
    → held_after w (bs ++ rest) ≡ held_after (held_more w bs) rest
held_feedless w [] rest h = refl
held_feedless w (b ∷ bs) rest h =
    ap (λ t. elim t as (λ _. Option (List ℕ)) [
      | true ↦ held_after (Some []) (bs ++ rest)
      | false ↦ held_after (held_more w (b ∷ [])) (bs ++ rest)
    ]) h.0
    ∙ held_feedless (held_more w (b ∷ [])) bs rest h.1
    ∙ ap (λ w. held_after w rest) (held_more_twice w (b ∷ []) bs)

lines_feedless : (w : Option (List ℕ)) (bs rest : List ℕ) → feedless bs
    → lines_after w (bs ++ rest) ≡ lines_after (held_more w bs) rest
lines_feedless w [] rest h = refl
lines_feedless w (b ∷ bs) rest h =
    ap (λ t. elim t as (λ _. List (List ℕ)) [
      | true ↦ lines_held w ++ lines_after (Some []) (bs ++ rest)
      | false ↦ lines_after (held_more w (b ∷ [])) (bs ++ rest)
    ]) h.0
    ∙ lines_feedless (held_more w (b ∷ [])) bs rest h.1
    ∙ ap (λ w. lines_after w rest) (held_more_twice w (b ∷ []) bs)

held_join : (w : Option (List ℕ)) (a b : List ℕ)
    → held_after w (a ++ b) ≡ held_after (held_after w a) b
held_join w [] b = refl
held_join w (x ∷ a) b =
    grind (arith, (held_join (Some []) a b), (held_join (held_more w (x ∷ [])) a b))

lines_join : (w : Option (List ℕ)) (a b : List ℕ)
    → lines_after w (a ++ b) ≡ lines_after w a ++ lines_after (held_after w a) b
lines_join w [] b = refl
lines_join w (x ∷ a) b =
    grind (arith, append_assoc, (lines_join (Some []) a b), (lines_join (held_more w (x ∷ [])) a b))

-- ---- a line feed
take_line : (hay : List ℕ) (end : ℕ) → end < length hay → (get_or hay end 0 == 10) ≡ true
    → take (end + 1) hay ≡ take end hay ++ 10 ∷ []
take_line [] end h e = absurd (omega arith)
take_line (b ∷ bs) zero h e = grind arith
take_line (b ∷ bs) (suc end) h e = grind (arith, (take_line bs end (omega arith) e))

take_twice : (a b : ℕ) (xs : List ℕ) → a ≤ length xs
    → take (a + b) xs ≡ take a xs ++ take b (drop a xs)
take_twice zero b [] h = let e : 0 + b ≡ b = omega arith in ap (λ n. take n []) e
take_twice zero b (x ∷ xs) h = let e : 0 + b ≡ b = omega arith in ap (λ n. take n (x ∷ xs)) e
take_twice (suc a) b [] h = absurd (omega arith)
take_twice (suc a) b (x ∷ xs) h =
    let e : suc a + b ≡ suc (a + b) = omega arith in ap (λ n. take n (x ∷ xs)) e
    ∙ ap (λ l. x ∷ l) (take_twice a b xs (omega arith))

held_line : (w : Option (List ℕ)) (hay : List ℕ) (end : ℕ) → end < length hay
    → ((k : ℕ) → 0 ≤ k → k < end → (get_or hay k 0 == 10) ≡ true → ⊥)
    → (get_or hay end 0 == 10) ≡ true → held_after w (take (end + 1) hay) ≡ Some []
held_line w hay end within none here = simp (take_line, held_feedless, feedless_take)

lines_line : (w : Option (List ℕ)) (hay : List ℕ) (end : ℕ) → end < length hay
    → ((k : ℕ) → 0 ≤ k → k < end → (get_or hay k 0 == 10) ≡ true → ⊥)
    → (get_or hay end 0 == 10) ≡ true
    → lines_after w (take (end + 1) hay) ≡ lines_held (held_more w (take end hay))
lines_line w hay end within none here = simp (take_line, lines_feedless, feedless_take, append-nil)

-- one line more of a piece
pub held_step : (w w0 : Option (List ℕ)) (piece : List ℕ) (used end : ℕ) → used ≤ length piece
    → w ≡ held_after w0 (take used piece) → end < length (drop used piece)
    → ((k : ℕ) → 0 ≤ k → k < end → (get_or (drop used piece) k 0 == 10) ≡ true → ⊥)
    → (get_or (drop used piece) end 0 == 10) ≡ true
    → held_after w0 (take (used + (end + 1)) piece) ≡ Some []
held_step w w0 piece used end fits e within none here = simp (take_twice, held_join, held_line)

pub lines_step : (w w0 : Option (List ℕ)) (piece : List ℕ) (used end : ℕ) → used ≤ length piece
    → w ≡ held_after w0 (take used piece) → lines_after w0 (take used piece) ≡ []
    → end < length (drop used piece)
    → ((k : ℕ) → 0 ≤ k → k < end → (get_or (drop used piece) k 0 == 10) ≡ true → ⊥)
    → (get_or (drop used piece) end 0 == 10) ≡ true
    → lines_after w0 (take (used + (end + 1)) piece)
    ≡ lines_held (held_more w (take end (drop used piece)))
lines_step w w0 piece used end fits e l within none here =
    grind (arith, take_twice, lines_join, lines_line)

-- no line ends before its line feed
lines_before : (w0 : Option (List ℕ)) (piece : List ℕ) (used end : ℕ) → used ≤ length piece
    → lines_after w0 (take used piece) ≡ []
    → ((k : ℕ) → 0 ≤ k → k < end → (get_or (drop used piece) k 0 == 10) ≡ true → ⊥)
    → lines_after w0 (take (used + end) piece) ≡ []
lines_before w0 piece used end fits e none =
    let w = held_after w0 (take used piece) in
    let more = take end (drop used piece) in
    ap (λ l. lines_after w0 l) (take_twice used end piece fits)
    ∙ lines_join w0 (take used piece) more
    ∙ ap (λ p. p ++ lines_after w more) e
    ∙ ap (λ l. lines_after w l) (sym (append-nil more))
    ∙ lines_feedless w more [] (feedless_take (drop used piece) end none)

whole_free : (hay : List ℕ) → ((k : ℕ) → 0 ≤ k → k < length hay → (get_or hay k 0 == 10) ≡ true → ⊥)
    → feedless hay
whole_free hay none = let P : List ℕ
    → Type 0 = feedless in subst P (take-all hay) (feedless_take hay (length hay) none)

pieces : (used : ℕ) (piece : List ℕ) → take used piece ++ drop used piece ≡ piece
pieces zero [] = refl
pieces zero (x ∷ xs) = refl
pieces (suc n) [] = refl
pieces (suc n) (x ∷ xs) = ap (λ l. x ∷ l) (pieces n xs)

-- no line feed is left
pub held_rest : (w w0 : Option (List ℕ)) (piece : List ℕ) (used : ℕ)
    → w ≡ held_after w0 (take used piece)
    → ((k : ℕ) → 0 ≤ k → k < length (drop used piece) → (get_or (drop used piece) k 0 == 10) ≡ true
    → ⊥)
    → held_after w0 piece ≡ held_more w (drop used piece)
held_rest w w0 piece used e none =
    ap (λ l. held_after w0 l) (sym (pieces used piece))
    ∙ held_join w0 (take used piece) (drop used piece)
    ∙ ap (λ w. held_after w (drop used piece)) (sym e)
    ∙ ap (λ l. held_after w l) (sym (append-nil (drop used piece)))
    ∙ held_feedless w (drop used piece) [] (whole_free (drop used piece) none)

pub lines_rest : (w w0 : Option (List ℕ)) (piece : List ℕ) (used : ℕ)
    → w ≡ held_after w0 (take used piece) → lines_after w0 (take used piece) ≡ []
    → ((k : ℕ) → 0 ≤ k → k < length (drop used piece) → (get_or (drop used piece) k 0 == 10) ≡ true
    → ⊥)
    → lines_after w0 piece ≡ []
lines_rest w w0 piece used e l none =
    ap (λ l. lines_after w0 l) (sym (pieces used piece))
    ∙ lines_join w0 (take used piece) (drop used piece)
    ∙ ap (λ p. p ++ lines_after (held_after w0 (take used piece)) (drop used piece)) l
    ∙ ap (λ w. lines_after w (drop used piece)) (sym e)
    ∙ ap (λ l. lines_after w l) (sym (append-nil (drop used piece)))
    ∙ lines_feedless w (drop used piece) [] (whole_free (drop used piece) none)

-- the same for a rest and a line that were cut by calls
pub step_at : (w w0 : Option (List ℕ)) (piece rest line : List ℕ) (used end : ℕ)
    → rest ≡ drop used piece → line ≡ take end rest → used ≤ length piece
    → w ≡ held_after w0 (take used piece) → lines_after w0 (take used piece) ≡ []
    → end < length rest → ((k : ℕ) → 0 ≤ k → k < end → (get_or rest k 0 == 10) ≡ true → ⊥)
    → (get_or rest end 0 == 10) ≡ true
    → (held_after w0 (take (used + (end + 1)) piece) ≡ Some [])
    × (lines_after w0 (take (used + (end + 1)) piece) ≡ lines_held (held_more w line))
    × (used + (end + 1) ≤ length piece) × (lines_after w0 (take (used + end) piece) ≡ [])
step_at w w0 piece rest line used end r l fits e none within before here =
    grind (arith, held_step, lines_step, length-drop, lines_before)

pub rest_at : (w w0 : Option (List ℕ)) (piece rest : List ℕ) (used : ℕ) → rest ≡ drop used piece
    → w ≡ held_after w0 (take used piece) → lines_after w0 (take used piece) ≡ []
    → ((k : ℕ) → 0 ≤ k → k < length rest → (get_or rest k 0 == 10) ≡ true → ⊥)
    → (lines_after w0 piece ≡ []) × (held_after w0 piece ≡ held_more w rest)
rest_at w w0 piece rest used r e none before =
    let P : List ℕ
    → Type 0 = λ rest. ((k : ℕ) → 0 ≤ k → k < length rest → (get_or rest k 0 == 10) ≡ true → ⊥)
    → (lines_after w0 piece ≡ []) × (held_after w0 piece ≡ held_more w rest) in
    let base : P (drop used piece) =
    λ before. (lines_rest w w0 piece used e none before, held_rest w w0 piece used e before) in
    subst P (sym r) base before
