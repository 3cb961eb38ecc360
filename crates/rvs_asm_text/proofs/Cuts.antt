-- Texts cut at a byte.
use Rattle.std.proofs.Common.{◌≡◌, ℕ, suc, ◌+◌, ◌-◌, ◌<◌, ◌≤◌, Bool, true, false, cond, List, []}
use Rattle.std.proofs.Common.{◌∷◌, ◌++◌, Option, Some, None, refl, sym, ap, ◌∙◌, length, take}
use Rattle.std.proofs.Common.{get_or, arith}
use Rattle.std.proofs.Math.Seq.{take-suc}
use Rattle.std.proofs.lemmas.List.Sums.{sum_by-cons}
use Rattle.std.specs.Prelude.{◌==◌, count_by}
use Rattle.rvs_base.specs.Lines.{before, after, onto_first}
use Rattle.rvs_asm_text.specs.Text.{is_blank, keep_end, trim_end, trim, trim_all, parts}
use Rattle.rvs_asm_text.specs.Text.{operands_left}

-- a text that ends in a byte
pub trim_end-append : (cs : List ℕ) (c : ℕ)
    → trim_end (cs ++ c ∷ []) ≡ cond (is_blank c) (trim_end cs) (cs ++ c ∷ [])
trim_end-append [] c = refl
trim_end-append (x ∷ xs) c = ap (keep_end x) (trim_end-append xs c) ∙ kept (is_blank c) x xs c
  where
    kept : (b : Bool) (x : ℕ) (xs : List ℕ) (c : ℕ)
        → keep_end x (cond b (trim_end xs) (xs ++ c ∷ []))
        ≡ cond b (keep_end x (trim_end xs)) (x ∷ xs ++ c ∷ [])
    kept true x xs c = refl
    kept false x [] c = refl
    kept false x (y ∷ ys) c = refl

-- the first part and the parts after it
abbrev pub parts_after : Option (List ℕ) → List (List ℕ)
parts_after None = []
parts_after (Some rest) = parts rest

pub parts-cut : (cs : List ℕ) → parts cs ≡ before 44 cs ∷ parts_after (after 44 cs)
parts-cut [] = refl
parts-cut (c ∷ cs) = grind (arith, (parts-cut cs))

-- the same at a front of a text, by its last byte
trim_end-take : (cs : List ℕ) (k : ℕ) → k < length cs → trim_end (take (suc k) cs)
    ≡ cond (is_blank (get_or cs k 0)) (trim_end (take k cs)) (take (suc k) cs)
trim_end-take cs k h =
    ap trim_end (take-suc cs k 0 h)
    ∙ trim_end-append (take k cs) (get_or cs k 0)
    ∙ ap (λ l. cond (is_blank (get_or cs k 0)) (trim_end (take k cs)) l) (sym (take-suc cs k 0 h))

one_less : (n : ℕ) → 0 < n → n ≡ suc (n - 1)
one_less n h = omega arith

pub trim_step : (cs : List ℕ) (n : ℕ) → 0 < n → n ≤ length cs
    → is_blank (get_or cs (n - 1) 0) ≡ true → trim_end (take n cs) ≡ trim_end (take (n - 1) cs)
trim_step cs n p h b = grind (arith, one_less, trim_end-take)

pub trim_stop : (cs : List ℕ) (n : ℕ) → 0 < n → n ≤ length cs
    → is_blank (get_or cs (n - 1) 0) ≡ false → trim_end (take n cs) ≡ take n cs
trim_stop cs n p h b = grind (arith, one_less, trim_end-take)

pub operands_left-cut : (t : List ℕ)
    → operands_left (Some t) ≡ trim (before 44 t) ∷ operands_left (after 44 t)
operands_left-cut t = grind (arith, parts-cut)

length-onto_first : (c : ℕ) (cs : List ℕ) → length (onto_first c (parts cs)) ≡ length (parts cs)
length-onto_first c cs = simp parts-cut

length-parts : (cs : List ℕ) → length (parts cs) ≡ count_by (λ c. c == 44) cs + 1
length-parts [] = refl
length-parts (c ∷ cs) = turn (c == 44) (length-parts cs) (length-onto_first c cs)
    ∙ ap (λ n. n + 1) (sym (sum_by-cons (λ x. cond (x == 44) 1 0) c cs))
  where
    turn : (b : Bool) → length (parts cs) ≡ count_by (λ c. c == 44) cs + 1
        → length (onto_first c (parts cs)) ≡ length (parts cs)
        → length (cond b ([] ∷ parts cs) (onto_first c (parts cs)))
        ≡ cond b 1 0 + count_by (λ c. c == 44) cs + 1
    turn true e f = omega arith
    turn false e f = let same = f ∙ e in omega arith

length-trim_all : (ts : List (List ℕ)) → length (trim_all ts) ≡ length ts
length-trim_all [] = refl
length-trim_all (t ∷ ts) = ap suc (length-trim_all ts)

pub length-operands_left : (t : List ℕ)
    → length (operands_left (Some t)) ≡ count_by (λ c. c == 44) t + 1
length-operands_left t = length-trim_all (parts t) ∙ length-parts t
