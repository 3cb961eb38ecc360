-- Texts cut at a byte.
use Rattle.std.proofs.Common.{◌≡◌, ◌≢◌, ℕ, suc, ◌-◌, ◌<◌, ◌≤◌, cond, List, []}
use Rattle.std.proofs.Common.{◌∷◌, ◌++◌, Option, Some, None, refl, sym, ap, ◌∙◌, length, take}
use Rattle.std.proofs.Common.{◌+◌, get_or, drop, false, arith}
use Rattle.std.proofs.lemmas.Bool.{eq-eqb}
use Rattle.std.proofs.lemmas.Bool.Decides.{nat_tests}
use Rattle.std.proofs.lemmas.List.{at_drop_more}
use Rattle.std.proofs.Math.Seq.{take-suc, take-length}
use Rattle.std.specs.Prelude.{◌==◌}
use Rattle.rvs_base.specs.Lines.{before, after, cut_lines, without_return}

pub without_return-append : (cs : List ℕ) (c : ℕ)
    → without_return (cs ++ c ∷ []) ≡ cond (c == 13) cs (cs ++ c ∷ [])
without_return-append [] c = refl
without_return-append (x ∷ []) c = grind arith
without_return-append (x ∷ y ∷ ys) c = grind (arith, (without_return-append (y ∷ ys) c))

-- the first line and the lines after it
abbrev pub lines_after : Option (List ℕ) → List (List ℕ)
lines_after None = []
lines_after (Some rest) = cut_lines rest

pub cut_lines-cons : (c : ℕ) (cs : List ℕ)
    → cut_lines (c ∷ cs) ≡ before 10 (c ∷ cs) ∷ lines_after (after 10 (c ∷ cs))
cut_lines-cons c [] = grind arith
cut_lines-cons c (d ∷ ds) = grind (arith, (cut_lines-cons d ds))

one_less : (n : ℕ) → 0 < n → n ≡ suc (n - 1)
one_less n h = omega arith

returned : (cs : List ℕ) → 0 < length cs
    → without_return cs ≡ cond (get_or cs (length cs - 1) 0 == 13) (take (length cs - 1) cs) cs
returned cs p =
    let k = length cs - 1 in
    let h : k < length cs = omega arith in
    let whole : take (suc k) cs ≡ cs =
    ap (λ m. take m cs) (sym (one_less (length cs) p)) ∙ take-length cs in
    let split : cs ≡ take k cs ++ get_or cs k 0 ∷ [] = sym whole ∙ take-suc cs k 0 h in
    ap without_return split
    ∙ without_return-append (take k cs) (get_or cs k 0)
    ∙ ap (λ l. cond (get_or cs k 0 == 13) (take k cs) l) (sym split)

pub return_dropped : (cs : List ℕ) → 0 < length cs → get_or cs (length cs - 1) 0 ≡ 13
    → without_return cs ≡ take (length cs - 1) cs
return_dropped cs p e = grind (arith, returned)

pub no_return : (cs : List ℕ) → 0 < length cs → (get_or cs (length cs - 1) 0 ≢ 13)
    → without_return cs ≡ cs
no_return cs p e = grind (arith, returned)

pub no_return_empty : (cs : List ℕ) → length cs ≤ 0 → without_return cs ≡ cs
no_return_empty [] h = refl
no_return_empty (c ∷ cs) h = absurd (omega arith)

pub lines_split : (cs l rest : List ℕ) → 0 < length cs → l ≡ before 10 cs → after 10 cs ≡ Some rest
    → cut_lines cs ≡ l ∷ cut_lines rest
lines_split [] l rest h e a = absurd (omega arith)
lines_split (c ∷ cs) l rest h e a = grind (arith, cut_lines-cons)

pub lines_end : (cs l : List ℕ) → 0 < length cs → l ≡ before 10 cs → after 10 cs ≡ None
    → cut_lines cs ≡ l ∷ []
lines_end [] l h e a = absurd (omega arith)
lines_end (c ∷ cs) l h e a = grind (arith, cut_lines-cons)

-- ---- where a text is cut
no_test : (m n : ℕ) → m ≢ n → (m == n) ≡ false
no_test m n h = grind (arith, nat_tests)

module _ (b : ℕ) (text : List ℕ) (i : ℕ) (inside : i < length text) where
  pub found_front : get_or text i 0 ≡ b → before b (drop i text) ≡ []
  found_front e =
      at_drop_more (before b) text i 0 inside
      ∙ ap (λ t. cond t [] (get_or text i 0 ∷ before b (drop (i + 1) text)))
      (eq-eqb (get_or text i 0) b e)

  pub found_back : get_or text i 0 ≡ b → after b (drop i text) ≡ Some (drop (i + 1) text)
  found_back e =
      at_drop_more (after b) text i 0 inside
      ∙ ap (λ t. cond t (Some (drop (i + 1) text)) (after b (drop (i + 1) text)))
      (eq-eqb (get_or text i 0) b e)

  pub passed_front : (get_or text i 0 ≢ b)
      → before b (drop i text) ≡ get_or text i 0 ∷ before b (drop (i + 1) text)
  passed_front e =
      at_drop_more (before b) text i 0 inside
      ∙ ap (λ t. cond t [] (get_or text i 0 ∷ before b (drop (i + 1) text)))
      (no_test (get_or text i 0) b e)

  pub passed_back : (get_or text i 0 ≢ b)
      → after b (drop i text) ≡ after b (drop (i + 1) text)
  passed_back e =
      at_drop_more (after b) text i 0 inside
      ∙ ap (λ t. cond t (Some (drop (i + 1) text)) (after b (drop (i + 1) text)))
      (no_test (get_or text i 0) b e)
