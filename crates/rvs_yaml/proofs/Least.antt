-- The answer is the least front that has no tree.
use Rattle.std.proofs.Common.{◌≡◌, ℕ, zero, suc, ◌+◌, ◌<◌, ◌≤◌, List, [], ◌∷◌, ◌++◌, length, take}
use Rattle.std.proofs.Common.{Ok, Err, refl, sym, ap, ◌∙◌, subst, append_assoc, append-nil, arith}
use Rattle.std.proofs.Common.{length-append, inl, inr}
use Rattle.std.proofs.lemmas.Bool.{cases_lt}
use Rattle.rvs_tree.specs.Data.{Data}
use Rattle.rvs_yaml.specs.Checks.{Checked}
use Rattle.rvs_yaml_text.specs.Text.{lines_of}
use Rattle.rvs_yaml.specs.Parsed.{Parsed, front, at_end, answer_after, HasTree, Tells}
use Rattle.rvs_yaml.specs.Parsed.{AnswersAreLeast}

-- each front of lines that is shorter than n has a tree
abbrev FrontsHave : List (List ℕ) → ℕ → Type 0
FrontsHave lines n = (m : ℕ) → m < n → HasTree (take m lines)

take_length : (xs ys : List (List ℕ)) → take (length xs) (xs ++ ys) ≡ xs
take_length [] ys = refl
take_length (x ∷ xs) ys = ap (λ zs. x ∷ zs) (take_length xs ys)

take_more_than : (xs : List (List ℕ)) (m : ℕ) → length xs ≤ m → take m xs ≡ xs
take_more_than [] zero h = refl
take_more_than [] (suc m) h = refl
take_more_than (x ∷ xs) zero h = absurd (omega arith)
take_more_than (x ∷ xs) (suc m) h = ap (λ zs. x ∷ zs) (take_more_than xs m (omega arith))

one_more : (lines : List (List ℕ)) (n : ℕ) → FrontsHave lines n → HasTree (take n lines)
    → FrontsHave lines (n + 1)
one_more lines n before here m h =
    elim (cases_lt m n) [
      | inl lt ↦ before m lt
      | inr ge ↦ let e : n ≡ m = omega arith in subst (λ k. HasTree (take k lines)) e here
    ]

tells-end : (lines : List (List ℕ)) (r : Checked Data) → front lines ≡ r
    → FrontsHave lines (length lines) → Tells lines (at_end (length lines) r)
tells-end lines (Ok d) e before = record {
  fronts = λ m. elim (cases_lt m (length lines)) [
    | inl lt ↦ before m lt
    | inr ge ↦ subst HasTree (sym (take_more_than lines m ge)) (d, e)
  ];
  whole = e;
}
tells-end lines (Err kind) e before = record {
  before = before;
  fault = ap front (take_more_than lines (length lines) (omega arith)) ∙ e;
}

tells-line : (lines done : List (List ℕ)) (n : ℕ) (r : Checked Data) (more : Parsed)
    → take n lines ≡ done → front done ≡ r → FrontsHave lines n
    → (HasTree (take n lines) → Tells lines more)
    → Tells lines (elim r as (λ _. Parsed) [ Err kind ↦ Err (n, kind) | Ok d ↦ more ])
tells-line lines done n (Ok d) more is e before next = next (d, ap front is ∙ e)
tells-line lines done n (Err kind) more is e before next =
    record { before = before; fault = ap front is ∙ e }

tells-after : (ls done lines : List (List ℕ)) → done ++ ls ≡ lines → FrontsHave lines (length done)
    → HasTree (take (length done) lines) → Tells lines (answer_after done ls)
tells-after [] done lines is before here =
    let same : done ≡ lines = sym (append-nil done) ∙ is in
    subst (λ xs. Tells lines (at_end (length xs) (front xs))) (sym same)
    (tells-end lines (front lines) refl (subst (λ xs. FrontsHave lines (length xs)) same before))
tells-after (l ∷ ls) done lines is before here =
    let regrouped : (done ++ l ∷ []) ++ ls ≡ lines = append_assoc done (l ∷ []) ls ∙ is in
    let n : length done + 1 ≡ length (done ++ l ∷ []) =
    omega (arith, length-append done (l ∷ [])) in
    let earlier : FrontsHave lines (length (done ++ l ∷ [])) =
    subst (FrontsHave lines) n (one_more lines (length done) before here) in
    let taken : take (length (done ++ l ∷ [])) lines ≡ done ++ l ∷ [] =
    ap (take (length (done ++ l ∷ []))) (sym regrouped) ∙ take_length (done ++ l ∷ []) ls in
    tells-line lines (done ++ l ∷ []) (length (done ++ l ∷ [])) (front (done ++ l ∷ [])) _ taken
    refl earlier (tells-after ls (done ++ l ∷ []) lines regrouped earlier)

pub answers_are_least : AnswersAreLeast
answers_are_least bytes =
    tells-after (lines_of bytes) [] (lines_of bytes) refl (λ m h. absurd (omega arith)) (_, refl)
