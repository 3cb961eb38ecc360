-- A list of cross points of a number of places that no cross point has.
use Rattle.std.proofs.Common.{◌≡◌, ℕ, zero, suc, ◌+◌, ◌*◌, ◌/◌, ◌<◌, ◌≤◌, ◌⊎◌, inl, inr, Bool, true}
use Rattle.std.proofs.Common.{false, cond, ◌||◌, List, [], ◌∷◌, refl, sym, ap, subst}
use Rattle.std.proofs.Common.{◌∙◌, arith}
use Rattle.std.proofs.lemmas.Bool.{cases_lt, or_parts}
use Rattle.std.proofs.lemmas.Bool.Decides.{nat_tests}
use Rattle.std.proofs.lemmas.List.Folds.{list_any-append}
use Rattle.std.specs.List.{list_any}
use Rattle.std.specs.Prelude.{◌==◌}
use Rattle.rvs_points.specs.Points.{Meaning}
use Rattle.rvs_points.specs.declared.group.Label.{Label}
use Rattle.rvs_insn.specs.Table.{op_count}
use Rattle.rvs_index.specs.Counting.{Aim, aims_in}
use Rattle.rvs_index.specs.Index.{has_places, is_for, lengths_to, places_for}
use Rattle.rvs_index.specs.Index.{window_fits, windows_key}
use Rattle.rvs_index.specs.declared.key.ListKey.TheVariants.{Windows}

abbrev pub any_has : ℕ → List Aim → Bool
any_has count aims = list_any (λ a. has_places count a.point.meaning) aims

abbrev pub listed : ℕ → List ℕ → Bool
listed count ns = list_any (λ n. n == count) ns

none_fits : (count n : ℕ) (m : Meaning) → has_places count m ≡ false
    → window_fits count n m ≡ false
none_fits count n m h = grind arith

none_placed : (count n at : ℕ) (aims : List Aim) → any_has count aims ≡ false
    → places_for (is_for (Windows count n)) at aims ≡ []
none_placed count n at [] h = refl
none_placed count n at (a ∷ aims) h =
    let two = or_parts (has_places count a.point.meaning) (any_has count aims) h in
    rw (places_for, none_fits count n a.point.meaning two.0)
    (none_placed count n (at + 1) aims two.1)

or_true : (a : Bool) → (a || true) ≡ true
or_true a = grind arith

-- a number of places that some cross point has is noted
pub noted : (aims : List Aim) (k m : ℕ) → 0 < k → k ≤ m → any_has k aims ≡ true
    → listed k (lengths_to aims m) ≡ true
noted aims k zero some most h = absurd (omega (arith, some, most))
noted aims k (suc m) some most h =
    list_any-append (λ n. n == k) (lengths_to aims m) (cond (any_has (suc m) aims) (suc m ∷ []) [])
    ∙ cases (λ most. noted aims k m some most h) (cases_lt k (suc m))
  where
    cases : (k ≤ m → listed k (lengths_to aims m) ≡ true) → (k < suc m) ⊎ (suc m ≤ k)
        → (listed k (lengths_to aims m)
        || listed k (cond (any_has (suc m) aims) (suc m ∷ []) [])) ≡ true
    cases below (inl less) =
        ap (λ b. b || listed k (cond (any_has (suc m) aims) (suc m ∷ []) []))
        (below (omega (arith, less)))
    cases below (inr more) =
        let same : k ≡ suc m = omega (arith, more, most) in
        let has : any_has (suc m) aims ≡ true = subst (λ j. any_has j aims ≡ true) same h in
        let test : (suc m == k) ≡ true = grind (arith, nat_tests) in
        ap (λ b. listed k (lengths_to aims m) || listed k (cond b (suc m ∷ []) [])) has
        ∙ ap (λ b. listed k (lengths_to aims m) || (b || false)) test
        ∙ or_true (listed k (lengths_to aims m))

pub none_listed : (labels : List Label) (lengths : List ℕ) (number : ℕ)
    → lengths ≡ lengths_to (aims_in labels) 6 → number < 6 * op_count
    → listed (number / op_count + 1) lengths ≡ false
    → [] ≡ places_for (is_for (windows_key number)) 0 (aims_in labels)
none_listed labels lengths number e low h =
    sym (none_placed (number / op_count + 1) _ 0 (aims_in labels)
    (turn (any_has (number / op_count + 1) (aims_in labels)) refl))
  where
    aims : List Aim
    aims = aims_in labels

    turn : (b : Bool) → any_has (number / op_count + 1) aims ≡ b
        → any_has (number / op_count + 1) aims ≡ false
    turn false is = is
    turn true is =
        let there = noted aims (number / op_count + 1) 6 (omega arith) (omega (arith, low)) is in
        let gone : listed (number / op_count + 1) (lengths_to aims 6) ≡ false =
        subst (λ ns. listed (number / op_count + 1) ns ≡ false) e h in
        absurd cc
