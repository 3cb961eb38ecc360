-- What the ends of a run add that are as long as cross points.
use Rattle.std.proofs.Common.{◌≡◌, ◌≢◌, ℕ, zero, suc, ◌+◌, ◌-◌, ◌<◌, ◌≤◌, ◌⊎◌, inl, inr, Bool, true}
use Rattle.std.proofs.Common.{false, cond, ◌&&◌, List, [], ◌∷◌, ◌++◌, All, refl, sym, ap, ◌∙◌}
use Rattle.std.proofs.Common.{append-nil, arith, drop, get_or, length, length-append, length-drop}
use Rattle.std.proofs.Common.{rules}
use Rattle.std.proofs.Math.ListN.{drop_of_length-le}
use Rattle.std.proofs.lemmas.Bool.{cases_lt, or_parts}
use Rattle.std.proofs.lemmas.Bool.Decides.{nat_tests}
use Rattle.std.proofs.lemmas.List.{drop-map, length-map}
use Rattle.std.proofs.lemmas.List.Elements.{All-append}
use Rattle.std.specs.List.{list_any}
use Rattle.std.specs.Prelude.{◌==◌, map, nat_le}
use Rattle.rvs_points.specs.Points.{Meaning, window}
use Rattle.rvs_points.specs.declared.group.Label.{Label}
use Rattle.rvs_cross.specs.Cross.{Place}
use Rattle.rvs_cross.specs.Windows.{matches}
use Rattle.rvs_insn.specs.Fields.{Fields}
use Rattle.rvs_index.specs.Counting.{Aim, aims_in}
use Rattle.rvs_index.specs.Index.{added_lasts, has_places, is_last}
use Rattle.rvs_index.specs.Index.{lengths_to}
use Rattle.rvs_index.specs.Runs.{last}
use Rattle.rvs_index.specs.State.{added, ends_run}
use Rattle.rvs_index.proofs.Crossing.{AllSized, added_sum, aims_sized, bit, some}
use Rattle.rvs_index.proofs.Matching.{length_matches}
use Rattle.rvs_index.proofs.Sequels.{last_all}

and_false : (b : Bool) → (b && false) ≡ false
and_false b = grind arith

and_true : (b : Bool) → (b && true) ≡ b
and_true b = grind arith

-- ---- the last instructions against one cross point
sized_last : (k : ℕ) (run : List Fields) → k ≤ length run → length (last k run) ≡ k
sized_last k run h = omega (arith, length-drop (length run - k) run, h)

map_last : (k : ℕ) (run : List Fields) → last k (map some run) ≡ map some (last k run)
map_last k run = simp (length-map, drop-map)

other_last : (k : ℕ) (ps : List Place) (run : List Fields) → length ps ≢ k
    → is_last k (window ps) run ≡ false
other_last k ps run h =
    grind (arith, cases_lt, inl, and_false, inr, length-map, sized_last, length_matches)

same_last : (ps : List Place) (run : List Fields)
    → is_last (length ps) (window ps) run ≡ ends_run (window ps) run
same_last ps run = cases (cases_lt (length run) (length ps))
  where
    cases : (length run < length ps) ⊎ (length ps ≤ length run)
        → is_last (length ps) (window ps) run ≡ ends_run (window ps) run
    cases (inl short) =
        let test : nat_le (length ps) (length run) ≡ false = grind (arith, nat_tests) in
        let size = length-map run some in
        let other : length (map some run) ≢ length ps = omega (arith, size, short) in
        ap (λ b. matches ps (map some (last (length ps) run)) && b) test
        ∙ and_false (matches ps (map some (last (length ps) run)))
        ∙ sym (ap (λ l. matches ps l)
        (last_all (length ps) (map some run) (omega (arith, size, short)))
        ∙ length_matches ps (map some run) other)
    cases (inr long) =
        let test : nat_le (length ps) (length run) ≡ true = grind (arith, nat_tests) in
        ap (λ b. matches ps (map some (last (length ps) run)) && b) test
        ∙ and_true (matches ps (map some (last (length ps) run)))
        ∙ ap (λ l. matches ps l) (sym (map_last (length ps) run))

-- a run ends with a cross point of at most so many places
abbrev upto : ℕ → List Fields → Meaning → Bool
upto n run (window ps) = nat_le (length ps) n && ends_run (window ps) run
upto n run _ = false

bit_window : (n : ℕ) (run : List Fields) (ps : List Place)
    → bit (upto n run (window ps)) + bit (is_last (suc n) (window ps) run)
    ≡ bit (upto (suc n) run (window ps))
bit_window n run ps = grind (arith, cases_lt, bit, inl, other_last, inr, same_last)

bit_upto : (n : ℕ) (run : List Fields) (m : Meaning)
    → bit (upto n run m) + bit (is_last (suc n) m run) ≡ bit (upto (suc n) run m)
bit_upto n run m = search (rules, bit_window)

-- ---- where no cross point adds
none_more : (p : Aim → Bool) (aims : List Aim) (c : ℕ) (cs : List ℕ) (a : Aim) → p a ≡ false
    → added p aims cs ≡ cs → (c + bit (p a)) ∷ added p aims cs ≡ c ∷ cs
none_more p aims c cs a h e = grind (arith, bit)

abbrev has : ℕ → Aim → Bool
has count a = has_places count a.point.meaning

no_last : (k : ℕ) (m : Meaning) (run : List Fields) → has_places k m ≡ false
    → is_last k m run ≡ false
no_last k m run h = search (rules, other_last)

no_lasts : (k : ℕ) (run : List Fields) (aims : List Aim) (cs : List ℕ)
    → list_any (has k) aims ≡ false → added (λ a. is_last k a.point.meaning run) aims cs ≡ cs
no_lasts k run [] cs h = refl
no_lasts k run (a ∷ aims) [] h = refl
no_lasts k run (a ∷ aims) (c ∷ cs) h =
    let both = or_parts (has k a) (list_any (has k) aims) h in
    none_more (λ a. is_last k a.point.meaning run) aims c cs a
    (no_last k a.point.meaning run both.0)
    (no_lasts k run aims cs both.1)

-- a run that is too short
pub too_short : (k : ℕ) (run : List Fields) (aims : List Aim) (cs : List ℕ) → length run < k
    → added (λ a. is_last k a.point.meaning run) aims cs ≡ cs
too_short k run [] cs h = refl
too_short k run (a ∷ aims) [] h = refl
too_short k run (a ∷ aims) (c ∷ cs) h = grind (arith, nat_tests, (too_short k run aims cs h))

-- ---- what the ends of some lengths add
lasts_append : (ns : List ℕ) (n : ℕ) (run : List Fields) (aims : List Aim) (cs : List ℕ)
    → added_lasts (ns ++ n ∷ []) run aims cs
    ≡ added (λ a. is_last n a.point.meaning run) aims (added_lasts ns run aims cs)
lasts_append [] n run aims cs = refl
lasts_append (k ∷ ns) n run aims cs =
    lasts_append ns n run aims (added (λ a. is_last k a.point.meaning run) aims cs)

none_yet : (run : List Fields) (aims : List Aim) (cs : List ℕ) → AllSized aims
    → added (λ a. upto 0 run a.point.meaning) aims cs ≡ cs
none_yet run [] cs h = refl
none_yet run (a ∷ aims) [] h = refl
none_yet run (a ∷ aims) (c ∷ cs) h = grind (arith, none_more, (none_yet run aims cs h.1))

upto_lasts : (n : ℕ) (run : List Fields) (aims : List Aim) (cs : List ℕ) → AllSized aims
    → added_lasts (lengths_to aims n) run aims cs
    ≡ added (λ a. upto n run a.point.meaning) aims cs
upto_lasts zero run aims cs s = sym (none_yet run aims cs s)
upto_lasts (suc n) run aims cs s =
    turn (list_any (has (suc n)) aims) refl (upto_lasts n run aims cs s)
    ∙ added_sum (λ a. upto n run a.point.meaning) (λ a. is_last (suc n) a.point.meaning run)
    (λ a. upto (suc n) run a.point.meaning) (λ a. bit_upto n run a.point.meaning) aims cs
  where
    turn : (b : Bool) → list_any (has (suc n)) aims ≡ b
        → added_lasts (lengths_to aims n) run aims cs
        ≡ added (λ a. upto n run a.point.meaning) aims cs
        → added_lasts (lengths_to aims n ++ cond b (suc n ∷ []) []) run aims cs
        ≡ added (λ a. is_last (suc n) a.point.meaning run) aims
        (added (λ a. upto n run a.point.meaning) aims cs)
    turn true e p =
        lasts_append (lengths_to aims n) (suc n) run aims cs
        ∙ ap (λ l. added (λ a. is_last (suc n) a.point.meaning run) aims l) p
    turn false e p =
        ap (λ l. added_lasts l run aims cs) (append-nil (lengths_to aims n))
        ∙ p
        ∙ sym (no_lasts (suc n) run aims (added (λ a. upto n run a.point.meaning) aims cs) e)

all_upto : (run : List Fields) (aims : List Aim) (cs : List ℕ) → AllSized aims
    → added (λ a. upto 6 run a.point.meaning) aims cs
    ≡ added (λ a. ends_run a.point.meaning run) aims cs
all_upto run [] cs h = refl
all_upto run (a ∷ aims) [] h = refl
all_upto run (a ∷ aims) (c ∷ cs) h = grind (arith, bit, (all_upto run aims cs h.1))

-- the lengths that there are add what the run ends with
pub lengths_ends : (labels : List Label) (run : List Fields) (cs : List ℕ)
    → added_lasts (lengths_to (aims_in labels) 6) run (aims_in labels) cs
    ≡ added (λ a. ends_run a.point.meaning run) (aims_in labels) cs
lengths_ends labels run cs = simp (upto_lasts, aims_sized, all_upto)

-- ---- the lengths themselves
pub lengths_few : (aims : List Aim) (n : ℕ) → length (lengths_to aims n) ≤ n
lengths_few aims zero = omega arith
lengths_few aims (suc n) = grind (arith, length-append, (lengths_few aims n))

pub lengths_some : (aims : List Aim) (n : ℕ) → All (λ (k : ℕ). 1 ≤ k) (lengths_to aims n)
lengths_some aims zero = λ k d l. absurd (omega (arith, l))
lengths_some aims (suc n) = turn (list_any (has (suc n)) aims) (lengths_some aims n)
  where
    one : All (λ (k : ℕ). 1 ≤ k) (suc n ∷ [])
    one zero d l = omega arith
    one (suc k) d l = absurd (omega (arith, l))

    turn : (b : Bool) → All (λ (k : ℕ). 1 ≤ k) (lengths_to aims n)
        → All (λ (k : ℕ). 1 ≤ k) (lengths_to aims n ++ cond b (suc n ∷ []) [])
    turn true h = All-append (λ (k : ℕ). 1 ≤ k) (lengths_to aims n) (suc n ∷ []) h one
    turn false h =
        All-append (λ (k : ℕ). 1 ≤ k) (lengths_to aims n) [] h (λ k d l. absurd (omega (arith, l)))

-- one length more
pub lasts_more : (ns : List ℕ) (run : List Fields) (aims : List Aim) (cs cs' : List ℕ) (k d : ℕ)
    → k < length ns → cs' ≡ added (λ a. is_last (get_or ns k d) a.point.meaning run) aims cs
    → added_lasts (drop (k + 1) ns) run aims cs' ≡ added_lasts (drop k ns) run aims cs
lasts_more [] run aims cs cs' k d h e = absurd (omega arith)
lasts_more (n ∷ ns) run aims cs cs' zero d h e = ap (λ cs. added_lasts ns run aims cs) e
lasts_more (n ∷ ns) run aims cs cs' (suc k) d h e =
    grind (arith, (lasts_more ns run aims cs cs' k d (omega arith) e))

pub lasts_done : (ns : List ℕ) (run : List Fields) (aims : List Aim) (cs : List ℕ) (k : ℕ)
    → length ns ≤ k → added_lasts (drop k ns) run aims cs ≡ cs
lasts_done ns run aims cs k h = simp drop_of_length-le

pub none_there : (ns : List ℕ) → (length ns == 0) ≡ true → ns ≡ []
none_there [] h = refl
none_there (n ∷ ns) h = grind arith
