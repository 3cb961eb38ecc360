-- A cross point that is read has one to six places.
use Rattle.std.proofs.Common.{◌≡◌, ℕ, suc, ◌≤◌, Bool, not, ◌==◌}
use Rattle.std.proofs.Common.{nat_lt, if◌then◌else◌, List, [], ◌∷◌, length, Option}
use Rattle.std.proofs.Common.{Ok, Err, sym, ap, subst, arith, rules}
use Rattle.std.proofs.lemmas.List.Splits.{length-slice_split}
use Rattle.rvs_cross.specs.Cross.{Place}
use Rattle.rvs_cross.specs.declared.refusal.CrossRefusal.TheVariants.{BadList, LengthsDiffer}
use Rattle.rvs_cross.specs.declared.refusal.CrossRefusal.TheVariants.{TooManyPlaces}
use Rattle.rvs_text.specs.Outcomes.{◌>>=◌}
use Rattle.rvs_cross.specs.Outcomes.{Outcome}
use Rattle.rvs_cross.specs.Lists.{Lists, lists, entries}
use Rattle.rvs_cross.specs.Parse.{read, skipped, place, places}
use Rattle.rvs_cross.specs.Parse.{same_lengths, with_variables, with_unknown}
use Rattle.rvs_cross.specs.Parse.{with_names, with_lists, parse}

-- a step that was read, and what followed from it
bound : {A B : Type 0} (r : Outcome A) (f : A → Outcome B) (b : B) → (r >>= f) ≡ Ok b
    → (a : A) × (r ≡ Ok a) × (f a ≡ Ok b)
bound h = grind arith

places_length : (vars xs ys zs : List (List ℕ)) (ps : List Place) → length ys ≡ length xs
    → length zs ≡ length xs → places vars xs ys zs ≡ Ok ps → length ps ≡ length xs
places_length vars [] [] [] ps e f h = let same : [] ≡ ps = cc in ap length (sym same)
places_length vars [] [] (z ∷ zs) ps e f h = absurd (omega (arith, f))
places_length vars [] (y ∷ ys) zs ps e f h = absurd (omega (arith, e))
places_length vars (x ∷ xs) [] zs ps e f h = absurd (omega (arith, e))
places_length vars (x ∷ xs) (y ∷ ys) [] ps e f h = absurd (omega (arith, f))
places_length vars (x ∷ xs) (y ∷ ys) (z ∷ zs) ps e f h =
    let one = bound (place vars x y z) _ ps h in
    let more = bound (places vars xs ys zs) _ ps one.2 in
    let n : length more.0 ≡ length xs =
    places_length vars xs ys zs more.0 (omega (arith, e)) (omega (arith, f)) more.1 in
    let same : one.0 ∷ more.0 ≡ ps = cc in
    subst (λ (l : List Place). length l ≡ suc (length xs)) same (omega (arith, n))

-- a list has an entry
some_entries : (text : List ℕ) → 1 ≤ length (entries text)
some_entries text = omega (arith, length-slice_split (λ c. c == 58) text)

abbrev AreFew : List Place → Type 0
AreFew ps = (1 ≤ length ps) × (length ps ≤ 6)

with_places : (l : Lists) (vars : List (List ℕ)) (ps : List Place)
    → length (entries l.assignments) ≡ length (entries l.mnemonics)
    → length (entries l.conditions) ≡ length (entries l.mnemonics)
    → length (entries l.mnemonics) ≤ 6
    → with_variables (entries l.mnemonics) (entries l.assignments) (entries l.conditions) vars
    ≡ Ok (read ps) → AreFew ps
with_places l vars ps e f few h = grind (arith, bound, places_length, some_entries)

named : (l : Lists) (unknown : Option (List ℕ)) (ps : List Place)
    → length (entries l.assignments) ≡ length (entries l.mnemonics)
    → length (entries l.conditions) ≡ length (entries l.mnemonics)
    → length (entries l.mnemonics) ≤ 6 → with_unknown l unknown ≡ Ok (read ps) → AreFew ps
named l unknown ps e f few h = search (rules, bound, with_places)

-- by the tests in their order
by_tests : (l : Lists) (ps : List Place) (shaped even long class : Bool) → same_lengths l ≡ even
    → nat_lt 6 (length (entries l.mnemonics)) ≡ long
    → (if not shaped then Err BadList
    else (if not even then Err LengthsDiffer
    else (if long then Err TooManyPlaces else (if class then Ok skipped else with_names l))))
    ≡ Ok (read ps) → AreFew ps
by_tests l ps shaped even long class e f h = search (rules, named)

by_lists : (o : Option Lists) (ps : List Place) → with_lists o ≡ Ok (read ps) → AreFew ps
by_lists o ps h = search (rules, by_tests, nat_lt)

pub read_places : (text : List ℕ) (ps : List Place) → parse text ≡ Ok (read ps)
    → (1 ≤ length ps) × (length ps ≤ 6)
unfolding parse
read_places text ps h = by_lists (lists text) ps h
