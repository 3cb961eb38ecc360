-- Turns of the search for instructions of all places.
use Rattle.std.proofs.Common.{◌≡◌, ℕ, ◌+◌, ◌<◌, List, [], ◌∷◌, ◌++◌, length, get_or, drop, Option}
use Rattle.std.proofs.Common.{Some, None, refl, sym, ap, ◌∙◌, arith}
use Rattle.std.specs.Prelude.{flat_map}
use Rattle.std.proofs.lemmas.List.{drop_more}
use Rattle.rvs_insn.specs.Isa.{Isa}
use Rattle.rvs_insn.specs.Fields.{Fields}
use Rattle.rvs_cross.specs.declared.cross.Place.{Place}
use Rattle.rvs_cross.specs.Cross as spec
use Rattle.rvs_cross.specs.CrossView.{place_view}
use Rattle.rvs_cross.specs.Windows.{Values, with_third}
use Rattle.rvs_sequences.specs.Sequences.{candidates, solutions, first_of, first_solutions}

-- ---- one instruction for each place

-- what is found before what is still to be found
abbrev pub behind : List Fields → Option (List Fields) → Option (List Fields)
behind is None = None
behind is (Some js) = Some (is ++ js)

-- how many instructions a place may have
abbrev pub one_count : Isa → Place → ℕ
one_count s p = length (candidates s (place_view p))

-- ---- over values of the variables

first_append : (s : Isa) (ps : List spec.Place) (vs ws : List Values)
    → first_solutions s ps (vs ++ ws)
    ≡ first_of (first_solutions s ps vs) (first_solutions s ps ws)
first_append s ps [] ws = refl
first_append s ps (v ∷ vs) ws = grind (arith, (first_append s ps vs ws))

first_turn : {X : Type 0} (s : Isa) (ps : List spec.Place) (f : X → List Values) (xs : List X)
    (k : ℕ) (d : X) → k < length xs → first_solutions s ps (flat_map f (drop k xs))
    ≡ first_of (first_solutions s ps (f (get_or xs k d)))
    (first_solutions s ps (flat_map f (drop (k + 1) xs)))
first_turn s ps f xs k d h = grind (arith, drop_more, first_append)

pub values_found : {X : Type 0} (s : Isa) (ps : List spec.Place) (f : X → List Values)
    (xs : List X) (k : ℕ) (d : X) (is : List Fields) (whole : Option (List Fields)) → k < length xs
    → whole ≡ first_solutions s ps (flat_map f (drop k xs))
    → Some is ≡ first_solutions s ps (f (get_or xs k d)) → Some is ≡ whole
values_found s ps f xs k d is whole h inv e =
    sym (inv ∙ first_turn s ps f xs k d h
    ∙ ap (λ o. first_of o (first_solutions s ps (flat_map f (drop (k + 1) xs)))) (sym e))

pub values_none : {X : Type 0} (s : Isa) (ps : List spec.Place) (f : X → List Values)
    (xs : List X) (k : ℕ) (d : X) (whole : Option (List Fields)) → k < length xs
    → whole ≡ first_solutions s ps (flat_map f (drop k xs))
    → None ≡ first_solutions s ps (f (get_or xs k d))
    → whole ≡ first_solutions s ps (flat_map f (drop (k + 1) xs))
values_none s ps f xs k d whole h inv e =
    inv ∙ first_turn s ps f xs k d h
    ∙ ap (λ o. first_of o (first_solutions s ps (flat_map f (drop (k + 1) xs)))) (sym e)

-- ---- over values of the third variable

abbrev pub at_third : Option ℕ → Option ℕ → Option ℕ → Values
at_third a b c = record { first = a; second = b; third = c }

third_turn : (s : Isa) (ps : List spec.Place) (a b : Option ℕ) (xs : List (Option ℕ)) (k : ℕ)
    (d : Option ℕ) → k < length xs → first_solutions s ps (with_third (drop k xs) a b)
    ≡ first_of (solutions s (at_third a b (get_or xs k d)) ps)
    (first_solutions s ps (with_third (drop (k + 1) xs) a b))
third_turn s ps a b xs k d h = grind (arith, drop_more)

pub third_found : (s : Isa) (ps : List spec.Place) (a b : Option ℕ) (xs : List (Option ℕ)) (k : ℕ)
    (d : Option ℕ) (is : List Fields) (whole : Option (List Fields)) → k < length xs
    → whole ≡ first_solutions s ps (with_third (drop k xs) a b)
    → Some is ≡ solutions s (at_third a b (get_or xs k d)) ps → Some is ≡ whole
third_found s ps a b xs k d is whole h inv e =
    sym (inv ∙ third_turn s ps a b xs k d h
    ∙ ap (λ o. first_of o (first_solutions s ps (with_third (drop (k + 1) xs) a b))) (sym e))

pub third_none : (s : Isa) (ps : List spec.Place) (a b : Option ℕ) (xs : List (Option ℕ)) (k : ℕ)
    (d : Option ℕ) (whole : Option (List Fields)) → k < length xs
    → whole ≡ first_solutions s ps (with_third (drop k xs) a b)
    → None ≡ solutions s (at_third a b (get_or xs k d)) ps
    → whole ≡ first_solutions s ps (with_third (drop (k + 1) xs) a b)
third_none s ps a b xs k d whole h inv e =
    inv ∙ third_turn s ps a b xs k d h
    ∙ ap (λ o. first_of o (first_solutions s ps (with_third (drop (k + 1) xs) a b))) (sym e)
