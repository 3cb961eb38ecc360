-- Instructions that match a cross point are as many as its places, they all decode, and the first
-- is listed.
use Rattle.std.proofs.Common.{◌≡◌, ◌≢◌, ℕ, Bool, true, false, List, [], ◌∷◌, ◌++◌}
use Rattle.std.proofs.Common.{Option, Some, None, refl, sym, ap, ◌∙◌, length, arith}
use Rattle.std.proofs.lemmas.Bool.Decides.{nat_tests}
use Rattle.std.proofs.lemmas.Bool.{and_right}
use Rattle.std.proofs.lemmas.List.{length-map}
use Rattle.std.proofs.lemmas.List.Folds.{list_any_none}
use Rattle.std.specs.List.{list_any, range_with_len}
use Rattle.std.specs.Prelude.{◌==◌, map}
use Rattle.rvs_points.specs.PointView.{meaning_view}
use Rattle.rvs_points.specs.declared.group.Meaning as code
use Rattle.rvs_points.specs.declared.group.Meaning.TheVariants.{Window}
use Rattle.rvs_cross.specs.Cross.{Place}
use Rattle.rvs_cross.specs.CrossView.{cross_view, place_view}
use Rattle.rvs_cross.specs.First.{first_ops}
use Rattle.rvs_cross.specs.declared.cross.Cross.{Cross}
use Rattle.rvs_cross.specs.Windows.{Values, all_fit, fits_decoded, is_listed, matches, values_among}
use Rattle.rvs_index.specs.Index.{is_matched}
use Rattle.rvs_insn.specs.Fields.{Fields}

length_fits : (v : Values) (ps : List Place) (is : List (Option Fields))
    → length is ≢ length ps → all_fit v ps is ≡ false
length_fits v [] [] h = absurd (h refl)
length_fits v [] (i ∷ is) h = refl
length_fits v (p ∷ ps) [] h = refl
length_fits v (p ∷ ps) (i ∷ is) h =
    let other : length is ≢ length ps = omega arith in
    and_right (fits_decoded v p i) (all_fit v ps is) (length_fits v ps is other)

-- of another length
pub length_matches : (ps : List Place) (is : List (Option Fields))
    → length is ≢ length ps → matches ps is ≡ false
unfolding matches
length_matches ps is h =
    list_any_none (λ v. all_fit v ps is) (values_among (range_with_len 0 32) ps)
    (λ k d l. length_fits _ ps is h)

decoded_fits : (v : Values) (ps : List Place) (xs ys : List (Option Fields))
    → all_fit v ps (xs ++ None ∷ ys) ≡ false
decoded_fits v [] [] ys = refl
decoded_fits v [] (x ∷ xs) ys = refl
decoded_fits v (p ∷ ps) [] ys = refl
decoded_fits v (p ∷ ps) (x ∷ xs) ys = simp (and_right, (decoded_fits v ps xs ys))

-- one doesn't decode
pub decoded_matches : (ps : List Place) (xs ys : List (Option Fields))
    → matches ps (xs ++ None ∷ ys) ≡ false
unfolding matches
decoded_matches ps xs ys =
    list_any_none (λ v. all_fit v ps (xs ++ None ∷ ys)) (values_among (range_with_len 0 32) ps)
    (λ k d l. decoded_fits _ ps xs ys)

first_fits : (v : Values) (ps : List Place) (i : Fields) (is : List (Option Fields))
    → all_fit v ps (Some i ∷ is) ≡ true → is_listed (first_ops ps) i.op ≡ true
first_fits v ps i is h = grind arith

any_gives : (passes : Values → Bool) (b : Bool) → ((v : Values) → passes v ≡ true → b ≡ true)
    → (vs : List Values) → list_any passes vs ≡ true → b ≡ true
any_gives passes b gives [] h = cc
any_gives passes b gives (v ∷ vs) h = grind (arith, (any_gives passes b gives vs))

-- so many instructions aren't as many as there are places
pub other_length : (m : code.Meaning) (c : Cross) (run : List Fields) (count : ℕ) → m ≡ Window c
    → count ≡ length c.list → count ≢ length run
    → (count == length run) ≡ is_matched (meaning_view m) run
other_length m c run count e size other =
    let some : Fields → Option Fields = λ i. Some i in
    let unlike : length (map some run) ≢ length (cross_view c) =
    λ same. other (size ∙ sym (length-map c.list place_view) ∙ sym same ∙ length-map run some) in
    differ count (length run) other
    ∙ sym (length_matches (cross_view c) (map some run) unlike)
    ∙ ap (λ m. is_matched (meaning_view m) run) (sym e)
  where
    differ : (a b : ℕ) → a ≢ b → (a == b) ≡ false
    differ a b h = grind (arith, nat_tests)

pub first_matches : (ps : List Place) (i : Fields) (is : List (Option Fields))
    → matches ps (Some i ∷ is) ≡ true → is_listed (first_ops ps) i.op ≡ true
unfolding matches
first_matches ps i is h =
    any_gives (λ v. all_fit v ps (Some i ∷ is)) (is_listed (first_ops ps) i.op)
    (λ v. first_fits v ps i is) (values_among (range_with_len 0 32) ps) h
