-- The places of three lists, one after another.
use Rattle.std.proofs.Common.{◌≡◌, ℕ, ◌+◌, ◌<◌, ◌≤◌, List, [], ◌∷◌, ◌++◌, map, drop, length, get_or}
use Rattle.std.proofs.Common.{Bor, Ok, Err, sym, ap, ◌∙◌, append_assoc, add-one, arith, rules}
use Rattle.std.proofs.Math.Seq.{drop-cons}
use Rattle.std.proofs.lemmas.List.{length-map, drop_all}
use Rattle.std.proofs.lemmas.List.Splits.{length-slice_split}
use Rattle.rvs_cross.specs.Cross.{Place}
use Rattle.rvs_cross.specs.Lists.{entries}
use Rattle.rvs_text.specs.Outcomes.{◌>>=◌}
use Rattle.rvs_cross.specs.declared.refusal.CrossRefusal.{CrossRefusal}
use Rattle.rvs_cross.specs.Outcomes.{Outcome, for_each}
use Rattle.rvs_cross.specs.Parse.{place, places}

-- with these in front
abbrev pub with_front : List Place → Outcome (List Place) → Outcome (List Place)
with_front ps (Ok qs) = Ok (ps ++ qs)
with_front ps (Err e) = Err e

abbrev pub Refs : Type 0
Refs = List (Bor (List ℕ))

abbrev pub texts : Refs → List (List ℕ)
texts xs = map (λ t. t.now) xs

texts-at : (xs : Refs) (i : ℕ) (d : Bor (List ℕ)) → i < length xs
    → texts (drop i xs) ≡ (get_or xs i d).now ∷ texts (drop (i + 1) xs)
texts-at xs i d h = grind (arith, add-one, drop-cons)

-- a step for each text: one more, where none is left, and where one is refused
pub each_more : {S : Type 0} (f : List ℕ → S → Outcome S) (xs : Refs) (i : ℕ)
    (d : Bor (List ℕ)) (s t : S) → i < length xs → f (get_or xs i d).now s ≡ Ok t
    → for_each f (texts (drop (i + 1) xs)) t ≡ for_each f (texts (drop i xs)) s
each_more f xs i d s t h e =
    sym (ap (λ ys. for_each f ys s) (texts-at xs i d h)
    ∙ ap (λ o. o >>= for_each f (texts (drop (i + 1) xs))) e)

pub each_done : {S : Type 0} (f : List ℕ → S → Outcome S) (xs : Refs) (i : ℕ) (s : S)
    → length xs ≤ i → for_each f (texts (drop i xs)) s ≡ Ok s
each_done f xs i s h = ap (λ ys. for_each f (texts ys) s) (drop_all i xs h)

pub each_fails : {S : Type 0} (f : List ℕ → S → Outcome S) (xs : Refs) (i : ℕ)
    (d : Bor (List ℕ)) (s : S) (r : CrossRefusal) → i < length xs → f (get_or xs i d).now s ≡ Err r
    → for_each f (texts (drop i xs)) s ≡ Err r
each_fails f xs i d s r h e =
    ap (λ ys. for_each f ys s) (texts-at xs i d h)
    ∙ ap (λ o. o >>= for_each f (texts (drop (i + 1) xs))) e

front-one : (ps : List Place) (p : Place) (o : Outcome (List Place))
    → with_front (ps ++ p ∷ []) o ≡ with_front ps (o >>= (λ qs. Ok (p ∷ qs)))
front-one ps p o = search (rules, append_assoc)

abbrev joined : Outcome Place → Outcome (List Place) → Outcome (List Place)
joined o rest = o >>= (λ p. rest >>= (λ qs. Ok (p ∷ qs)))

-- the places that begin with those at an index
at : (vars : List (List ℕ)) (a b c : Refs) (i : ℕ) (d : Bor (List ℕ)) → i < length a
    → length b ≡ length a → length c ≡ length a →
    places vars (texts (drop i a)) (texts (drop i b)) (texts (drop i c))
    ≡ joined (place vars (get_or a i d).now (get_or b i d).now (get_or c i d).now)
    (places vars (texts (drop (i + 1) a)) (texts (drop (i + 1) b)) (texts (drop (i + 1) c)))
at vars a b c i d h e f = grind (arith, texts-at)

pub places_more : (vars : List (List ℕ)) (a b c : Refs) (i : ℕ) (d : Bor (List ℕ)) (ps : List Place)
    (p : Place) → i < length a → length b ≡ length a → length c ≡ length a →
    place vars (get_or a i d).now (get_or b i d).now (get_or c i d).now ≡ Ok p →
    with_front (ps ++ p ∷ [])
    (places vars (texts (drop (i + 1) a)) (texts (drop (i + 1) b)) (texts (drop (i + 1) c)))
    ≡ with_front ps (places vars (texts (drop i a)) (texts (drop i b)) (texts (drop i c)))
places_more vars a b c i d ps p h e f is =
    let rest =
    places vars (texts (drop (i + 1) a)) (texts (drop (i + 1) b)) (texts (drop (i + 1) c)) in
    front-one ps p rest
    ∙ sym (ap (with_front ps) (at vars a b c i d h e f ∙ ap (λ o. joined o rest) is))

pub places_fail : (vars : List (List ℕ)) (a b c : Refs) (i : ℕ) (d : Bor (List ℕ)) (ps : List Place)
    (r : CrossRefusal) → i < length a → length b ≡ length a → length c ≡ length a →
    place vars (get_or a i d).now (get_or b i d).now (get_or c i d).now ≡ Err r →
    with_front ps (places vars (texts (drop i a)) (texts (drop i b)) (texts (drop i c))) ≡ Err r
places_fail vars a b c i d ps r h e f is =
    let rest =
    places vars (texts (drop (i + 1) a)) (texts (drop (i + 1) b)) (texts (drop (i + 1) c)) in
    ap (with_front ps) (at vars a b c i d h e f ∙ ap (λ o. joined o rest) is)

-- a list has an entry
pub some_entry : (xs : Refs) (text : List ℕ) → texts xs ≡ entries text → 1 ≤ length xs
some_entry xs text e = grind (arith, length-map, length-slice_split)
