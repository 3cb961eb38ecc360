-- Finding anchors by the places of their names.
use Rattle.std.proofs.Common.{◌≡◌, ◌≤◌, take, drop, ℕ, suc, ◌+◌, ◌<◌, Bool, true, false, cond, List}
use Rattle.std.proofs.Common.{[], ◌∷◌, ◌++◌, rules}
use Rattle.std.proofs.Common.{map, reverse, length, get_or, Option, Some, None, refl, sym, ap}
use Rattle.std.proofs.Common.{subst, ◌∙◌, arith, append_assoc, append-nil, add-zero, length-append}
use Rattle.std.specs.Prelude.{bytes_eq, if◌then◌else◌, ◌||◌}
use Rattle.std.proofs.lemmas.List.{reverse-append, length-map, map-append, take-append-drop}
use Rattle.std.proofs.lemmas.List.{length-take}
use Rattle.std.proofs.Math.Seq.{get_or-append_seam}
use Rattle.std.proofs.lemmas.Bool.{or_parts}
use Rattle.rvs_tree.specs.Value.{Value}
use Rattle.rvs_yaml.specs.Anchors.{Anchors, lookup}
use Rattle.rvs_yaml.specs.Stack.{has_anchor}
use Rattle.rvs_yaml.specs.Places.{place_from, last_place}
use Rattle.rvs_yaml.specs.StackView.{anchor_view, anchors_view}
use Rattle.rvs_tree.specs.ValueView.{value_view}
use Rattle.rvs_yaml.specs.declared.open.Anchor.{Anchor}

abbrev pub names_of : List Anchor → List (List ℕ)
names_of list = map (λ a. a.name.now) list

pub place-push : (k : List ℕ) (i : ℕ) (before : Option ℕ) (ns : List (List ℕ)) (n : List ℕ)
    → place_from k i before (ns ++ n ∷ [])
    ≡ (if bytes_eq n k then Some (i + length ns) else place_from k i before ns)
place-push k i before [] n = rw add-zero refl
place-push k i before (m ∷ ns) n =
    grind (arith, (place-push k (suc i) (if bytes_eq m k then Some i else before) ns n))

abbrev IsBelow : ℕ → Option ℕ → Type 0
IsBelow n None = Unit {0}
IsBelow n (Some p) = p < n

here-below : (t : Bool) (i : ℕ) (before : Option ℕ) → IsBelow i before
    → IsBelow (suc i) (cond t (Some i) before)
here-below t i before h = grind arith

place-below : (k : List ℕ) (i : ℕ) (before : Option ℕ) (ns : List (List ℕ)) → IsBelow i before
    → IsBelow (i + length ns) (place_from k i before ns)
place-below k i before [] h = rw add-zero h
place-below k i before (n ∷ ns) h =
    let next : suc i + length ns ≡ i + suc (length ns) = omega arith in
    subst (λ m. IsBelow m (place_from k (suc i) (if bytes_eq n k then Some i else before) ns)) next
    (place-below k (suc i) (if bytes_eq n k then Some i else before) ns
    (here-below (bytes_eq n k) i before h))

last-below : (k : List ℕ) (ns : List (List ℕ)) (p : ℕ) → last_place k ns ≡ Some p → p < length ns
last-below k ns p e = grind (arith, place-below)

pub place-inside : (k : List ℕ) (list : List Anchor) (p : ℕ) → last_place k (names_of list) ≡ Some p
    → p < length list
place-inside k list p e = grind (arith, last-below, length-map)

-- the last places, once there is one anchor more
pub last_place-push : (k : List ℕ) (list : List Anchor) (a : Anchor) (n : ℕ) (o : Option ℕ)
    → n ≡ length list → o ≡ last_place k (names_of list) →
    (if bytes_eq a.name.now k then Some n else o) ≡ last_place k (names_of (list ++ a ∷ []))
last_place-push k list a n o e h = grind (arith, length-map, place-push, map-append)

abbrev value_at : Anchor → List Anchor → Option ℕ → Option Value
value_at d all None = None
value_at d all (Some p) = Some (value_view (get_or all p d).value)

found-here : (t : Bool) (d a : Anchor) (front list : List Anchor) (before : Option ℕ)
    (o : Option Value) → o ≡ value_at d (front ++ a ∷ list) before →
    cond t (Some (value_view a.value)) o
    ≡ value_at d (front ++ a ∷ list) (cond t (Some (length front)) before)
found-here t d a front list before o h = search (rules, get_or-append_seam)

found-from : (k : List ℕ) (d : Anchor) (front list : List Anchor) (before : Option ℕ)
    (rest : Anchors) → lookup k rest ≡ value_at d (front ++ list) before →
    lookup k (anchors_view list ++ rest)
    ≡ value_at d (front ++ list) (place_from k (length front) before (names_of list))
found-from k d front [] before rest h = h
found-from k d front (a ∷ list) before rest h =
    let after = front ++ a ∷ [] in
    let all : after ++ list ≡ front ++ a ∷ list = append_assoc front (a ∷ []) list in
    let n : length after ≡ suc (length front) = omega (arith, length-append front (a ∷ [])) in
    let now = if bytes_eq a.name.now k then Some (length front) else before in
    let found : lookup k (anchor_view a ∷ rest) ≡ value_at d (after ++ list) now =
    found-here (bytes_eq a.name.now k) d a front list before (lookup k rest) h
    ∙ ap (λ xs. value_at d xs now) (sym all) in
    ap (λ xs. lookup k (xs ++ rest)) (reverse-append (anchor_view a ∷ []) (map anchor_view list))
    ∙ ap (lookup k) (append_assoc (reverse (map anchor_view list)) (anchor_view a ∷ []) rest)
    ∙ found-from k d after list now (anchor_view a ∷ rest) found
    ∙ ap (λ m. value_at d (after ++ list) (place_from k m now (names_of list))) n
    ∙ ap (λ xs. value_at d xs (place_from k (suc (length front)) now (names_of list))) all

found-by : (k : List ℕ) (d : Anchor) (list : List Anchor)
    → lookup k (anchors_view list) ≡ value_at d list (last_place k (names_of list))
found-by k d list =
    ap (lookup k) (sym (append-nil (anchors_view list))) ∙ found-from k d [] list None [] refl

pub found-place : (k : List ℕ) (d : Anchor) (list : List Anchor) (p : ℕ)
    → last_place k (names_of list) ≡ Some p
    → lookup k (anchors_view list) ≡ Some (value_view (get_or list p d).value)
found-place k d list p e = found-by k d list ∙ ap (value_at d list) e

pub missed-place : (k : List ℕ) (list : List Anchor) → last_place k (names_of list) ≡ None
    → lookup k (anchors_view list) ≡ None
missed-place k [] e = refl
missed-place k (a ∷ list) e = found-by k a (a ∷ list) ∙ ap (value_at a (a ∷ list)) e

-- ANCHORS BEHIND SO MANY
abbrev named-in : List ℕ → List (List ℕ) → Bool
named-in k [] = false
named-in k (n ∷ ns) = bytes_eq n k || named-in k ns

has-append : (k : List ℕ) (xs ys : Anchors)
    → has_anchor k (xs ++ ys) ≡ (has_anchor k xs || has_anchor k ys)
has-append k [] ys = refl
has-append k (x ∷ xs) ys = grind (arith, (has-append k xs ys))

or-swap : (x y : Bool) → (x || (y || false)) ≡ (y || x)
or-swap x y = grind arith

has-names : (k : List ℕ) (list : List Anchor)
    → has_anchor k (anchors_view list) ≡ named-in k (names_of list)
has-names k [] = refl
has-names k (a ∷ list) =
    ap (has_anchor k) (reverse-append (anchor_view a ∷ []) (map anchor_view list))
    ∙ has-append k (anchors_view list) (anchor_view a ∷ [])
    ∙ ap (λ b. b || (bytes_eq a.name.now k || false)) (has-names k list)
    ∙ or-swap (named-in k (names_of list)) (bytes_eq a.name.now k)

place-append : (k : List ℕ) (i : ℕ) (before : Option ℕ) (ms ns : List (List ℕ))
    → place_from k i before (ms ++ ns) ≡ place_from k (i + length ms) (place_from k i before ms) ns
place-append k i before [] ns = rw add-zero refl
place-append k i before (m ∷ ms) ns =
    let next : suc i + length ms ≡ i + suc (length ms) = omega arith in
    let now = if bytes_eq m k then Some i else before in
    place-append k (suc i) now ms ns
    ∙ ap (λ j. place_from k j (place_from k (suc i) now ms) ns) next

place-kept : (k : List ℕ) (i : ℕ) (before : Option ℕ) (ns : List (List ℕ)) → named-in k ns ≡ false
    → place_from k i before ns ≡ before
place-kept k i before [] e = refl
place-kept k i before (n ∷ ns) e =
    let both = or_parts (bytes_eq n k) (named-in k ns) e in
    place-kept k (suc i) (if bytes_eq n k then Some i else before) ns both.1
    ∙ ap (λ b. if b then Some i else before) both.0

abbrev IsAbove : ℕ → Option ℕ → Type 0
IsAbove n None = ⊥
IsAbove n (Some p) = n ≤ p

above-by : (t : Bool) (n i : ℕ) (before : Option ℕ) → n ≤ i → IsAbove n before
    → IsAbove n (cond t (Some i) before)
above-by t n i before h k = grind arith

place-above : (k : List ℕ) (n i : ℕ) (before : Option ℕ) (ns : List (List ℕ)) → n ≤ i
    → IsAbove n before → IsAbove n (place_from k i before ns)
place-above k n i before [] h a = a
place-above k n i before (m ∷ ns) h a =
    place-above k n (suc i) (if bytes_eq m k then Some i else before) ns (omega (arith, h))
    (above-by (bytes_eq m k) n i before h a)

lower : (n : ℕ) (o : Option ℕ) → IsAbove (suc n) o → IsAbove n o
lower n o a = grind arith

found-by-name : (t u : Bool) (k : List ℕ) (i : ℕ) (before : Option ℕ) (ns : List (List ℕ))
    → (t || u) ≡ true → (u ≡ true → (b : Option ℕ) → IsAbove (suc i) (place_from k (suc i) b ns))
    → IsAbove i (place_from k (suc i) (cond t (Some i) before) ns)
found-by-name t u k i before ns e h = search (rules, place-above, lower)

place-found : (k : List ℕ) (i : ℕ) (before : Option ℕ) (ns : List (List ℕ))
    → named-in k ns ≡ true → IsAbove i (place_from k i before ns)
place-found k i before [] e = cc
place-found k i before (n ∷ ns) e =
    found-by-name (bytes_eq n k) (named-in k ns) k i before ns e
    (λ h b. place-found k (suc i) b ns h)

last-split : (k : List ℕ) (list : List Anchor) (n : ℕ) → last_place k (names_of list)
    ≡ place_from k (length (take n list)) (last_place k (names_of (take n list)))
    (names_of (drop n list))
last-split k list n =
    let name = λ (a : Anchor). a.name.now in
    ap (λ xs. last_place k (names_of xs)) (sym (take-append-drop n list))
    ∙ ap (last_place k) (map-append name (take n list) (drop n list))
    ∙ place-append k 0 None (names_of (take n list)) (names_of (drop n list))
    ∙ ap (λ m. place_from k m (last_place k (names_of (take n list))) (names_of (drop n list)))
    (let same : 0 + length (names_of (take n list)) ≡ length (take n list) =
    omega (arith, length-map (take n list) name) in same)

-- the latest anchor with a name is behind so many, or none of those has the name
pub behind-none : (k : List ℕ) (list : List Anchor) (n : ℕ) → last_place k (names_of list) ≡ None
    → has_anchor k (anchors_view (drop n list)) ≡ false
behind-none k list n e =
    has-names k (drop n list) ∙ none-by (named-in k (names_of (drop n list))) refl
  where
    none-by : (t : Bool) → named-in k (names_of (drop n list)) ≡ t → t ≡ false
    none-by true h = absurd (subst (IsAbove (length (take n list))) (sym (last-split k list n) ∙ e)
        (place-found k (length (take n list)) (last_place k (names_of (take n list)))
        (names_of (drop n list)) h))
    none-by false h = refl

pub behind-some : (k : List ℕ) (list : List Anchor) (n p : ℕ) (t : Bool)
    → last_place k (names_of list) ≡ Some p → (n ≤ p → t ≡ true) → (p < n → t ≡ false)
    → t ≡ has_anchor k (anchors_view (drop n list))
behind-some k list n p t e inside outside =
    some-by (named-in k (names_of (drop n list))) refl ∙ sym (has-names k (drop n list))
  where
    some-by : (b : Bool) → named-in k (names_of (drop n list)) ≡ b → t ≡ b
    some-by true h =
        let above : length (take n list) ≤ p =
        subst (IsAbove (length (take n list))) (sym (last-split k list n) ∙ e)
        (place-found k (length (take n list)) (last_place k (names_of (take n list)))
        (names_of (drop n list)) h) in
        inside (omega (arith, above, place-inside k list p e, length-take n list))
    some-by false h =
        let below : last_place k (names_of (take n list)) ≡ Some p =
        sym (place-kept k (length (take n list)) (last_place k (names_of (take n list)))
        (names_of (drop n list)) h) ∙ sym (last-split k list n) ∙ e in
        outside (omega (arith, place-inside k (take n list) p below, length-take n list))
