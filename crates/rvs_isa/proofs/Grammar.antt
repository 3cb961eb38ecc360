-- The grammar of ISA texts: a text is read as the parts that spell it.
use Rattle.std.proofs.Common.{◌≡◌, ℕ, ◌<◌, ◌==◌, Bool, true, false, ◌&&◌, if◌then◌else◌, List}
use Rattle.std.proofs.Common.{[], ◌∷◌, ◌++◌, length, take, drop, Option, Some, None, not, get_or}
use Rattle.std.proofs.Common.{codes, bytes_eq, refl, ap, sym, subst, ◌∙◌, arith, rules}
use Rattle.std.specs.List.{list_any, list_all, prefix_len, take_while, join_with_byte, All}
use Rattle.std.proofs.lemmas.Bool.{and_parts, or_right}
use Rattle.std.proofs.lemmas.Bool.Decides.{nat_tests}
use Rattle.std.proofs.lemmas.List.{take-append-drop}
use Rattle.std.proofs.Math.Seq.{take-append_seam, drop-append_seam}
use Rattle.std.proofs.lemmas.List.Splits.{join_with_byte-slice_split, length-slice_split}
use Rattle.std.proofs.lemmas.List.Splits.{slice_split_none, slice_split_at}
use Rattle.std.proofs.lemmas.List.Sums.{AllPass-from_list_all}
use Rattle.std.proofs.lemmas.List.Elements.{All-cons}
use Rattle.std.proofs.lemmas.Slice.Eq.{bytes_eq-Decides}
use Rattle.rvs_isa.specs.IsaText.{Parts, parts_of, parts_behind, is_base, is_letter, are_in_order}
use Rattle.rvs_isa.specs.IsaText.{letter_order, is_name, is_name_character, names_in, names_behind}
use Rattle.rvs_isa.specs.Laws.{AreGood, spelled, spelled_names, TextsAreReadAsSpelled}

-- ---- letters
abbrev among : List ℕ → ℕ → Bool
among order c = list_any (λ l. l == c) order

weaker : (p q : ℕ → Bool) (xs : List ℕ) → ((x : ℕ) → p x ≡ true → q x ≡ true) → list_all p xs ≡ true
    → list_all q xs ≡ true
weaker p q [] f e = refl
weaker p q (x ∷ xs) f e =
    let parts = and_parts (p x) (list_all p xs) e in
    rw (f x parts.0) (weaker p q xs f parts.1)

among-order : (letters order : List ℕ) → are_in_order letters order ≡ true
    → list_all (among order) letters ≡ true
among-order [] order e = refl
among-order (c ∷ cs) [] e = cc
among-order (c ∷ cs) (o ∷ os) e =
    elim (o == c) as (λ v. (o == c) ≡ v → list_all (among (o ∷ os)) (c ∷ cs) ≡ true) [
      | true ↦ λ t. rw t (weaker (among os) (among (o ∷ os)) cs
          (λ x h. or_right (o == x) (among os x) h) (among-order cs os (rw (t, are_in_order) at e)))
      | false ↦ λ t. weaker (among os) (among (o ∷ os)) (c ∷ cs)
          (λ x h. or_right (o == x) (among os x) h)
          (among-order (c ∷ cs) os (rw (t, are_in_order) at e))
    ] refl

front_passes : (p : ℕ → Bool) (letters more : List ℕ) → list_all p letters ≡ true
    → prefix_len p more ≡ 0 → prefix_len p (letters ++ more) ≡ length letters
front_passes p [] more e z = z
front_passes p (c ∷ cs) more e z =
    let parts = and_parts (p c) (list_all p cs) e in
    rw parts.0 (omega (arith, front_passes p cs more parts.1 z))

-- ---- names
is_number : (a b : ℕ) → (a == b) ≡ true → a ≡ b
is_number a b e = grind (arith, nat_tests)

other_number : (c : ℕ) → (c == 90) ≡ true → (c == 95) ≡ false
other_number c e = grind (arith, nat_tests)

names-some : (list : List ℕ) → 0 < length (names_in list)
names-some list = omega (arith, length-slice_split (λ c. c == 95) list)

spelled-some : (underscore : Bool) (names : List (List ℕ)) → 0 < length names
    → spelled_names underscore names
    ≡ (if underscore then codes "_" else []) ++ join_with_byte 95 names
spelled-some underscore names h = grind arith

spelled-names_in : (underscore : Bool) (list : List ℕ)
    → spelled_names underscore (names_in list) ≡ (if underscore then codes "_" else []) ++ list
spelled-names_in underscore list =
    simp (spelled-some, names-some, codes, join_with_byte-slice_split)

behind-spelled : (tail : List ℕ)
    → (underscore : Bool) × (tail ≡ spelled_names underscore (names_behind tail))
behind-spelled [] = (true, refl)
behind-spelled (c ∷ cs) =
    elim (c == 95) as (λ v. (c == 95) ≡ v → (underscore : Bool)
    × ((c ∷ cs) ≡ spelled_names underscore (names_in (if v then cs else c ∷ cs)))) [
      | true ↦ λ t. (true, ap (λ x. x ∷ cs) (is_number c 95 t) ∙ sym (spelled-names_in true cs))
      | false ↦ λ t. (false, sym (spelled-names_in false (c ∷ cs)))
    ] refl

is_no_underscore : (c : ℕ) → is_name_character c ≡ true → (c == 95) ≡ false
is_no_underscore c e = grind (arith, nat_tests)

no_underscore : (name : List ℕ) → is_name name ≡ true → All (λ c. (c == 95) ≡ false) name
no_underscore [] e = cc
no_underscore (z ∷ rest) e =
    let parts = and_parts (z == 90) (not (length rest == 0) && list_all is_name_character rest) e in
    let characters = and_parts (not (length rest == 0)) (list_all is_name_character rest) parts.1 in
    All-cons (λ c. (c == 95) ≡ false) z rest (other_number z parts.0)
    (λ k d h. is_no_underscore (get_or rest k d)
    (AllPass-from_list_all is_name_character rest characters.1 k d h))

head_of_name : (name : List ℕ) → is_name name ≡ true → (rest : List ℕ) × (name ≡ 90 ∷ rest)
head_of_name name e = grind arith

split-joined : (n : List ℕ) (ns : List (List ℕ)) → list_all is_name (n ∷ ns) ≡ true
    → names_in (join_with_byte 95 (n ∷ ns)) ≡ n ∷ ns
split-joined n [] e = grind (arith, and_parts, slice_split_none, no_underscore)
split-joined n (m ∷ ms) e =
    let parts = and_parts (is_name n) (list_all is_name (m ∷ ms)) e in
    slice_split_at (λ c. c == 95) n 95 (join_with_byte 95 (m ∷ ms)) (no_underscore n parts.0) refl
    ∙ ap (λ names. n ∷ names) (split-joined m ms parts.1)

joined_head : (rest : List ℕ) (ns : List (List ℕ))
    → (more : List ℕ) × (join_with_byte 95 ((90 ∷ rest) ∷ ns) ≡ 90 ∷ more)
joined_head rest [] = (rest, refl)
joined_head rest (m ∷ ms) = (rest ++ (95 ∷ join_with_byte 95 (m ∷ ms)), refl)

joined_first : (n : List ℕ) (ns : List (List ℕ)) → is_name n ≡ true
    → (more : List ℕ) × (join_with_byte 95 (n ∷ ns) ≡ 90 ∷ more)
joined_first n ns e =
    let head = head_of_name n e in
    let joined = joined_head head.0 ns in
    (joined.0, ap (λ m. join_with_byte 95 (m ∷ ns)) head.1 ∙ joined.1)

no_letter_first : (underscore : Bool) (names : List (List ℕ)) → list_all is_name names ≡ true
    → prefix_len is_letter (spelled_names underscore names) ≡ 0
no_letter_first underscore names e = grind arith

names-spelled : (underscore : Bool) (names : List (List ℕ)) → list_all is_name names ≡ true
    → names_behind (spelled_names underscore names) ≡ names
names-spelled underscore names e = search (rules, split-joined, and_parts, joined_first)

-- ---- whole texts
abbrev parts_if : ℕ → List ℕ → List (List ℕ) → Option Parts
parts_if base letters names =
    if is_base base && (are_in_order letters letter_order && list_all is_name names)
    then Some (record { base = base; letters = letters; names = names }) else None

good_parts : (p : Parts) → AreGood p → parts_if p.base p.letters p.names ≡ Some p
good_parts p good = rw (good.base) (rw (good.letters) (rw (good.names) refl))

read-spelled : (underscore : Bool) (p : Parts) → AreGood p
    → parts_of (spelled underscore p) ≡ Some p
read-spelled underscore p good =
    let tail = spelled_names underscore p.names in
    let front = front_passes is_letter p.letters tail
    (among-order p.letters letter_order good.letters)
    (no_letter_first underscore p.names good.names) in
    let letters : take_while is_letter (p.letters ++ tail) ≡ p.letters =
    ap (λ n. take n (p.letters ++ tail)) front ∙ take-append_seam p.letters tail in
    let names : names_behind (drop (prefix_len is_letter (p.letters ++ tail)) (p.letters ++ tail))
    ≡ p.names =
    ap (λ n. names_behind (drop n (p.letters ++ tail))) front
    ∙ ap names_behind (drop-append_seam p.letters tail)
    ∙ names-spelled underscore p.names good.names in
    ap (λ l. parts_if p.base l
    (names_behind (drop (prefix_len is_letter (p.letters ++ tail)) (p.letters ++ tail))))
    letters
    ∙ ap (λ n. parts_if p.base p.letters n) names
    ∙ good_parts p good

some_same : (p q : Parts) → Some q ≡ Some p → q ≡ p
some_same p q e = cc

abbrev IsSpelledBy : List ℕ → Parts → Type 0
IsSpelledBy behind p = AreGood p
    × ((underscore : Bool) × (behind ≡ p.base ∷ (p.letters ++ spelled_names underscore p.names)))

spelled_behind : (behind : List ℕ) (p : Parts) → parts_behind behind ≡ Some p → IsSpelledBy behind p
spelled_behind [] p e = absurd (cc)
spelled_behind (base ∷ rest) p e =
    let letters = take_while is_letter rest in
    let tail = drop (prefix_len is_letter rest) rest in
    let found : Parts = record { base = base; letters = letters; names = names_behind tail } in
    let test = is_base base
    && (are_in_order letters letter_order && list_all is_name (names_behind tail)) in
    elim (test) as (λ v. test ≡ v → (if v then Some found else None) ≡ Some p
    → IsSpelledBy (base ∷ rest) p) [
      | true ↦ λ t h.
          let first = and_parts (is_base base)
          (are_in_order letters letter_order && list_all is_name (names_behind tail)) t in
          let others = and_parts (are_in_order letters letter_order)
          (list_all is_name (names_behind tail)) first.1 in
          let behind = behind-spelled tail in
          let whole : rest ≡ letters ++ spelled_names behind.0 (names_behind tail) =
          sym (take-append-drop (prefix_len is_letter rest) rest)
          ∙ ap (λ x. letters ++ x) behind.1 in
          subst (λ q. IsSpelledBy (base ∷ rest) q) (some_same p found h) (
            record {
              base = first.0;
              letters = others.0;
              names = others.1;
            },
            (behind.0, ap (λ x. base ∷ x) whole),
          )
      | false ↦ λ t h. absurd (cc)
    ] refl e

spelled-read : (text : List ℕ) (p : Parts) → parts_of text ≡ Some p
    → AreGood p × ((underscore : Bool) × (text ≡ spelled underscore p))
spelled-read text p e =
    elim (bytes_eq (take 4 text) (codes "RV32")) as
    (λ v. bytes_eq (take 4 text) (codes "RV32") ≡ v
    → (if v then parts_behind (drop 4 text) else None) ≡ Some p
    → AreGood p × ((underscore : Bool) × (text ≡ spelled underscore p))) [
      | true ↦ λ t h.
          let front = (bytes_eq-Decides (take 4 text) (codes "RV32")).0 t in
          let behind = spelled_behind (drop 4 text) p h in (
            behind.0,
            (
              behind.1.0,
              sym (take-append-drop 4 text) ∙ ap (λ x. x ++ drop 4 text) front
                  ∙ ap (λ x. codes "RV32" ++ x) behind.1.1,
            ),
          )
      | false ↦ λ t h. absurd (cc)
    ] refl e

pub read_as_spelled : TextsAreReadAsSpelled
read_as_spelled text p =
    (λ e. spelled-read text p e, λ h. ap parts_of h.1.1 ∙ read-spelled h.1.0 p h.0)
