-- Scanning a text from its front.
use Rattle.std.proofs.Common.{◌≡◌, ℕ, ◌+◌, ◌<◌, Bool, true, false, List, [], ◌∷◌, ◌++◌, length}
use Rattle.std.proofs.Common.{take, drop, get_or, Some, option_map, refl, sym, ap, ◌∙◌, arith}
use Rattle.std.proofs.Common.{append_assoc, append-nil}
use Rattle.std.proofs.Math.Seq.{drop-cons}
use Rattle.std.proofs.lemmas.List.{take_more}
use Rattle.std.proofs.Common.{add-one, ◌-◌, length-drop, rules}
use Rattle.std.proofs.lemmas.Bool.Decides.{nat_tests}
use Rattle.std.specs.Prelude.{◌==◌, ◌&&◌}
use Rattle.rvs_yaml_text.specs.Scalar.{Split, onto, key_split, ends_indicator}
use Rattle.rvs_yaml_text.specs.Scalar.{name_split, is_name_byte}

-- a split with more text at its front
abbrev pub onto_all : List ℕ → Split → Split
onto_all xs o = option_map (λ p. (xs ++ p.0, p.1)) o

abbrev pub front_too : List ℕ → List ℕ × List ℕ → List ℕ × List ℕ
front_too xs p = (xs ++ p.0, p.1)

pub onto_all-onto : (xs : List ℕ) (b : ℕ) (o : Split)
    → onto_all xs (onto b o) ≡ onto_all (xs ++ b ∷ []) o
onto_all-onto xs b o = search (rules, append_assoc)

pub drop-at : (bs : List ℕ) (i : ℕ) → i < length bs → drop i bs ≡ get_or bs i 0 ∷ drop (i + 1) bs
drop-at bs i h = rw add-one (drop-cons bs i 0 h)

found-here : (sp : Bool) (b : ℕ) (bs : List ℕ) → (b == 35 && sp) ≡ false
    → (b == 58 && ends_indicator bs) ≡ true → key_split sp (b ∷ bs) ≡ Some ([], bs)
found-here sp b bs c e = rw (c, key_split) (rw (e, key_split) refl)

more-here : (sp : Bool) (b : ℕ) (bs : List ℕ) → (b == 35 && sp) ≡ false
    → (b == 58 && ends_indicator bs) ≡ false
    → key_split sp (b ∷ bs) ≡ onto b (key_split (b == 32) bs)
more-here sp b bs c e = rw (c, key_split) (rw (e, key_split) refl)

pub key-found : (sp : Bool) (bs : List ℕ) (i : ℕ) → i < length bs
    → (get_or bs i 0 == 35 && sp) ≡ false
    → (get_or bs i 0 == 58 && ends_indicator (drop (i + 1) bs)) ≡ true →
    onto_all (take i bs) (key_split sp (drop i bs)) ≡ Some (take i bs, drop (i + 1) bs)
key-found sp bs i h c e = simp (drop-at, found-here, append-nil)

pub key-more : (sp : Bool) (bs : List ℕ) (i : ℕ) → i < length bs
    → (get_or bs i 0 == 35 && sp) ≡ false
    → (get_or bs i 0 == 58 && ends_indicator (drop (i + 1) bs)) ≡ false →
    onto_all (take (i + 1) bs) (key_split (get_or bs i 0 == 32) (drop (i + 1) bs))
    ≡ onto_all (take i bs) (key_split sp (drop i bs))
key-more sp bs i h c e = grind (arith, take_more, onto_all-onto, more-here, drop-at)

name-here : (b : ℕ) (bs : List ℕ) → is_name_byte b ≡ true
    → name_split (b ∷ bs) ≡ (b ∷ (name_split bs).0, (name_split bs).1)
name-here b bs e = rw (e, name_split) refl

pub name-more : (bs : List ℕ) (i : ℕ) → i < length bs → is_name_byte (get_or bs i 0) ≡ true
    → front_too (take (i + 1) bs) (name_split (drop (i + 1) bs))
    ≡ front_too (take i bs) (name_split (drop i bs))
name-more bs i h e =
    let rest = name_split (drop (i + 1) bs) in
    ap (λ xs. (xs ++ rest.0, rest.1)) (take_more bs i 0 h)
    ∙ ap (λ xs. (xs, rest.1)) (append_assoc (take i bs) (get_or bs i 0 ∷ []) rest.0)
    ∙ ap (front_too (take i bs)) (sym (name-here (get_or bs i 0) (drop (i + 1) bs) e))
    ∙ sym (ap (λ ys. front_too (take i bs) (name_split ys)) (drop-at bs i h))

pub ne_test : (a b : ℕ) → (a ≡ b → ⊥) → (a == b) ≡ false
ne_test a b h = grind (arith, nat_tests)

pub name-ascii : (b : ℕ) → is_name_byte b ≡ true → b < 128
name-ascii b e = grind (arith, nat_tests)

take-length : (xs : List ℕ) → take (length xs) xs ≡ xs
take-length [] = refl
take-length (x ∷ xs) = ap (λ ys. x ∷ ys) (take-length xs)

-- all that is behind an index
pub rest-all : (bs : List ℕ) (j : ℕ) → take (length bs - j) (drop j bs) ≡ drop j bs
rest-all bs j = ap (λ n. take n (drop j bs)) (sym (length-drop j bs)) ∙ take-length (drop j bs)
