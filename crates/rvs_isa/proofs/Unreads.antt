-- Entry after entry of a map.
use Rattle.std.proofs.Common.{◌≡◌, ℕ, ◌+◌, true, List, [], ◌∷◌, ◌++◌, Option, Some, None, map}
use Rattle.std.proofs.Common.{Bor, if◌then◌else◌, bytes_eq}
use Rattle.std.proofs.Common.{option_map, slice_get, take, flat_map, ap, sym, ◌∙◌, append-nil}
use Rattle.std.proofs.Common.{append_assoc}
use Rattle.std.proofs.Common.{arith}
use Rattle.std.specs.List.{list_any}
use Rattle.std.proofs.lemmas.List.{take_more}
use Rattle.std.proofs.lemmas.Option.{slice_get-map, slice_get_within, get_or_from_slice_get}
use Rattle.std.proofs.lemmas.Grind.{flat_map-append}
use Rattle.rvs_tree.specs.Data.{Data, Pairs, own_pairs, keys_of, members_of, is_map}
use Rattle.rvs_isa.specs.Refusal.{path_text}

-- what the first entries of a map add
abbrev pub first_entries : (List ℕ → Data → List (List ℕ)) → ℕ → Data → List (List ℕ)
first_entries unread i d = flat_map (λ p. unread p.0 p.1) (take i (own_pairs d))

-- what an entry adds is behind what those before it added
pub adds : {A : Type 0} (before now new so_far more added : List A)
    → new ≡ now ++ added → now ≡ before ++ so_far → more ≡ so_far ++ added → new ≡ before ++ more
adds before now new so_far more added e n m =
    e ∙ ap (λ t. t ++ added) n ∙ append_assoc before so_far added ∙ ap (λ t. before ++ t) (sym m)

same_pair : (o : Option (List ℕ × Data)) (k : List ℕ) (v : Data) → option_map (λ p. p.0) o ≡ Some k
    → option_map (λ p. p.1) o ≡ Some v → o ≡ Some (k, v)
same_pair o k v e f = grind arith

pair_at : (ps : Pairs) (i : ℕ) (k : List ℕ) (v : Data) → slice_get (map (λ p. p.0) ps) i ≡ Some k
    → slice_get (map (λ p. p.1) ps) i ≡ Some v → slice_get ps i ≡ Some (k, v)
pair_at ps i k v e f = grind (arith, same_pair, slice_get, slice_get-map)

more_pairs : (unread : List ℕ → Data → List (List ℕ)) (i : ℕ) (ps : Pairs) (k : List ℕ) (v : Data)
    → slice_get ps i ≡ Some (k, v)
    → flat_map (λ p. unread p.0 p.1) (take (i + 1) ps)
    ≡ flat_map (λ p. unread p.0 p.1) (take i ps) ++ unread k v
more_pairs unread i ps k v e =
    ap (flat_map (λ p. unread p.0 p.1)) (take_more ps i (k, v) (slice_get_within ps i (k, v) e)
    ∙ ap (λ p. take i ps ++ p ∷ []) (get_or_from_slice_get ps i (k, v) (k, v) e))
    ∙ flat_map-append (λ p. unread p.0 p.1) (take i ps) ((k, v) ∷ [])
    ∙ ap (λ t. flat_map (λ p. unread p.0 p.1) (take i ps) ++ t) (append-nil (unread k v))

members_of_map : (d : Data) → is_map d ≡ true → members_of d ≡ map (λ p. p.1) (own_pairs d)
members_of_map d e = grind arith

pub first-more : (unread : List ℕ → Data → List (List ℕ)) (i : ℕ) (d : Data) (k : List ℕ) (v : Data)
    → is_map d ≡ true
    → slice_get (keys_of d) i ≡ Some k → slice_get (members_of d) i ≡ Some v
    → first_entries unread (i + 1) d ≡ first_entries unread i d ++ unread k v
first-more unread i d k v m e f =
    more_pairs unread i (own_pairs d) k v
    (pair_at (own_pairs d) i k v e (sym (ap (λ ms. slice_get ms i) (members_of_map d m)) ∙ f))

some_value : (o : Option (List ℕ × Data)) (k : List ℕ) → option_map (λ p. p.0) o ≡ Some k
    → (v : Data) × (o ≡ Some (k, v))
some_value None k e = absurd (cc)
some_value (Some p) k e =
    let k_is : p.0 ≡ k = cc in
    (p.1, ap (λ x. Some (x, p.1)) k_is)

-- the same, where the values don't matter
pub first-more_keys : (unread : List ℕ → List (List ℕ)) (i : ℕ) (d : Data) (k : List ℕ)
    → slice_get (keys_of d) i ≡ Some k → first_entries (λ key _. unread key) (i + 1) d
    ≡ first_entries (λ key _. unread key) i d ++ unread k
first-more_keys unread i d k e =
    let found = some_value (slice_get (own_pairs d) i) k
    (sym (slice_get-map (λ p. p.0) (own_pairs d) i) ∙ e) in
    more_pairs (λ key _. unread key) i (own_pairs d) k found.0 found.1

-- what is unread under a key of the hart, where these keys are read there
abbrev pub unread_of_inner : List ℕ → List ℕ → List (Bor (List ℕ)) → List ℕ → List (List ℕ)
unread_of_inner hart name read key = if list_any (λ k. bytes_eq key k.now) read then []
    else path_text (hart ∷ name ∷ key ∷ []) ∷ []
