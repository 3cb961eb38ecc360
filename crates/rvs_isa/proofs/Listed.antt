-- The paths that are listed as unread are those of entries at which no check looks.
use Rattle.std.proofs.Common.{◌≡◌, ℕ, Bool, true, false, ◌||◌, ◌⊎◌, inl, inr, if◌then◌else◌, List}
use Rattle.std.proofs.Common.{[], ◌∷◌, ◌++◌, Contains, All, flat_map, codes, bytes_eq, refl, sym}
use Rattle.std.proofs.Common.{subst, arith, lit<, rules}
use Rattle.std.proofs.lemmas.Bool.{false_from_ne_true, or_parts, or_from}
use Rattle.std.proofs.lemmas.List.Elements.{All-contains, All-from_recursion, Contains-append_left}
use Rattle.std.proofs.lemmas.List.Elements.{Contains-append_right, Contains-append_cases}
use Rattle.std.proofs.lemmas.List.Elements.{Contains-push_cases}
use Rattle.std.proofs.lemmas.Slice.Eq.{bytes_eq-Decides}
use Rattle.rvs_tree.specs.Data.{Data, own_pairs}
use Rattle.rvs_isa.specs.Check.{misa_path, memory_path, base_path}
use Rattle.rvs_isa.specs.Reads.{read_paths, opened_maps, Leads, IsUnread, UnreadAreListed}
use Rattle.rvs_isa.specs.Refusal.{Path, path_text}
use Rattle.rvs_isa.specs.Unread.{unread, each_entry, is_checked, unread_of_root, unread_of_hart}
use Rattle.rvs_isa.specs.Unread.{unread_of_misa, unread_of_memory}

-- ---- members of lists
none_in : {X : Type 0} (x : X) → Contains [] x → ⊥
none_in x c = omega arith

only : {X : Type 0} (x y : X) → Contains (x ∷ []) y → x ≡ y
only x y c = elim (Contains-push_cases [] x y c) [ inl n ↦ absurd (none_in y n) | inr e ↦ e ]

in_front : {X : Type 0} (x : X) (xs : List X) → Contains (x ∷ xs) x
in_front x xs = (0, omega arith, refl)

later : {X : Type 0} (y : X) (xs : List X) (x : X) → Contains xs x → Contains (y ∷ xs) x
later y xs x c = Contains-append_right (y ∷ []) xs x c

flat_in : {X A : Type 0} (f : X → List A) (xs : List X) (x : X) (a : A) → Contains xs x
    → Contains (f x) a → Contains (flat_map f xs) a
flat_in f [] x a c d = absurd (none_in x c)
flat_in f (y ∷ ys) x a c d =
    elim (Contains-append_cases (y ∷ []) ys x c) [
      | inl h ↦ Contains-append_left (f y) (flat_map f ys) a
          (subst (λ z. Contains (f z) a) (sym (only y x h)) d)
      | inr r ↦ Contains-append_right (f y) (flat_map f ys) a (flat_in f ys x a r d)
    ]

flat_from : {X A : Type 0} (f : X → List A) (xs : List X) (a : A) → Contains (flat_map f xs) a
    → (x : X) × Contains xs x × Contains (f x) a
flat_from f [] a c = absurd (none_in a c)
flat_from f (y ∷ ys) a c =
    elim (Contains-append_cases (f y) (flat_map f ys) a c) [
      | inl h ↦ (y, in_front y ys, h)
      | inr r ↦ let g = flat_from f ys a r in (g.0, later y ys g.0 g.1, g.2)
    ]

-- ---- keys that differ
equal : (a b : List ℕ) → bytes_eq a b ≡ true → a ≡ b
equal a b e = (bytes_eq-Decides a b).0 e

unequal : (a b : List ℕ) → bytes_eq a b ≡ false → a ≡ b → ⊥
unequal a b f e =
    let t = (bytes_eq-Decides a b).1 e in cc

differ : (a b : List ℕ) → (a ≡ b → ⊥) → bytes_eq a b ≡ false
differ a b n = false_from_ne_true (bytes_eq a b) (λ t. n (equal a b t))

-- ---- which paths are read
abbrev Unlike : Path → Path → Type 0
Unlike path read = read ≡ path → ⊥

not_among : (hart : List ℕ) (path : Path) → All (Unlike path) (read_paths hart)
    → Contains (read_paths hart) path → ⊥
not_among hart path unlike c = All-contains (Unlike path) (read_paths hart) path unlike c refl

root_key_unread : (hart key : List ℕ) → bytes_eq key hart ≡ false
    → bytes_eq key (codes "hart_ids") ≡ false → Contains (read_paths hart) (key ∷ []) → ⊥
root_key_unread hart key e f =
    let h = λ (s : hart ≡ key). unequal key hart e (sym s) in
    let i = λ (s : codes "hart_ids" ≡ key). unequal key (codes "hart_ids") f (sym s) in
    not_among hart (key ∷ []) (All-from_recursion (Unlike (key ∷ [])) (read_paths hart) (
      λ s. cc,
      (
        λ s. i (cc),
        (
          λ s. h (cc),
          (
            λ s. cc,
            (
              λ s. cc,
              (λ s. cc, (λ s. cc, (λ s. cc, (λ s. cc, (λ s. cc, (λ s. cc, (λ s. cc, tt))))))),
            ),
          ),
        ),
      ),
    ))

-- a key of the hart differs from those that are read
pub record Differs (key : List ℕ) : Type 0 where
  pub misa : bytes_eq key (codes "misa") ≡ false
  pub memory : bytes_eq key (codes "memory_map") ≡ false
  pub isa : bytes_eq key (codes "ISA") ≡ false
  pub xlen : bytes_eq key (codes "supported_xlen") ≡ false
  pub size : bytes_eq key (codes "physical_addr_sz") ≡ false
  pub misaligned : bytes_eq key (codes "hw_data_misaligned_support") ≡ false

differs : (key : List ℕ) → bytes_eq key (codes "misa") ≡ false
    → bytes_eq key (codes "memory_map") ≡ false → is_checked key ≡ false → Differs key
differs key m n e = grind (arith, or_parts, bytes_eq, codes)

unchecked : (key : List ℕ) → Differs key → is_checked key ≡ false
unchecked key d = grind (arith, or_from, bytes_eq, codes)

hart_key_unread : (hart key : List ℕ) → Differs key → Contains (read_paths hart) (hart ∷ key ∷ [])
    → ⊥
hart_key_unread hart key d =
    let no_key = λ (other : List ℕ) (f : bytes_eq key other ≡ false) (s : other ≡ key). unequal key
    other f (sym s) in
    not_among hart (hart ∷ key ∷ [])
    (All-from_recursion (Unlike (hart ∷ key ∷ [])) (read_paths hart) (
      λ s. cc,
      (
        λ s. cc,
        (
          λ s. cc,
          (
            λ s. no_key (codes "ISA") d.isa (cc),
            (
              λ s. no_key (codes "supported_xlen") d.xlen (cc),
              (
                λ s. no_key (codes "physical_addr_sz") d.size (cc),
                (
                  λ s. no_key (codes "hw_data_misaligned_support") d.misaligned (cc),
                  (
                    λ s. no_key (codes "misa") d.misa (cc),
                    (
                      λ s. cc,
                      (
                        λ s. no_key (codes "memory_map") d.memory (cc),
                        (λ s. cc, (λ s. cc, tt)),
                      ),
                    ),
                  ),
                ),
              ),
            ),
          ),
        ),
      ),
    ))

misa_key_unread : (hart key : List ℕ) → bytes_eq key (codes "reset-val") ≡ false
    → Contains (read_paths hart) (hart ∷ codes "misa" ∷ key ∷ []) → ⊥
misa_key_unread hart key f =
    let no_key = λ (s : codes "reset-val" ≡ key). unequal key (codes "reset-val") f (sym s) in
    not_among hart (hart ∷ codes "misa" ∷ key ∷ [])
    (All-from_recursion (Unlike (hart ∷ codes "misa" ∷ key ∷ [])) (read_paths hart) (
      λ s. cc,
      (
        λ s. cc,
        (
          λ s. cc,
          (
            λ s. cc,
            (
              λ s. cc,
              (
                λ s. cc,
                (λ s. cc, (λ s. cc, (λ s. no_key (cc), (λ s. cc, (λ s. cc, (λ s. cc, tt)))))),
              ),
            ),
          ),
        ),
      ),
    ))

memory_key_unread : (hart key : List ℕ)
    → (bytes_eq key (codes "text") || bytes_eq key (codes "data")) ≡ false
    → Contains (read_paths hart) (hart ∷ codes "memory_map" ∷ key ∷ []) → ⊥
memory_key_unread hart key f =
    let g = or_parts (bytes_eq key (codes "text")) (bytes_eq key (codes "data")) f in
    let no_text = λ (s : codes "text" ≡ key). unequal key (codes "text") g.0 (sym s) in
    let no_data = λ (s : codes "data" ≡ key). unequal key (codes "data") g.1 (sym s) in
    not_among hart (hart ∷ codes "memory_map" ∷ key ∷ [])
    (All-from_recursion (Unlike (hart ∷ codes "memory_map" ∷ key ∷ [])) (read_paths hart) (
      λ s. cc,
      (
        λ s. cc,
        (
          λ s. cc,
          (
            λ s. cc,
            (
              λ s. cc,
              (
                λ s. cc,
                (
                  λ s. cc,
                  (
                    λ s. cc,
                    (λ s. cc, (λ s. cc, (λ s. no_text (cc), (λ s. no_data (cc), tt)))),
                  ),
                ),
              ),
            ),
          ),
        ),
      ),
    ))

-- ---- what is listed is unread
either : {X : Type 0} (b : Bool) (xs ys : List X) (y : X) → Contains (if b then xs else ys) y
    → ((b ≡ true) × Contains xs y) ⊎ ((b ≡ false) × Contains ys y)
either h = grind arith

kept : {X : Type 0} (b : Bool) (x y : X) → Contains (if b then [] else x ∷ []) y
    → (b ≡ false) × (x ≡ y)
kept h = grind arith

from_misa : (hart : List ℕ) (root entries misa : Data) (text : List ℕ)
    → Contains (own_pairs root) (hart, entries) → Contains (own_pairs entries) (codes "misa", misa)
    → Contains (each_entry (λ key _. unread_of_misa hart key) misa) text → IsUnread hart root text
from_misa hart root entries misa text there inside c =
    let g = flat_from (λ p. unread_of_misa hart p.0) (own_pairs misa) text c in
    let k = kept (bytes_eq g.0.0 (codes "reset-val")) (path_text (hart ∷ codes "misa" ∷ g.0.0 ∷ []))
    text g.2 in (
      misa_path hart,
      g.0.0,
      (2, lit< tt, refl),
      (entries, there, (misa, inside, (g.0.1, g.1, tt))),
      misa_key_unread hart g.0.0 k.0,
      k.1,
    )

from_memory : (hart : List ℕ) (root entries memory : Data) (text : List ℕ)
    → Contains (own_pairs root) (hart, entries)
    → Contains (own_pairs entries) (codes "memory_map", memory)
    → Contains (each_entry (λ key _. unread_of_memory hart key) memory) text
    → IsUnread hart root text
from_memory hart root entries memory text there inside c =
    let g = flat_from (λ p. unread_of_memory hart p.0) (own_pairs memory) text c in
    let k = kept (bytes_eq g.0.0 (codes "text") || bytes_eq g.0.0 (codes "data"))
    (path_text (hart ∷ codes "memory_map" ∷ g.0.0 ∷ [])) text g.2 in (
      memory_path hart,
      g.0.0,
      (3, lit< tt, refl),
      (entries, there, (memory, inside, (g.0.1, g.1, tt))),
      memory_key_unread hart g.0.0 k.0,
      k.1,
    )

-- what is unread of a key of the hart that isn't misa
abbrev behind_misa : List ℕ → List ℕ → Data → List (List ℕ)
behind_misa hart key value =
    if bytes_eq key (codes "memory_map")
    then each_entry (λ inner _. unread_of_memory hart inner) value
    else (if is_checked key then [] else path_text (hart ∷ key ∷ []) ∷ [])

from_other : (hart : List ℕ) (root entries : Data) (key : List ℕ) (value : Data) (text : List ℕ)
    → Contains (own_pairs root) (hart, entries) → Contains (own_pairs entries) (key, value)
    → bytes_eq key (codes "misa") ≡ false → Contains (behind_misa hart key value) text
    → IsUnread hart root text
from_other hart root entries key value text there inside m c =
    let others : List (List ℕ) = if is_checked key then [] else path_text (hart ∷ key ∷ []) ∷ [] in
    elim (either (bytes_eq key (codes "memory_map"))
    (each_entry (λ inner _. unread_of_memory hart inner) value) others text c) [
      | inl h ↦ from_memory hart root entries value text there (subst
          (λ (k : List ℕ). Contains (own_pairs entries) (k, value))
          (equal key (codes "memory_map") h.0)
          inside) h.1
      | inr r ↦
          let k = kept (is_checked key) (path_text (hart ∷ key ∷ [])) text r.1 in (
            hart ∷ [],
            key,
            (1, lit< tt, refl),
            (entries, there, (value, inside, tt)),
            hart_key_unread hart key (differs key m r.0 k.0),
            k.1,
          )
    ]

from_entry : (hart : List ℕ) (root entries : Data) (key : List ℕ) (value : Data) (text : List ℕ)
    → Contains (own_pairs root) (hart, entries)
    → Contains (own_pairs entries) (key, value) → Contains (unread_of_hart hart key value) text
    → IsUnread hart root text
from_entry hart root entries key value text there inside c =
    elim (either (bytes_eq key (codes "misa"))
    (each_entry (λ inner _. unread_of_misa hart inner) value) (behind_misa hart key value) text c) [
      | inl h ↦ from_misa hart root entries value text there (subst
          (λ (k : List ℕ). Contains (own_pairs entries) (k, value)) (equal key (codes "misa") h.0)
          inside) h.1
      | inr r ↦ from_other hart root entries key value text there inside r.0 r.1
    ]

from_hart : (hart : List ℕ) (root entries : Data) (text : List ℕ)
    → Contains (own_pairs root) (hart, entries)
    → Contains (each_entry (unread_of_hart hart) entries) text → IsUnread hart root text
from_hart hart root entries text there c =
    let g = flat_from (λ p. unread_of_hart hart p.0 p.1) (own_pairs entries) text c in
    from_entry hart root entries g.0.0 g.0.1 text there g.1 g.2

from_root : (hart : List ℕ) (root : Data) (key : List ℕ) (value : Data) (text : List ℕ)
    → Contains (own_pairs root) (key, value)
    → Contains (unread_of_root hart key value) text → IsUnread hart root text
from_root hart root key value text there c =
    let others : List (List ℕ) = if bytes_eq key (codes "hart_ids") then []
    else path_text (key ∷ []) ∷ [] in
    elim (either (bytes_eq key hart) (each_entry (unread_of_hart hart) value) others text c) [
      | inl h ↦ from_hart hart root value text
          (subst (λ (k : List ℕ). Contains (own_pairs root) (k, value)) (equal key hart h.0) there)
          h.1
      | inr r ↦
          let k = kept (bytes_eq key (codes "hart_ids")) (path_text (key ∷ [])) text r.1 in
          ([], key, (0, lit< tt, refl), (value, there, tt), root_key_unread hart key r.0 k.0, k.1)
    ]

listed_is_unread : (hart : List ℕ) (root : Data) (text : List ℕ) → Contains (unread hart root) text
    → IsUnread hart root text
listed_is_unread hart root text c =
    let g = flat_from (λ p. unread_of_root hart p.0 p.1) (own_pairs root) text c in
    from_root hart root g.0.0 g.0.1 text g.1 g.2

-- ---- what is unread is listed
put : {X : Type 0} (b : Bool) (x y : X) → b ≡ false → x ≡ y → Contains (if b then [] else x ∷ []) y
put h x = grind arith

first : {X : Type 0} (b : Bool) (xs ys : List X) (y : X) → b ≡ true → Contains xs y
    → Contains (if b then xs else ys) y
first h xs = grind arith

second : {X : Type 0} (b : Bool) (xs ys : List X) (y : X) → b ≡ false → Contains ys y
    → Contains (if b then xs else ys) y
second h xs = grind arith

-- an entry of a map, where something holds of the path with its key
abbrev pub IsListedIn : List ℕ → Data → List ℕ → Path → Type 0
IsListedIn hart root text front =
    (key : List ℕ) → Leads (front ++ key ∷ []) root
    → (Contains (read_paths hart) (front ++ key ∷ []) → ⊥)
    → path_text (front ++ key ∷ []) ≡ text → Contains (unread hart root) text

listed_of_root : (hart : List ℕ) (root : Data) (text : List ℕ) → IsListedIn hart root text []
listed_of_root hart root text key leads n e =
    let no_hart = differ key hart (λ s. n
    (subst (λ (k : List ℕ). Contains (read_paths hart) (k ∷ [])) (sym s) (2, lit< tt, refl))) in
    let no_ids = differ key (codes "hart_ids") (λ s. n
    (subst (λ (k : List ℕ). Contains (read_paths hart) (k ∷ [])) (sym s) (1, lit< tt, refl))) in
    let others : List (List ℕ) = if bytes_eq key (codes "hart_ids") then []
    else path_text (key ∷ []) ∷ [] in
    flat_in (λ p. unread_of_root hart p.0 p.1) (own_pairs root) (key, leads.0) text leads.1
    (second (bytes_eq key hart) (each_entry (unread_of_hart hart) leads.0) others text no_hart
    (put (bytes_eq key (codes "hart_ids")) (path_text (key ∷ [])) text no_ids e))

-- what an entry of the hart adds is listed
through_hart : (hart : List ℕ) (root entries : Data) (key : List ℕ) (value : Data) (text : List ℕ)
    → Contains (own_pairs root) (hart, entries)
    → Contains (own_pairs entries) (key, value) → Contains (unread_of_hart hart key value) text
    → Contains (unread hart root) text
through_hart hart root entries key value text there inside c =
    let others : List (List ℕ) = if bytes_eq hart (codes "hart_ids") then []
    else path_text (hart ∷ []) ∷ [] in
    flat_in (λ p. unread_of_root hart p.0 p.1) (own_pairs root) (hart, entries) text there
    (first (bytes_eq hart hart) (each_entry (unread_of_hart hart) entries) others text
    ((bytes_eq-Decides hart hart).1 refl)
    (flat_in (λ p. unread_of_hart hart p.0 p.1) (own_pairs entries) (key, value) text inside c))

-- the key isn't that of a path that is read
other_key : (hart key other : List ℕ) → (Contains (read_paths hart) (hart ∷ key ∷ []) → ⊥)
    → Contains (read_paths hart) (hart ∷ other ∷ []) → bytes_eq key other ≡ false
other_key hart key other n c = grind (arith, differ)

listed_of_hart : (hart : List ℕ) (root : Data) (text : List ℕ)
    → IsListedIn hart root text (hart ∷ [])
listed_of_hart hart root text key leads n e =
    let value = leads.2.0 in
    let d : Differs key = record {
      isa = other_key hart key (codes "ISA") n (3, lit< tt, refl);
      xlen = other_key hart key (codes "supported_xlen") n (4, lit< tt, refl);
      size = other_key hart key (codes "physical_addr_sz") n (5, lit< tt, refl);
      misaligned = other_key hart key (codes "hw_data_misaligned_support") n (6, lit< tt, refl);
      misa = other_key hart key (codes "misa") n (7, lit< tt, refl);
      memory = other_key hart key (codes "memory_map") n (9, lit< tt, refl);
    } in
    let others : List (List ℕ) = if is_checked key then [] else path_text (hart ∷ key ∷ []) ∷ [] in
    through_hart hart root leads.0 key value text leads.1 leads.2.1
    (second (bytes_eq key (codes "misa"))
    (each_entry (λ inner _. unread_of_misa hart inner) value) (behind_misa hart key value) text
    d.misa
    (second (bytes_eq key (codes "memory_map"))
    (each_entry (λ inner _. unread_of_memory hart inner) value) others text d.memory
    (put (is_checked key) (path_text (hart ∷ key ∷ [])) text (unchecked key d) e)))

listed_of_misa : (hart : List ℕ) (root : Data) (text : List ℕ)
    → IsListedIn hart root text (misa_path hart)
listed_of_misa hart root text key leads n e =
    let misa = leads.2.0 in
    let no_reset = differ key (codes "reset-val") (λ s. n (subst
    (λ (k : List ℕ). Contains (read_paths hart) (hart ∷ codes "misa" ∷ k ∷ [])) (sym s)
    (8, lit< tt, refl))) in
    let others = behind_misa hart (codes "misa") misa in
    through_hart hart root leads.0 (codes "misa") misa text leads.1 leads.2.1
    (first (bytes_eq (codes "misa") (codes "misa"))
    (each_entry (λ inner _. unread_of_misa hart inner) misa) others text refl
    (flat_in (λ p. unread_of_misa hart p.0) (own_pairs misa) (key, leads.2.2.0) text leads.2.2.1
    (put (bytes_eq key (codes "reset-val")) (path_text (hart ∷ codes "misa" ∷ key ∷ [])) text
    no_reset e)))

listed_of_memory : (hart : List ℕ) (root : Data) (text : List ℕ)
    → IsListedIn hart root text (memory_path hart)
listed_of_memory hart root text key leads n e =
    let memory = leads.2.0 in
    let differs_from = λ (other : List ℕ) (c : Contains (read_paths hart) (base_path hart other)).
    differ key other (λ s. n (subst (λ (k : List ℕ). Contains (read_paths hart) (base_path hart k))
    (sym s) c)) in
    let none = or_from (bytes_eq key (codes "text")) (bytes_eq key (codes "data"))
    (differs_from (codes "text") (10, lit< tt, refl))
    (differs_from (codes "data") (11, lit< tt, refl)) in
    let others : List (List ℕ) = if is_checked (codes "memory_map") then []
    else path_text (hart ∷ codes "memory_map" ∷ []) ∷ [] in
    let added = flat_in (λ p. unread_of_memory hart p.0) (own_pairs memory) (key, leads.2.2.0) text
    leads.2.2.1
    (put (bytes_eq key (codes "text") || bytes_eq key (codes "data"))
    (path_text (hart ∷ codes "memory_map" ∷ key ∷ [])) text none e) in
    through_hart hart root leads.0 (codes "memory_map") memory text leads.1 leads.2.1
    (second (bytes_eq (codes "memory_map") (codes "misa"))
    (each_entry (λ inner _. unread_of_misa hart inner) memory)
    (behind_misa hart (codes "memory_map") memory) text refl
    (first (bytes_eq (codes "memory_map") (codes "memory_map"))
    (each_entry (λ inner _. unread_of_memory hart inner) memory) others text refl added))

unread_is_listed : (hart : List ℕ) (root : Data) (text : List ℕ) → IsUnread hart root text
    → Contains (unread hart root) text
unread_is_listed hart root text u =
    All-contains (IsListedIn hart root text) (opened_maps hart) u.0
    (All-from_recursion (IsListedIn hart root text) (opened_maps hart) (
      listed_of_root hart root text,
      (
        listed_of_hart hart root text,
        (listed_of_misa hart root text, (listed_of_memory hart root text, tt)),
      ),
    ))
    u.2 u.1 u.3 u.4 u.5

pub unread_are_listed : UnreadAreListed
unread_are_listed hart root text = search (rules, listed_is_unread, unread_is_listed)
