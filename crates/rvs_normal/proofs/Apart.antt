-- Keys and names that differ.
use Rattle.std.proofs.Common.{◌≡◌, ℕ, true, false, List, [], ◌∷◌, ◌++◌, refl}
use Rattle.std.proofs.Common.{arith, rules}
use Rattle.std.proofs.lemmas.Bool.{or_parts, and_parts}
use Rattle.std.specs.Prelude.{not, map, bytes_eq}
use Rattle.std.specs.List.{list_any}
use Rattle.std.proofs.lemmas.List.Folds.{list_any-append}
use Rattle.std.proofs.lemmas.Slice.Eq.{bytes_eq-Decides}
use Rattle.rvs_tree.specs.Value.{has_key}
use Rattle.rvs_cgf.specs.Groups.{Point, Label, same_kind, is_point, has, role_of}
use Rattle.rvs_points.specs.declared.group.Kind.{Kind}
use Rattle.rvs_points.specs.declared.group.Kind.TheVariants as kind
use Rattle.rvs_cgf.specs.declared.groups.Role.{Role}
use Rattle.rvs_cgf.specs.declared.groups.Role.TheVariants as role
use Rattle.rvs_points.specs.Kinds.{kind_name}
use Rattle.rvs_cgf.specs.Spelled.{Block, joined, blocks, kinds_are_apart}
use Rattle.rvs_points.specs.Valid.{are_distinct}
use Rattle.rvs_points.proofs.SameKinds.{same-self}
use Rattle.rvs_normal.specs.Again.{names_are_apart}
use Rattle.rvs_normal.proofs.Truths.{or-last, not-true}
use Rattle.rvs_normal.proofs.Placed.{keys}
use Rattle.rvs_normal.proofs.Blocks.{AreFree}

-- none of them is this one, which stands before them
abbrev pub Differs : List ℕ → List (List ℕ) → Type 0
Differs k [] = Unit {0}
Differs k (m ∷ ms) = (bytes_eq k m ≡ false) × Differs k ms

abbrev pub Distinct : List (List ℕ) → Type 0
Distinct [] = Unit {0}
Distinct (k ∷ ks) = Differs k ks × Distinct ks

-- none of them is in the list
abbrev pub FreeOf : List (List ℕ) → List (List ℕ) → Type 0
FreeOf seen [] = Unit {0}
FreeOf seen (k ∷ ks) = (has_key k seen ≡ false) × FreeOf seen ks

one-more : (seen : List (List ℕ)) (k : List ℕ) (ms : List (List ℕ)) → FreeOf seen ms → Differs k ms
    → FreeOf (seen ++ (k ∷ [])) ms
one-more seen k [] f d = tt
one-more seen k (m ∷ ms) f d = grind (arith, list_any-append, or-last, (one-more seen k ms f.1 d.1))

free-from : (seen ks : List (List ℕ)) → FreeOf seen ks → Distinct ks → AreFree seen ks
free-from seen [] f d = tt
free-from seen (k ∷ ks) f d =
    (f.0, free-from (seen ++ (k ∷ [])) ks (one-more seen k ks f.1 d.0) d.1)

free-of-one : (k : List ℕ) (ks : List (List ℕ)) → Differs k ks → FreeOf (k ∷ []) ks
free-of-one k [] d = tt
free-of-one k (m ∷ ms) d = (or-last false (bytes_eq k m) refl d.0, free-of-one k ms d.1)

pub free : (k : List ℕ) (ks : List (List ℕ)) → Distinct (k ∷ ks) → AreFree (k ∷ []) ks
free k ks d = free-from (k ∷ []) ks (free-of-one k ks d.0) d.1

-- ---- kinds
-- the kind that a node's name stands for
abbrev kind_of : Role → Kind
kind_of (role.Entries k) = k
kind_of _ = kind.Mnemonic

own-name : (k : Kind) → kind_of (role_of (kind_name k)) ≡ k
own-name k = grind arith

name-apart : (j k : Kind) → same_kind k j ≡ false → bytes_eq (kind_name j) (kind_name k) ≡ false
name-apart j k h = grind (arith, bytes_eq-Decides, own-name, same-self)

-- ---- keys that differ
pub eq-back : (a b : List ℕ) → bytes_eq a b ≡ false → bytes_eq b a ≡ false
eq-back a b h = grind (arith, bytes_eq-Decides)

-- ---- keys of blocks
abbrev pub NotHas : Kind → List ℕ → List Block → Type 0
NotHas k key [] = Unit {0}
NotHas k key (b ∷ bs) = (same_kind b.kind k ≡ true → Differs key (keys b.points)) × NotHas k key bs

joined-not-has : (k : Kind) (key : List ℕ) (q : Point) (bs : List Block) → is_point k key q ≡ false
    → NotHas k key bs → NotHas k key (joined q bs)
joined-not-has k key q bs h n = search rules

not-has : (k : Kind) (key : List ℕ) (ps : List Point) → has k key ps ≡ false
    → NotHas k key (blocks ps)
not-has k key [] h = tt
not-has k key (q ∷ qs) h = let p = or_parts (is_point k key q) (has k key qs) h in
    joined-not-has k key q (blocks qs) p.0 (not-has k key qs p.1)

abbrev pub AllDistinct : List Block → Type 0
AllDistinct [] = Unit {0}
AllDistinct (b ∷ bs) = Distinct (keys b.points) × AllDistinct bs

joined-distinct : (p : Point) (bs : List Block) → NotHas p.kind p.key bs → AllDistinct bs
    → AllDistinct (joined p bs)
joined-distinct p bs n d = grind arith

pub distinct-blocks : (ps : List Point) → are_distinct ps ≡ true → AllDistinct (blocks ps)
distinct-blocks [] h = tt
distinct-blocks (p ∷ ps) h =
    let q = and_parts (not (has p.kind p.key ps)) (are_distinct ps) h in
    joined-distinct p (blocks ps) (not-has p.kind p.key ps (not-true (has p.kind p.key ps) q.0))
    (distinct-blocks ps q.1)

-- ---- names of nodes
other-names : (b : Block) (bs : List Block) → list_any (λ c. same_kind c.kind b.kind) bs ≡ false
    → Differs (kind_name b.kind) (map (λ c. kind_name c.kind) bs)
other-names b [] h = tt
other-names b (c ∷ bs) h =
    let p = or_parts (same_kind c.kind b.kind) (list_any (λ d. same_kind d.kind b.kind) bs) h in
    (name-apart b.kind c.kind p.0, other-names b bs p.1)

pub node-names : (bs : List Block) → kinds_are_apart bs ≡ true
    → Distinct (map (λ b. kind_name b.kind) bs)
node-names [] h = tt
node-names (b ∷ bs) h =
    let p = and_parts (not (list_any (λ c. same_kind c.kind b.kind) bs)) (kinds_are_apart bs) h in (
      other-names b bs (not-true (list_any (λ c. same_kind c.kind b.kind) bs) p.0),
      node-names bs p.1,
    )

-- ---- names of labels
other-labels : (l : Label) (ls : List Label) → list_any (λ m. bytes_eq l.name m.name) ls ≡ false
    → Differs l.name (map (λ m. m.name) ls)
other-labels l [] h = tt
other-labels l (m ∷ ls) h =
    let p = or_parts (bytes_eq l.name m.name) (list_any (λ n. bytes_eq l.name n.name) ls) h in
    (p.0, other-labels l ls p.1)

pub label-names : (ls : List Label) → names_are_apart ls ≡ true → Distinct (map (λ l. l.name) ls)
label-names [] h = tt
label-names (l ∷ ls) h =
    let p = and_parts (not (list_any (λ m. bytes_eq l.name m.name) ls)) (names_are_apart ls) h in (
      other-labels l ls (not-true (list_any (λ m. bytes_eq l.name m.name) ls) p.0),
      label-names ls p.1,
    )
