-- What each entry of a node adds to the points.
use Rattle.std.proofs.Common.{◌≡◌, ℕ, zero, suc, ◌+◌, ◌<◌, ◌≤◌, Bool, true, false, not, ◌&&◌, List}
use Rattle.std.proofs.Common.{[], ◌∷◌, Ok, Err, refl, subst, arith, bytes_eq, codes}
use Rattle.std.proofs.lemmas.Bool.{and_from}
use Rattle.std.specs.Prelude.{nat_le, if◌then◌else◌}
use Rattle.rvs_insn.specs.Isa.{Isa}
use Rattle.rvs_tree.specs.Data.{Data, Pairs, own_pairs, is_map}
use Rattle.rvs_abstract.specs.declared.families.Families.{Families}
use Rattle.rvs_abstract.specs.Calls as calls
use Rattle.rvs_points.specs.Keys.{is_printable}
use Rattle.rvs_cgf.specs.Groups.{Meaning, Point, Skipped, Said, means, nothing, wrong, says, admits}
use Rattle.rvs_cgf.specs.Groups.{EntryNames, at_node, at_key, Refusal, Found, refused, ◌>>=◌, ◌>>◌}
use Rattle.rvs_cgf.specs.Groups.{holds, Taken, same_kind, point, has, with_point, add, with_skipped}
use Rattle.rvs_cgf.specs.Groups.{skip, is_empty_scalar, entries, for_each, abstract_key, is_shaped}
use Rattle.rvs_cgf.specs.Groups.{add_said, add_entry, Ranged, value_point, pair_point, each_step}
use Rattle.rvs_cgf.specs.Groups.{kth, count_of, add_kth, values, add_pair, with_jth, pairs, called}
use Rattle.rvs_cgf.specs.Groups.{abstract_entry}
use Rattle.rvs_cgf.specs.Groups.{under, abstract_node, holds_families, entry_of, all_entries}
use Rattle.rvs_cgf.specs.Groups.{skipped_entry, each_skipped, passed_over}
use Rattle.rvs_points.specs.Valid.{IsMeant}
use Rattle.rvs_points.specs.declared.group.Kind.{Kind}
use Rattle.rvs_points.specs.declared.group.Kind.TheVariants as kind
use Rattle.rvs_points.specs.declared.refusal.CgfKind.{CgfKind}
use Rattle.rvs_points.specs.declared.refusal.CgfKind.TheVariants as fault
use Rattle.rvs_points.proofs.SameKinds.{kind-is}
use Rattle.rvs_points.proofs.Distinct.{and-left, and-right}
use Rattle.rvs_cgf.proofs.FamilyKeys.{Small, is_sized, call-size, pairs-size, value-small}
use Rattle.rvs_cgf.proofs.FamilyKeys.{value_meant, pair_meant}

-- ---- answers
abbrev pub ok : {A : Type 0} → A → Found A
ok x = Ok x

pub ok-is : {A : Type 0} (x y : A) → ok x ≡ Ok y → x ≡ y
ok-is x y e = cc

pub err-not : {A G : Type 0} (r : Refusal) (x : A) → Err r ≡ ok x → G
err-not r x e = cc

pub if-ok : {A G : Type 0} (b : Bool) (x y : Found A) (u : A) → (if b then x else y) ≡ Ok u
    → (b ≡ true → x ≡ Ok u → G) → (b ≡ false → y ≡ Ok u → G) → G
if-ok true x y u e f g = f refl e
if-ok false x y u e f g = g refl e

pub bind-ok : {A B G : Type 0} (a : Found A) (f : A → Found B) (u : B) → (a >>= f) ≡ Ok u
    → ((x : A) → a ≡ Ok x → f x ≡ Ok u → G) → G
bind-ok (Ok x) f u e g = g x refl e
bind-ok (Err r) f u e g = cc

pub holds-then : {B G : Type 0} (good : Bool) (place : EntryNames) (k : CgfKind) (b : Found B)
    (u : B) → (holds good place k >> b) ≡ Ok u → (good ≡ true → b ≡ Ok u → G) → G
holds-then true place k b u e g = g refl e
holds-then false place k b u e g = cc

-- the entries that a node has are none or its own
pub entries-are : (P : Pairs → Type 0) (place : EntryNames) (d : Data) (es : Pairs)
    → entries place d ≡ Ok es → P [] → P (own_pairs d) → P es
entries-are P place d es e none own =
    if-ok (is_empty_scalar d) (Ok []) (if is_map d then Ok (own_pairs d)
    else refused place fault.BadShape) es e
    (λ b g. subst P (ok-is [] es g) none)
    (λ b g. if-ok (is_map d) (Ok (own_pairs d)) (refused place fault.BadShape) es g
    (λ c r. subst P (ok-is (own_pairs d) es r) own)
    (λ c r. err-not _ es r))

pub printable-is : (key : List ℕ) (d : Data) → is_shaped key d ≡ true → is_printable key ≡ true
printable-is key d e =
    and-left (is_printable key) _ (and-left _ (not (bytes_eq key abstract_key)) e)

-- ---- what every added point and every skipped entry keeps
abbrev pub is_note : Skipped → Bool
is_note s = is_printable s.node && is_printable s.key

pub record Kept (P : Taken → Type 0) (Q : Point → Type 0) : Type 0 where
  pub one : (p : Point) (t : Taken) → P t → Q p → has p.kind p.key t.points ≡ false
      → nat_le 2048 t.count ≡ false → P (with_point p t)
  pub passed : (s : Skipped) (t : Taken) → is_note s ≡ true → P t → P (with_skipped s t)

pub add-kept : (P : Taken → Type 0) (Q : Point → Type 0) → Kept P Q
    → (place : EntryNames) (p : Point) (t u : Taken) → P t → Q p → add place p t ≡ Ok u → P u
add-kept P Q k place p t u h q e =
    if-ok (has p.kind p.key t.points) (Ok t) (if nat_le 2048 t.count
    then refused place fault.TooManyPoints else Ok (with_point p t)) u e
    (λ b g. subst P (ok-is t u g) h)
    (λ b g. if-ok (nat_le 2048 t.count) (refused place fault.TooManyPoints)
    (Ok (with_point p t)) u g
    (λ c r. err-not _ u r)
    (λ c r. subst P (ok-is (with_point p t) u r) (k.one p t h q b c)))

skip-kept : (P : Taken → Type 0) (Q : Point → Type 0) → Kept P Q
    → (place : EntryNames) → is_printable place.node ≡ true → is_printable place.key ≡ true
    → (t u : Taken) → P t → skip place t ≡ Ok u → P u
skip-kept P Q k place n s t u h e =
    let note : Skipped = record { node = place.node; key = place.key } in
    subst P (ok-is (with_skipped note t) u e)
    (k.passed note t (and_from (is_printable place.node) (is_printable place.key) n s) h)

pub each-kept : {S : Type 0} (P : S → Type 0) (f : List ℕ → Data → S → Found S)
    → ((key : List ℕ) (d : Data) (t u : S) → P t → f key d t ≡ Ok u → P u)
    → (es : Pairs) (t u : S) → P t → for_each f es t ≡ Ok u → P u
each-kept P f step [] t u h e = subst P (ok-is t u e) h
each-kept P f step (x ∷ es) t u h e = bind-ok (f x.0 x.1 t) (λ w. for_each f es w) u e
    (λ w g r. each-kept P f step es w u (step x.0 x.1 t w h g) r)

-- ---- entries
-- what is known of a point that an entry adds
abbrev pub Gives : Isa → Kind → List ℕ → (Point → Type 0) → Type 0
Gives isa k key Q = (m : Meaning) → is_printable key ≡ true → says k key ≡ means m
    → admits isa m ≡ true → Q (point k key m)

said-kept : (P : Taken → Type 0) (Q : Point → Type 0) (isa : Isa) (place : EntryNames) (k : Kind)
    → Kept P Q → Gives isa k place.key Q → is_printable place.node ≡ true
    → is_printable place.key ≡ true → (s : Said) → says k place.key ≡ s → (t u : Taken) → P t
    → add_said isa k place s t ≡ Ok u → P u
said-kept P Q isa place k kept good n p (means m) is t u h e =
    holds-then (admits isa m) place fault.UnknownMnemonic (add place (point k place.key m) t) u e
    (λ a g. add-kept P Q kept place (point k place.key m) t u h (good m p is a) g)
said-kept P Q isa place k kept good n p nothing is t u h e = skip-kept P Q kept place n p t u h e
said-kept P Q isa place k kept good n p (wrong r) is t u h e = err-not _ u e

pub point-kept : (P : Taken → Type 0) (Q : Point → Type 0) (isa : Isa) (place : EntryNames)
    (k : Kind) → Kept P Q → Gives isa k place.key Q → is_printable place.node ≡ true
    → (d : Data) (t u : Taken) → P t → add_entry isa k place d t ≡ Ok u → P u
point-kept P Q isa place k kept good n d t u h e =
    holds-then (is_shaped place.key d) place fault.BadShape
    (add_said isa k place (says k place.key) t) u e
    (λ s g. said-kept P Q isa place k kept good n (printable-is place.key d s) (says k place.key)
    refl t u h g)

-- a point of another kind than that of the mnemonics
pub record IsOf (k : Kind) (p : Point) : Type 0 where
  pub meant : IsMeant p
  pub other : same_kind p.kind kind.Mnemonic ≡ false
  pub kind_is : p.kind ≡ k

-- ---- families
steps-kept : (P : Taken → Type 0) (f : ℕ → Taken → Found Taken) (m : ℕ)
    → ((k : ℕ) (t u : Taken) → k < m → P t → f k t ≡ Ok u → P u)
    → (n k : ℕ) → k + n ≤ m → (t u : Taken) → P t → each_step f k n t ≡ Ok u → P u
steps-kept P f m step zero k within t u h e = subst P (ok-is t u e) h
steps-kept P f m step (suc n) k within t u h e =
    bind-ok (f k t) (λ w. each_step f (suc k) n w) u e
    (λ w g r. steps-kept P f m step n (suc k) (omega arith) w u
    (step k t w (omega arith) h g) r)

small-kth : (r : Ranged) (k : ℕ) → is_sized r ≡ true → k < count_of r → Small (kth r k)
small-kth r k size below = value-small r.family r.size r.signed k size below

kth-kept : (P : Taken → Type 0) → Kept P (IsOf kind.ValComb) → (place : EntryNames) (r : Ranged)
    → is_sized r ≡ true → (k : ℕ) (t u : Taken) → k < count_of r → P t
    → add_kth place r k t ≡ Ok u → P u
kth-kept P kept place r size k t u below h e =
    add-kept P (IsOf kind.ValComb) kept place (value_point r.var (kth r k)) t u h (record {
      meant = value_meant r.var (kth r k) (small-kth r k size below);
      other = refl;
      kind_is = refl;
    }) e

values-kept : (P : Taken → Type 0) → Kept P (IsOf kind.ValComb) → (place : EntryNames) (r : Ranged)
    → is_sized r ≡ true → (t u : Taken) → P t → values place r t ≡ Ok u → P u
values-kept P kept place r size t u h e =
    steps-kept P (add_kth place r) (count_of r) (kth-kept P kept place r size) (count_of r) zero
    (omega arith) t u h e

pair-kept : (P : Taken → Type 0) → Kept P (IsOf kind.ValComb) → (place : EntryNames)
    (a b : Ranged) → is_sized a ≡ true → is_sized b ≡ true → (j : ℕ) → j < count_of a
    → (k : ℕ) (t u : Taken) → k < count_of b → P t → add_pair place a b j k t ≡ Ok u → P u
pair-kept P kept place a b size other j low k t u below h e =
    add-kept P (IsOf kind.ValComb) kept place (pair_point a.var (kth a j) b.var (kth b k)) t u h
    (record {
      meant = pair_meant a.var (kth a j) b.var (kth b k) (small-kth a j size low)
          (small-kth b k other below);
      other = refl;
      kind_is = refl;
    }) e

jth-kept : (P : Taken → Type 0) → Kept P (IsOf kind.ValComb) → (place : EntryNames)
    (a b : Ranged) → is_sized a ≡ true → is_sized b ≡ true → (j : ℕ) (t u : Taken)
    → j < count_of a → P t → with_jth place a b j t ≡ Ok u → P u
jth-kept P kept place a b size other j t u low h e =
    steps-kept P (add_pair place a b j) (count_of b) (pair-kept P kept place a b size other j low)
    (count_of b) zero (omega arith) t u h e

pairs-kept : (P : Taken → Type 0) → Kept P (IsOf kind.ValComb) → (place : EntryNames)
    (a b : Ranged) → is_sized a ≡ true → is_sized b ≡ true → (t u : Taken) → P t
    → pairs place a b t ≡ Ok u → P u
pairs-kept P kept place a b size other t u h e =
    steps-kept P (with_jth place a b) (count_of a) (jth-kept P kept place a b size other)
    (count_of a) zero (omega arith) t u h e

called-kept : (P : Taken → Type 0) → Kept P (IsOf kind.ValComb) → (families : Families)
    (place : EntryNames) → is_printable place.node ≡ true → is_printable place.key ≡ true
    → (a : calls.CallReading) → calls.call_of families place.key ≡ a → (t u : Taken) → P t
    → called place a t ≡ Ok u → P u
called-kept P kept families place n p (Ok (calls.points r)) is t u h e =
    values-kept P kept place r (call-size families place.key r is) t u h e
called-kept P kept families place n p (Ok (calls.pairs a b)) is t u h e =
    let sizes = pairs-size families place.key a b is in
    pairs-kept P kept place a b (and-left (is_sized a) (is_sized b) sizes)
    (and-right (is_sized a) (is_sized b) sizes) t u h e
called-kept P kept families place n p (Ok calls.skipped) is t u h e =
    skip-kept P (IsOf kind.ValComb) kept place n p t u h e
called-kept P kept families place n p (Err r) is t u h e = err-not _ u e

abstract-kept : (P : Taken → Type 0) → Kept P (IsOf kind.ValComb) → (families : Families)
    (place : EntryNames) → is_printable place.node ≡ true → (d : Data) (t u : Taken) → P t
    → abstract_entry families place d t ≡ Ok u → P u
abstract-kept P kept families place n d t u h e =
    holds-then (is_shaped place.key d) place fault.BadShape
    (called place (calls.call_of families place.key) t) u e
    (λ s g. called-kept P kept families place n (printable-is place.key d s)
    (calls.call_of families place.key) refl t u h g)

families-kept : (P : Taken → Type 0) → Kept P (IsOf kind.ValComb) → (families : Families)
    (place : EntryNames) (d : Data) (t u : Taken) → P t → abstract_node families place d t ≡ Ok u
    → P u
families-kept P kept families place d t u h e =
    let node = at_node place.label abstract_key in
    bind-ok (entries place d) (λ es. for_each (under node (abstract_entry families)) es t) u e
    (λ es _ g. each-kept P (under node (abstract_entry families))
    (λ key. abstract-kept P kept families (at_key node key) refl) es t u h g)

pub entry-kept : (P : Taken → Type 0) (isa : Isa) (families : Families) (k : Kind)
    → Kept P (IsOf k) → same_kind k kind.Mnemonic ≡ false → (place : EntryNames)
    → is_printable place.node ≡ true
    → (d : Data) (t u : Taken) → P t → entry_of isa families k place d t ≡ Ok u → P u
entry-kept P isa families k kept other place n d t u h e =
    if-ok (holds_families k place.key) (abstract_node families place d t)
    (add_entry isa k place d t) u e
    (λ b g. families-kept P (subst (λ (j : Kind). Kept P (IsOf j))
    (kind-is k kind.ValComb (and-left (same_kind k kind.ValComb) _ b)) kept) families place d t u
    h g)
    (λ b g. point-kept P (IsOf k) isa place k kept (λ m p is a. record {
      meant = record { printable = p; said = is };
      other = other;
      kind_is = refl;
    }) n d t u h g)

pub entries-kept : (P : Taken → Type 0) (isa : Isa) (families : Families) (k : Kind)
    (place : EntryNames)
    → ((key : List ℕ) (d : Data) (t u : Taken) → P t
    → entry_of isa families k (at_key place key) d t ≡ Ok u → P u)
    → (d : Data) (t u : Taken) → P t → all_entries isa families k place d t ≡ Ok u → P u
entries-kept P isa families k place step d t u h e =
    bind-ok (entries place d) (λ es. for_each (under place (entry_of isa families k)) es t) u e
    (λ es _ g. each-kept P (under place (entry_of isa families k)) step es t u h g)

skipped-kept : (P : Taken → Type 0) (Q : Point → Type 0) → Kept P Q
    → (place : EntryNames) → is_printable place.node ≡ true → (d : Data) (t u : Taken) → P t
    → skipped_entry place d t ≡ Ok u → P u
skipped-kept P Q kept place n d t u h e =
    holds-then (is_shaped place.key d) place fault.BadShape (skip place t) u e
    (λ s g. skip-kept P Q kept place n (printable-is place.key d s) t u h g)

all_skipped-kept : (P : Taken → Type 0) (Q : Point → Type 0) → Kept P Q
    → (place : EntryNames) → is_printable place.node ≡ true → (es : Pairs) (t u : Taken) → P t
    → each_skipped place es t ≡ Ok u → P u
all_skipped-kept P Q kept place n [] t u h e =
    skip-kept P Q kept (at_key place (codes "-")) n refl t u h e
all_skipped-kept P Q kept place n (x ∷ es) t u h e =
    each-kept P (under place skipped_entry) (λ key. skipped-kept P Q kept (at_key place key) n)
    (x ∷ es) t u h e

pub passed-kept : (P : Taken → Type 0) (Q : Point → Type 0) → Kept P Q
    → (place : EntryNames) → is_printable place.node ≡ true → (d : Data) (t u : Taken) → P t
    → passed_over place d t ≡ Ok u → P u
passed-kept P Q kept place n d t u h e =
    bind-ok (entries place d) (λ es. each_skipped place es t) u e
    (λ es _ g. all_skipped-kept P Q kept place n es t u h g)
