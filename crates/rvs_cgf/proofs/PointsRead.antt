-- A point is read again from its key, and the points under a line from their keys.
use Rattle.std.proofs.Common.{◌≡◌, ℕ, suc, ◌+◌, ◌≤◌, Bool, true, false, not, ◌&&◌, List, ◌∷◌, []}
use Rattle.std.proofs.Common.{◌++◌, length, Ok, refl, sym, ap, ◌∙◌, arith, append_assoc, append-nil}
use Rattle.std.proofs.Common.{bytes_eq}
use Rattle.std.specs.Prelude.{nat_le, if◌then◌else◌}
use Rattle.std.proofs.lemmas.Bool.Decides.{nat_tests}
use Rattle.std.proofs.lemmas.Bool.{and_from, and_right, or_from}
use Rattle.rvs_insn.specs.Isa.{Isa}
use Rattle.rvs_insn.specs.Names.{op_of_name}
use Rattle.rvs_tree.specs.Data.{Data, scalar, sequence, mapping, Pairs, own_pairs, is_map}
use Rattle.rvs_tree.specs.Data.{is_scalar}
use Rattle.rvs_expr.specs.Parse.{parse}
use Rattle.rvs_cross.specs.Parse.{parse as parse_cross}
use Rattle.rvs_abstract.specs.declared.families.Families.{Families}
use Rattle.rvs_points.specs.Keys.{is_printable, is_skipped}
use Rattle.rvs_points.specs.Says.{of_cross}
use Rattle.rvs_cgf.specs.Groups.{Meaning, Point, Skipped, Said, means, says, admits}
use Rattle.rvs_cgf.specs.Groups.{EntryNames, at_key, Found, refused, ◌>>=◌, ◌>>◌, holds, Taken}
use Rattle.rvs_cgf.specs.Groups.{same_kind, has, with_point, add, entries, for_each, abstract_key}
use Rattle.rvs_cgf.specs.Groups.{is_shaped, under, add_said, add_entry, abstract_node}
use Rattle.rvs_cgf.specs.Groups.{holds_families, entry_of, all_entries}
use Rattle.rvs_points.specs.Valid.{are_distinct, IsMeant}
use Rattle.rvs_cgf.specs.Spelled.{SpellsKeys}
use Rattle.rvs_points.specs.declared.group.Kind.{Kind}
use Rattle.rvs_points.specs.declared.group.Kind.TheVariants as kind
use Rattle.rvs_points.specs.declared.refusal.CgfKind.{CgfKind}
use Rattle.rvs_points.specs.declared.refusal.CgfKind.TheVariants as fault
use Rattle.rvs_points.proofs.Distinct.{and-left, and-right, or-left, or-right}
use Rattle.rvs_points.proofs.Distinct.{if-no, no, has-append, point-sym}
use Rattle.rvs_cgf.proofs.Roles.{same-bytes}

-- ---- choices
pub holds-yes : {B : Type 0} (good : Bool) (place : EntryNames) (k : CgfKind) (next : Found B)
    → good ≡ true → (holds good place k >> next) ≡ next
holds-yes true place k next e = refl
holds-yes false place k next e = cc

pub bind-yes : {A B : Type 0} (a : Found A) (f : A → Found B) (x : A) → a ≡ Ok x → (a >>= f) ≡ f x
bind-yes a f x e = ap (λ r. r >>= f) e

pub entries-yes : (place : EntryNames) (d : Data) → is_map d ≡ true
    → entries place d ≡ Ok (own_pairs d)
entries-yes place (scalar text line) e = cc
entries-yes place (sequence ds line) e = cc
entries-yes place (mapping es line) e = refl

-- ---- one entry
abbrev is_meaning : Said → Bool
is_meaning (means m) = true
is_meaning _ = false

-- a cross point has brackets
cross-says : is_meaning (of_cross (parse_cross abstract_key)) ≡ false
unfolding parse_cross
cross-says = refl

-- no key is `abstract_comb`
abstract-says : (k : Kind) → is_meaning (says k abstract_key) ≡ false
unfolding op_of_name parse is_skipped
abstract-says kind.Mnemonic = refl
abstract-says kind.Rs1 = refl
abstract-says kind.Rs2 = refl
abstract-says kind.Rd = refl
abstract-says kind.OpComb = refl
abstract-says kind.ValComb = refl
abstract-says kind.CrossComb = cross-says

not-abstract : (k : Kind) (key : List ℕ) (m : Meaning) → says k key ≡ means m → (b : Bool)
    → bytes_eq key abstract_key ≡ b → b ≡ false
not-abstract k key m e true s =
    ap is_meaning (sym e) ∙ ap (λ x. is_meaning (says k x)) (same-bytes key abstract_key s)
    ∙ abstract-says k
not-abstract k key m e false s = refl

shaped-yes : (p : Point) (d : Data) → IsMeant p → is_scalar d ≡ true → is_shaped p.key d ≡ true
shaped-yes p d m s =
    and_from (is_printable p.key && is_scalar d) (not (bytes_eq p.key abstract_key))
    (and_from (is_printable p.key) (is_scalar d) m.printable s)
    (ap not (not-abstract p.kind p.key p.meaning m.said (bytes_eq p.key abstract_key) refl))

add-yes : (place : EntryNames) (p : Point) (t : Taken) → has p.kind p.key t.points ≡ false
    → nat_le 2048 t.count ≡ false → add place p t ≡ Ok (with_point p t)
add-yes place p t h c =
    if-no (has p.kind p.key t.points) (Ok t) (if nat_le 2048 t.count
    then refused place fault.TooManyPoints else Ok (with_point p t)) h
    ∙ if-no (nat_le 2048 t.count) (refused place fault.TooManyPoints) (Ok (with_point p t)) c

-- reading the point's key under a kind adds the point
abbrev pub Reads : Isa → Kind → Point → Type 0
Reads isa k p = (families : Families) (place : EntryNames) (d : Data) (t : Taken)
    → is_scalar d ≡ true
    → has p.kind p.key t.points ≡ false → nat_le 2048 t.count ≡ false
    → entry_of isa families k (at_key place p.key) d t ≡ Ok (with_point p t)

pub reads_by : (isa : Isa) (p : Point) → IsMeant p → admits isa p.meaning ≡ true
    → Reads isa p.kind p
reads_by isa p meant f families place d t s h c =
    let here = at_key place p.key in
    if-no (holds_families p.kind p.key) (abstract_node families here d t)
    (add_entry isa p.kind here d t)
    (and_right (same_kind p.kind kind.ValComb) (bytes_eq p.key abstract_key)
    (not-abstract p.kind p.key p.meaning meant.said (bytes_eq p.key abstract_key) refl))
    ∙ holds-yes (is_shaped p.key d) here fault.BadShape
    (add_said isa p.kind here (says p.kind p.key) t) (shaped-yes p d meant s)
    ∙ ap (λ x. add_said isa p.kind here x t) meant.said
    ∙ holds-yes (admits isa p.meaning) here fault.UnknownMnemonic (add here p t) f
    ∙ add-yes here p t h c

-- ---- the points under one line
abbrev pub ReadsAll : Isa → Kind → List Point → Type 0
ReadsAll isa k [] = Unit {0}
ReadsAll isa k (p ∷ ps) = Reads isa k p × ReadsAll isa k ps

abbrev pub taken-at : ℕ → List Point → List Skipped → Taken
taken-at n ps ss = record { count = n; points = ps; skipped = ss }

abbrev pub ok-taken : Taken → Found Taken
ok-taken t = Ok t

pub taken-is : (n m : ℕ) (ps qs : List Point) (ss : List Skipped) → n ≡ m → ps ≡ qs
    → taken-at n ps ss ≡ taken-at m qs ss
taken-is n m ps qs ss e f = ap (λ k. taken-at k ps ss) e ∙ ap (λ xs. taken-at m xs ss) f

-- what stands before a point isn't that point
pub none-before : (ts ps : List Point) (p : Point) → are_distinct (ts ++ p ∷ ps) ≡ true
    → has p.kind p.key ts ≡ false
none-before [] ps p d = refl
none-before (q ∷ ts) ps p d =
    let later = sym (has-append q.kind q.key ts (p ∷ ps)) ∙ no (has q.kind q.key (ts ++ p ∷ ps))
    (and-left (not (has q.kind q.key (ts ++ p ∷ ps))) (are_distinct (ts ++ p ∷ ps)) d) in
    or_from _ (has p.kind p.key ts)
    (point-sym p q ∙ or-left _ (has q.kind q.key ps) (or-right (has q.kind q.key ts) _ later))
    (none-before ts ps p
    (and-right (not (has q.kind q.key (ts ++ p ∷ ps))) (are_distinct (ts ++ p ∷ ps)) d))

pub room : (n m : ℕ) → n + suc m ≤ 2048 → nat_le 2048 n ≡ false
room n m h = grind (arith, nat_tests)

pub block-read : (isa : Isa) (families : Families) (k : Kind) (place : EntryNames) (ps : List Point)
    (es : Pairs) → SpellsKeys ps es → ReadsAll isa k ps → (t : Taken)
    → are_distinct (t.points ++ ps) ≡ true
    → t.count + length ps ≤ 2048
    → for_each (under place (entry_of isa families k)) es t
    ≡ Ok (taken-at (t.count + length ps) (t.points ++ ps) t.skipped)
block-read isa families k place [] [] sp rd t d n =
    ap ok-taken (taken-is t.count (t.count + 0) t.points
    (t.points ++ []) t.skipped (omega arith) (sym (append-nil t.points)))
block-read isa families k place [] (e ∷ es) sp rd t d n = absurd sp
block-read isa families k place (p ∷ ps) [] sp rd t d n = absurd sp
block-read isa families k place (p ∷ ps) (e ∷ es) sp rd t d n =
    let here = ap (λ key. entry_of isa families k (at_key place key) e.1 t) sp.0
    ∙ rd.0 families place e.1 t sp.1 (none-before t.points ps p d) (room t.count (length ps) n) in
    bind-yes (entry_of isa families k (at_key place e.0) e.1 t)
    (λ u. for_each (under place (entry_of isa families k)) es u)
    (with_point p t) here
    ∙ block-read isa families k place ps es sp.2 rd.1 (with_point p t)
    (ap are_distinct (append_assoc t.points (p ∷ []) ps) ∙ d) (omega arith)
    ∙ ap ok-taken (taken-is (suc t.count + length ps) (t.count + suc (length ps))
    ((t.points ++ p ∷ []) ++ ps) (t.points ++ p ∷ ps) t.skipped (omega arith)
    (append_assoc t.points (p ∷ []) ps))

pub entries-read : (isa : Isa) (families : Families) (k : Kind) (place : EntryNames) (m : Data)
    (t u : Taken)
    → is_map m ≡ true → for_each (under place (entry_of isa families k)) (own_pairs m) t ≡ Ok u
    → all_entries isa families k place m t ≡ Ok u
entries-read isa families k place m t u e h =
    bind-yes (entries place m) (λ es. for_each (under place (entry_of isa families k)) es t)
    (own_pairs m) (entries-yes place m e) ∙ h
