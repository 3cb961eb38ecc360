-- What is read from a tree: its skipped keys are printable, and its labels have the names of their
-- entries.
use Rattle.std.proofs.Common.{◌≡◌, ℕ, ◌+◌, Bool, true, false, List, [], ◌∷◌, ◌++◌, length, refl, ap}
use Rattle.std.proofs.Common.{subst, ◌∙◌, Ok, Err, arith, rules}
use Rattle.std.proofs.lemmas.Bool.{and_from, or_parts, or_from, not_from_false, and_parts}
use Rattle.std.specs.Prelude.{not, nat_le, nat_lt, if◌then◌else◌, bytes_eq, codes}
use Rattle.std.specs.List.{list_any, list_all}
use Rattle.std.proofs.lemmas.List.Folds.{list_any-append, list_all-append}
use Rattle.rvs_insn.specs.Isa.{Isa}
use Rattle.rvs_tree.specs.Data.{Data, Pairs, own_pairs}
use Rattle.rvs_abstract.specs.declared.families.Families.{Families}
use Rattle.rvs_points.specs.Keys.{is_printable, is_label_name}
use Rattle.rvs_cgf.specs.Groups.{Point, Label, EntryNames, at_label, at_node, at_key, Found, ◌>>=◌}
use Rattle.rvs_cgf.specs.Groups.{◌>>◌, holds, Taken, Nodes, Listed, entries, all_entries}
use Rattle.rvs_cgf.specs.Groups.{passed_over, role_of, by_role, node_step, starting, for_each}
use Rattle.rvs_cgf.specs.Groups.{main_of, first_points, selected_label, chosen, label_of}
use Rattle.rvs_cgf.specs.Groups.{with_label, label_step, nothing_listed, groups_of}
use Rattle.rvs_cgf.specs.Groups.{size_of}
use Rattle.rvs_cgf.specs.Spelled.{keys_are_own}
use Rattle.rvs_points.specs.declared.refusal.CgfKind.TheVariants as fault
use Rattle.rvs_cgf.specs.declared.groups.Role.{Role}
use Rattle.rvs_cgf.specs.declared.groups.Role.TheVariants as role
use Rattle.rvs_cgf.proofs.Adding.{entries-are, is_note, Kept, IsOf, entry-kept, entries-kept}
use Rattle.rvs_cgf.proofs.Adding.{passed-kept}
use Rattle.rvs_cgf.proofs.Roles.{Suits, role-suits}
use Rattle.rvs_normal.specs.Again.{names_are_apart, notes_are_printable}
use Rattle.rvs_normal.proofs.Truths.{or-last, not-true}
use Rattle.rvs_normal.proofs.Apart.{eq-back}
use Rattle.rvs_normal.proofs.Spelling.{name-plain}
use Rattle.rvs_normal.proofs.Rows.{plain-inked}

-- what an answer that is there has
abbrev Has : {A : Type 0} → (A → Type 0) → Found A → Type 0
Has P (Ok x) = P x
Has P (Err e) = Unit {0}

has-then : {A B : Type 0} (P : A → Type 0) (Q : B → Type 0) (a : Found A) (f : A → Found B)
    → Has P a → ((x : A) → P x → Has Q (f x)) → Has Q (a >>= f)
has-then h e = grind arith

has-next : {A B : Type 0} (Q : B → Type 0) (a : Found A) (f : A → Found B) → ((x : A) → Has Q (f x))
    → Has Q (a >>= f)
has-next h = grind arith

has-of : {A : Type 0} (P : A → Type 0) (a : Found A) → ((x : A) → a ≡ Ok x → P x) → Has P a
has-of h = grind arith

has-holds : {B : Type 0} (Q : B → Type 0) (good : Bool) (place : EntryNames) (kind : _)
    (b : Found B) → (good ≡ true → Has Q b) → Has Q (holds good place kind >> b)
has-holds h = grind arith

has-if : {B : Type 0} (Q : B → Type 0) (t : Bool) (x y : Found B) → (t ≡ true → Has Q x)
    → (t ≡ false → Has Q y) → Has Q (if t then x else y)
has-if h e = grind arith

-- ---- notes
abbrev pub Noted : Taken → Type 0
Noted t = list_all is_note t.skipped ≡ true

noted-kept : (Q : Point → Type 0) → Kept Noted Q
noted-kept Q = grind (arith, list_all-append, is_note, and_from)

-- ---- nodes
abbrev NodesNoted : Nodes → Type 0
NodesNoted n = Noted n.taken

role-noted : (isa : Isa) (families : Families) (label node : List ℕ) (d : Data) (r : Role)
    (n : Nodes) → Suits node r
    → NodesNoted n → Has NodesNoted (by_role isa families (at_node label node) d r n)
role-noted isa families label node d role.Main n good h = h
role-noted isa families label node d role.Config n good h = h
role-noted isa families label node d (role.Entries k) n good h =
    let place = at_node label node in
    has-then Noted NodesNoted (all_entries isa families k place d n.taken) _
    (has-of Noted (all_entries isa families k place d n.taken)
    (λ u g. entries-kept Noted isa families k place
    (λ key. entry-kept Noted isa families k (noted-kept (IsOf k)) (good.node_of k refl).other
    (at_key place key) (good.printable refl)) d n.taken u h g))
    (λ t m. m)
role-noted isa families label node d role.PassedOver n good h =
    let place = at_node label node in
    has-then Noted NodesNoted (passed_over place d n.taken) _
    (has-of Noted (passed_over place d n.taken) (λ u g. passed-kept Noted (λ p. ⊥)
    (noted-kept (λ p. ⊥)) place (good.printable refl) d n.taken u h g))
    (λ t m. m)
role-noted isa families label node d role.Unknown n good h = tt

nodes-noted : (isa : Isa) (families : Families) (label : List ℕ) (es : Pairs) (n : Nodes)
    → NodesNoted n
    → Has NodesNoted (for_each (node_step isa families label) es n)
nodes-noted isa families label [] n h = h
nodes-noted isa families label (e ∷ es) n h =
    has-then NodesNoted NodesNoted (node_step isa families label e.0 e.1 n)
    _ (role-noted isa families label e.0 e.1 (role_of e.0) n (role-suits e.0) h)
    (λ m k. nodes-noted isa families label es m k)

-- ---- labels
abbrev IsNamed : List ℕ → Label → Type 0
IsNamed name l = (l.name ≡ name) × (notes_are_printable l ≡ true)

name-printable : (name : List ℕ) → is_label_name name ≡ true → is_printable name ≡ true
name-printable name h = plain-inked name (name-plain name h)

label-named : (isa : Isa) (families : Families) (name : List ℕ) (d : Data)
    → is_label_name name ≡ true
    → Has (IsNamed name) (selected_label isa families name d)
label-named isa families name d h =
    has-next (IsNamed name) (main_of name d) _ (λ m.
    has-next (IsNamed name) (first_points isa families (at_node name m.0) m.1) _ (λ first.
    has-then NodesNoted (IsNamed name)
    (for_each (node_step isa families name) (own_pairs d) (starting first)) _
    (nodes-noted isa families name (own_pairs d) (starting first) refl)
    (λ n k. (
      refl,
      and_from (is_printable name) (list_all is_note n.taken.skipped)
          (name-printable name h) k,
    ))))

chosen-named : (isa : Isa) (families : Families) (name : List ℕ) (d : Data) (b : Bool)
    → is_label_name name ≡ true
    → Has (IsNamed name) (chosen isa families name d b)
chosen-named isa families name d b h = search (rules, label-named, and_from, name-printable)

of-named : (isa : Isa) (families : Families) (name : List ℕ) (d : Data)
    → Has (IsNamed name) (label_of isa families name d)
of-named isa families name d = search (rules, has-if, has-next, chosen-named)

-- no entry has the name of a label that stands before it
abbrev Later : List Label → Pairs → Type 0
Later [] es = Unit {0}
Later (l ∷ ls) es = (list_any (λ e. bytes_eq l.name e.0) es ≡ false) × Later ls es

abbrev pub AllNotes : List Label → Type 0
AllNotes [] = Unit {0}
AllNotes (l ∷ ls) = (notes_are_printable l ≡ true) × AllNotes ls

record Well (es : Pairs) (l : Listed) : Type 0 where
  apart : names_are_apart l.labels ≡ true
  notes : AllNotes l.labels
  later : Later l.labels es

later-less : (ls : List Label) (e : List ℕ × Data) (es : Pairs) → Later ls (e ∷ es) → Later ls es
later-less [] e es h = tt
later-less (l ∷ ls) e es h = grind (arith, or_parts, (later-less ls e es h.1))

later-push : (ls : List Label) (l : Label) (es : Pairs) → Later ls es
    → list_any (λ e. bytes_eq l.name e.0) es ≡ false → Later (ls ++ (l ∷ [])) es
later-push [] l es h k = (k, tt)
later-push (m ∷ ls) l es h k = (h.0, later-push ls l es h.1 k)

notes-push : (ls : List Label) (l : Label) → AllNotes ls → notes_are_printable l ≡ true
    → AllNotes (ls ++ (l ∷ []))
notes-push [] l h k = (k, tt)
notes-push (m ∷ ls) l h k = (h.0, notes-push ls l h.1 k)

apart-push : (ls : List Label) (l : Label) (e : List ℕ × Data) (es : Pairs) → l.name ≡ e.0
    → names_are_apart ls ≡ true → Later ls (e ∷ es) → names_are_apart (ls ++ (l ∷ [])) ≡ true
apart-push [] l e es is h k = refl
apart-push (m ∷ ls) l e es is h k =
    let p = and_parts (not (list_any (λ n. bytes_eq m.name n.name) ls)) (names_are_apart ls) h in
    let q = or_parts (bytes_eq m.name e.0) (list_any (λ f. bytes_eq m.name f.0) es) k.0 in
    and_from (not (list_any (λ n. bytes_eq m.name n.name) (ls ++ (l ∷ []))))
    (names_are_apart (ls ++ (l ∷ [])))
    (not_from_false (list_any (λ n. bytes_eq m.name n.name) (ls ++ (l ∷ [])))
    (list_any-append (λ (n : Label). bytes_eq m.name n.name) ls (l ∷ []) ∙ or-last
    (list_any (λ n. bytes_eq m.name n.name) ls) (bytes_eq m.name l.name)
    (not-true (list_any (λ n. bytes_eq m.name n.name) ls) p.0) (ap (bytes_eq m.name) is ∙ q.0)))
    (apart-push ls l e es is p.1 k.1)

any-turned : (k : List ℕ) (es : Pairs) → list_any (λ f. bytes_eq f.0 k) es ≡ false
    → list_any (λ f. bytes_eq k f.0) es ≡ false
any-turned k [] h = refl
any-turned k (e ∷ es) h =
    let p = or_parts (bytes_eq e.0 k) (list_any (λ f. bytes_eq f.0 k) es) h in
    or_from (bytes_eq k e.0) (list_any (λ f. bytes_eq k f.0) es) (eq-back e.0 k p.0)
    (any-turned k es p.1)

step-well : (isa : Isa) (families : Families) (e : List ℕ × Data) (es : Pairs) (l : Listed)
    → list_any (λ f. bytes_eq f.0 e.0) es ≡ false → Well (e ∷ es) l
    → Has (Well es) (label_step isa families e.0 e.1 l)
step-well isa families e es l own w =
    has-if (Well es) (bytes_eq e.0 (codes "datasets")) (Ok l) (holds (nat_lt (length l.labels) 256)
    (at_label e.0) fault.TooManyLabels
    >> (label_of isa families e.0 e.1 >>= (λ m. with_label e.0 m l)))
    (λ _. record { apart = w.apart; notes = w.notes; later = later-less l.labels e es w.later })
    (λ _. has-holds (Well es) (nat_lt (length l.labels) 256) (at_label e.0) fault.TooManyLabels
    (label_of isa families e.0 e.1 >>= (λ m. with_label e.0 m l))
    (λ _. has-then (IsNamed e.0) (Well es) (label_of isa families e.0 e.1) (λ m. with_label e.0 m l)
    (of-named isa families e.0 e.1)
    (λ m n. has-holds (Well es) (nat_le (l.total + size_of m) 65536) (at_label e.0)
    fault.TooManyPoints
    (Ok (record {
      labels = l.labels ++ (m ∷ []);
      total = l.total + size_of m;
    }))
    (λ _. record {
      apart = apart-push l.labels m e es n.0 w.apart w.later;
      notes = notes-push l.labels m w.notes n.1;
      later = later-push l.labels m es (later-less l.labels e es w.later)
          (ap (λ k. list_any (λ (f : List ℕ × Data). bytes_eq k f.0) es) n.0
          ∙ any-turned e.0 es own);
    }))))

each-well : (isa : Isa) (families : Families) (es : Pairs) (l : Listed) → keys_are_own es ≡ true
    → Well es l
    → Has (Well []) (for_each (label_step isa families) es l)
each-well isa families [] l own w = w
each-well isa families (e ∷ es) l own w =
    let p = and_parts (not (list_any (λ f. bytes_eq f.0 e.0) es)) (keys_are_own es) own in
    has-then (Well es) (Well []) (label_step isa families e.0 e.1 l) _
    (step-well isa families e es l (not-true (list_any (λ f. bytes_eq f.0 e.0) es) p.0) w)
    (λ m v. each-well isa families es m p.1 v)

pub record IsWell (ls : List Label) : Type 0 where
  pub apart : names_are_apart ls ≡ true
  pub notes : AllNotes ls

groups-well : (isa : Isa) (families : Families) (d : Data) → keys_are_own (own_pairs d) ≡ true
    → Has IsWell (groups_of isa families d)
unfolding groups_of
groups-well isa families d own =
    has-then (λ es. keys_are_own es ≡ true) IsWell (entries (at_label []) d) _
    (has-of (λ es. keys_are_own es ≡ true) (entries (at_label []) d)
    (λ es g. entries-are (λ es. keys_are_own es ≡ true) (at_label []) d es g refl own))
    (λ es k. has-then (Well []) IsWell (for_each (label_step isa families) es nothing_listed) _
    (each-well isa families es nothing_listed k (record {
      apart = refl;
      notes = tt;
      later = tt;
    })) (λ l w. record {
      apart = w.apart;
      notes = w.notes;
    }))

pub read-well : (isa : Isa) (families : Families) (d : Data) (ls : List Label)
    → keys_are_own (own_pairs d) ≡ true
    → groups_of isa families d ≡ Ok ls → IsWell ls
read-well isa families d ls own e = subst (Has IsWell) e (groups-well isa families d own)
