-- The normal text of groups that were read is read again as the selected ones.
use Rattle.std.proofs.Common.{◌≡◌, ℕ, ◌+◌, ◌*◌, ◌≤◌, ◌<◌, Bool, true, false, List, [], ◌∷◌, ◌++◌}
use Rattle.std.proofs.Common.{length, refl, sym, ap, subst, ◌∙◌, arith, append_assoc, append-nil}
use Rattle.std.proofs.Common.{Option, Some, Ok, All, true≢false, bytes_eq, rules}
use Rattle.std.proofs.lemmas.Bool.{and_from, or_parts, or_from, not_from_false, and_parts}
use Rattle.std.specs.Prelude.{not, codes, sum_by}
use Rattle.std.specs.List.{list_all, list_any}
use Rattle.std.proofs.lemmas.List.{length-append}
use Rattle.std.proofs.lemmas.List.Sums.{sum_by-cons}
use Rattle.std.proofs.lemmas.List.Elements.{All-head, All-tail}
use Rattle.rvs_insn.specs.Isa.{Isa}
use Rattle.rvs_insn.specs.Names.{is_admitted_op}
use Rattle.rvs_tree.specs.Data.{Data, Entries, no_entries, entry, pairs_of, own_pairs}
use Rattle.rvs_tree.specs.Value.{Value}
use Rattle.rvs_yaml.specs.Checks.{Checked, ◌>>=◌, ◌>>◌}
use Rattle.rvs_yaml.specs.Parsed.{within_limits, front, answer_after, answer}
use Rattle.rvs_abstract.specs.declared.families.Families.{Families}
use Rattle.rvs_points.specs.Keys.{is_printable}
use Rattle.rvs_cgf.specs.Groups.{Point, Label, size_of, groups_of}
use Rattle.rvs_cgf.specs.Print.{doubled, point_line, points_text}
use Rattle.rvs_cgf.specs.Print.{label_text, normal_text}
use Rattle.rvs_points.specs.Valid.{IsMeant}
use Rattle.rvs_cgf.specs.Spelled.{IsPlain, ArePlain, selected, keys_are_own, nodes_are_own}
use Rattle.rvs_cgf.specs.Spelled.{are_admitted, CanBeSpelled}
use Rattle.rvs_points.specs.declared.group.Kind.{Kind}
use Rattle.rvs_cgf.proofs.Spelling.{groups-spelled}
use Rattle.rvs_cgf.proofs.ReadBack.{spelled_is_read}
use Rattle.rvs_normal.specs.Once.{KeysOnce, EntriesOnce}
use Rattle.rvs_normal.specs.Again.{names_are_apart, IsReadAgain, KeepsLimit}
use Rattle.rvs_normal.proofs.Truths.{not-true}
use Rattle.rvs_normal.proofs.OnceRead.{Has, TreeOwned, tree-owned}
use Rattle.rvs_normal.proofs.Notes.{AllNotes, read-well}
use Rattle.rvs_normal.proofs.Spelling.{IsPrinted, ArePrinted, IsSome, AllSome, points_cost}
use Rattle.rvs_normal.proofs.Spelling.{labels_cost, whole-cost, printed-few, printed-keeps}
use Rattle.rvs_normal.proofs.Spelling.{printed-is-read, selected-first, selected-others}

-- ---- trees of texts
tree-of-answer : (done ls : List (List ℕ)) (tree : Data) → answer_after done ls ≡ Ok tree
    → front (done ++ ls) ≡ Ok tree
tree-of-answer done [] tree h = grind (arith, append-nil)
tree-of-answer done (l ∷ ls) tree h =
    grind (arith, append_assoc, (tree-of-answer (done ++ (l ∷ [])) ls tree))

front-owned : (r : Checked Value) (tree : Data) → Has TreeOwned r
    → (r >>= (λ v. within_limits v >> Ok v.tree)) ≡ Ok tree → KeysOnce tree
front-owned r tree o h = grind arith

pub answer-owned : (bytes : List ℕ) (tree : Data) → answer bytes ≡ Ok tree → KeysOnce tree
answer-owned bytes tree h = grind (arith, front-owned, tree-owned, tree-of-answer)

top-own : (d : Data) → KeysOnce d → keys_are_own (own_pairs d) ≡ true
top-own d o = grind arith

each-own : (es : Entries) → EntriesOnce es
    → list_all (λ e. keys_are_own (own_pairs e.1)) (pairs_of es) ≡ true
each-own no_entries o = refl
each-own (entry k d es) o = grind (arith, and_from, top-own, (each-own es o.1))

nodes-own : (d : Data) → KeysOnce d → nodes_are_own d ≡ true
nodes-own d o = search (rules, each-own)

-- ---- labels that are printed
points-printable : (ps : List Point) → All IsMeant ps → list_all (λ p. is_printable p.key) ps ≡ true
points-printable [] h = refl
points-printable (p ∷ ps) h = and_from (is_printable p.key) (list_all (λ p. is_printable p.key) ps)
    (All-head IsMeant p ps h).printable (points-printable ps (All-tail IsMeant p ps h))

plain-printed : (isa : Isa) (l : Label) → IsPlain isa l → IsPrinted l
plain-printed isa l h = grind (arith, points-printable)

all-printed : (isa : Isa) (ls : List Label) → ArePlain isa (selected ls) → AllNotes ls
    → ArePrinted ls
all-printed isa [] h n = tt
all-printed isa (l ∷ ls) h n = by-case l.selected refl (λ q. all-printed isa ls q n.1)
  where
    by-case : (b : Bool) → l.selected ≡ b → (ArePlain isa (selected ls) → ArePrinted ls)
        → ArePrinted (l ∷ ls)
    by-case true e others =
        let q = subst (ArePlain isa) (selected-first l ls e) h in
        ((λ s. plain-printed isa l q.0), n.0, others q.1)
    by-case false e others = (
      (λ s. absurd (true≢false (sym s ∙ e))),
      n.0,
      others (subst (ArePlain isa) (selected-others l ls e) h),
    )

-- a label with mnemonics has points
some-points : (isa : Isa) (l : Label) → IsPlain isa l → IsSome l.points
some-points isa l h = grind arith

all-some : (isa : Isa) (ls : List Label) → ArePlain isa ls → AllSome ls
all-some isa [] h = tt
all-some isa (l ∷ ls) h = (some-points isa l h.0, all-some isa ls h.1)

any-selected : (l : Label) (ls : List Label) → list_any (λ m. bytes_eq l.name m.name) ls ≡ false
    → list_any (λ m. bytes_eq l.name m.name) (selected ls) ≡ false
any-selected l [] h = refl
any-selected l (m ∷ ls) h =
    let p = or_parts (bytes_eq l.name m.name) (list_any (λ n. bytes_eq l.name n.name) ls) h in
    by-case m.selected refl p.0 (any-selected l ls p.1)
  where
    by-case : (b : Bool) → m.selected ≡ b → bytes_eq l.name m.name ≡ false
        → list_any (λ n. bytes_eq l.name n.name) (selected ls) ≡ false
        → list_any (λ n. bytes_eq l.name n.name) (selected (m ∷ ls)) ≡ false
    by-case true e p q = ap (list_any (λ (n : Label). bytes_eq l.name n.name))
        (selected-first m ls e) ∙ or_from (bytes_eq l.name m.name)
        (list_any (λ n. bytes_eq l.name n.name) (selected ls)) p q
    by-case false e p q =
        ap (list_any (λ (n : Label). bytes_eq l.name n.name)) (selected-others m ls e) ∙ q

selected-apart : (ls : List Label) → names_are_apart ls ≡ true
    → names_are_apart (selected ls) ≡ true
selected-apart [] h = refl
selected-apart (l ∷ ls) h =
    let p = and_parts (not (list_any (λ m. bytes_eq l.name m.name) ls)) (names_are_apart ls) h in
    by-case l.selected refl
    (any-selected l ls (not-true (list_any (λ m. bytes_eq l.name m.name) ls) p.0))
    (selected-apart ls p.1)
  where
    by-case : (b : Bool) → l.selected ≡ b
        → list_any (λ m. bytes_eq l.name m.name) (selected ls) ≡ false
        → names_are_apart (selected ls) ≡ true → names_are_apart (selected (l ∷ ls)) ≡ true
    by-case true e p q = ap names_are_apart (selected-first l ls e) ∙ and_from
        (not (list_any (λ m. bytes_eq l.name m.name) (selected ls))) (names_are_apart (selected ls))
        (not_from_false (list_any (λ m. bytes_eq l.name m.name) (selected ls)) p) q
    by-case false e p q = ap names_are_apart (selected-others l ls e) ∙ q

-- ---- how long the text is
abbrev key_letters : List Point → ℕ
key_letters [] = 0
key_letters (p ∷ ps) = length p.key + key_letters ps

abbrev letters : List Label → ℕ
letters [] = 0
letters (l ∷ ls) = (length l.name + key_letters l.points) + letters ls

doubled-long : (k : List ℕ) → length k ≤ length (doubled k)
doubled-long [] = omega arith
doubled-long (c ∷ cs) = grind (arith, (doubled-long cs))

point-long : (k : List ℕ) → length k ≤ length (point_line k)
point-long k = omega (arith, doubled-long k, length-append (doubled k) (codes "': 0\n"))

points-long : (before : Option Kind) (ps : List Point)
    → key_letters ps ≤ length (points_text before ps)
points-long before [] = omega arith
points-long before (p ∷ ps) =
    grind (arith, point-long, length-append, (points-long (Some p.kind) ps))

label-long : (l : Label) → l.selected ≡ true
    → length l.name + key_letters l.points ≤ length (label_text l)
label-long l e = grind (arith, points-long, length-append)

text-long : (ls : List Label) → letters (selected ls) ≤ length (normal_text ls)
text-long [] = omega arith
text-long (l ∷ ls) =
    grind (arith, selected-first, label-long, length-append, selected-others, (text-long ls))

-- ---- how many nodes
abbrev point_count : List Label → ℕ
point_count [] = 0
point_count (l ∷ ls) = length l.points + point_count ls

points-cost : (ps : List Point) → points_cost ps ≡ 138 * length ps + key_letters ps
points-cost [] = omega arith
points-cost (p ∷ ps) = omega (arith, points-cost ps)

labels-cost : (ls : List Label)
    → labels_cost ls ≡ 64 * length ls + 138 * point_count ls + letters ls
labels-cost [] = omega arith
labels-cost (l ∷ ls) = omega (arith, points-cost l.points, labels-cost ls)

times-more : (n m : ℕ) → 0 < m → n ≤ n * m
times-more n m h = grind arith

points-few : (isa : Isa) (ls : List Label) → ArePlain isa ls → point_count ls ≤ sum_by size_of ls
points-few isa [] h = omega arith
points-few isa (l ∷ ls) h = omega (arith, (points-few isa ls h.1), sum_by-cons, times-more)

-- ---- the whole
plain-admitted : (isa : Isa) (ls : List Label) → ArePlain isa ls
    → list_all (λ l. list_all (is_admitted_op isa) l.ops) ls ≡ true
plain-admitted isa [] h = refl
plain-admitted isa (l ∷ ls) h = grind (arith, and_from, (plain-admitted isa ls h.1))

-- what is known of groups that were read from a text
record WasRead (isa : Isa) (ls : List Label) : Type 0 where
  can : CanBeSpelled isa ls
  printed : ArePrinted ls
  apart : names_are_apart (selected ls) ≡ true

was-read : (isa : Isa) (families : Families) (bytes : List ℕ) (d : Data) (ls : List Label)
    → answer bytes ≡ Ok d
    → groups_of isa families d ≡ Ok ls → WasRead isa ls
was-read isa families bytes d ls a g =
    let owned = answer-owned bytes d a in
    let can = groups-spelled isa families d ls (nodes-own d owned) g in
    let well = read-well isa families d ls (top-own d owned) g in
    record {
      can = can;
      printed = all-printed isa ls can.plain well.notes;
      apart = selected-apart ls well.apart;
    }

pub read-again : (isa other : Isa) (families : Families) (bytes : List ℕ) (d : Data)
    (ls : List Label)
    → answer bytes ≡ Ok d → groups_of isa families d ≡ Ok ls → KeepsLimit (normal_text ls)
    → are_admitted other ls ≡ true → IsReadAgain other ls
read-again isa other families bytes d ls a g keeps admits =
    let w = was-read isa families bytes d ls a g in
    let r = printed-is-read ls w.printed (all-some isa (selected ls) w.can.plain) w.apart
    (printed-few ls w.printed w.apart keeps) in
    record {
      tree = r.tree;
      is = r.is;
      groups_are = λ any. spelled_is_read isa other any ls r.tree w.can admits r.spells;
    }

pub short-keeps : (isa : Isa) (families : Families) (bytes : List ℕ) (d : Data) (ls : List Label)
    → answer bytes ≡ Ok d
    → groups_of isa families d ≡ Ok ls → length (normal_text ls) ≤ 4194304
    → KeepsLimit (normal_text ls)
short-keeps isa families bytes d ls a g short =
    grind (arith, was-read, printed-keeps, whole-cost, labels-cost, points-few, text-long)

pub own-admitted : (isa : Isa) (families : Families) (bytes : List ℕ) (d : Data) (ls : List Label)
    → answer bytes ≡ Ok d
    → groups_of isa families d ≡ Ok ls → are_admitted isa ls ≡ true
own-admitted isa families bytes d ls a g = grind (arith, plain-admitted, was-read)
