-- The normal text of groups is read as a tree that spells them.
use Rattle.std.proofs.Common.{◌≡◌, ℕ, ◌+◌, ◌*◌, ◌≤◌, Bool, true, false, List, [], ◌∷◌, ◌++◌, length}
use Rattle.std.proofs.Common.{refl, sym, ap, subst, ◌∙◌, arith, Ok, None, Some, Option}
use Rattle.std.specs.Prelude.{◌&&◌, map, codes}
use Rattle.std.specs.List.{list_all}
use mathlib.Core.Bool.{cond}
use Rattle.std.proofs.lemmas.Bool.Decides.{nat_tests}
use Rattle.std.proofs.lemmas.Bool.{and_parts}
use Rattle.rvs_tree.specs.Data.{Data, own_pairs, is_map, is_scalar}
use Rattle.rvs_tree.specs.Value.{Value, Written}
use Rattle.rvs_yaml_text.specs.Scalar.{key_name}
use Rattle.rvs_yaml.specs.Parsed.{answer}
use Rattle.rvs_points.specs.Keys.{is_label_name, is_printable}
use Rattle.rvs_cgf.specs.Groups.{Point, Skipped, Label, is_empty_scalar}
use Rattle.rvs_points.specs.declared.group.Kind.{Kind}
use Rattle.rvs_points.specs.Kinds.{kind_name}
use Rattle.rvs_cgf.specs.Print.{normal_text}
use Rattle.rvs_cgf.specs.Spelled.{Block, joined, blocks, selected, kinds_are_apart, SpellsKeys}
use Rattle.rvs_cgf.specs.Spelled.{SpellsNodes, SpellsLabels, SpellsAll, Spells}
use Rattle.rvs_points.specs.Valid.{are_distinct}
use Rattle.rvs_normal.specs.Again.{names_are_apart, notes_are_printable, KeepsLimit}
use Rattle.rvs_normal.proofs.Lines.{inked-append}
use Rattle.rvs_normal.proofs.Rows.{is_plain, Row, point_row}
use Rattle.rvs_normal.proofs.Columns.{parts_cols}
use Rattle.rvs_normal.proofs.Blocks.{SaysTexts, SaysParts}
use Rattle.rvs_normal.proofs.Sizes.{pairs, own-pairs}
use Rattle.rvs_normal.proofs.Printed.{head_rows, points_rows, skipped_row, label_rows, rows}
use Rattle.rvs_normal.proofs.Printed.{groups-text}
use Rattle.rvs_normal.proofs.Placed as placed
use Rattle.rvs_normal.proofs.Placed.{AreRows, keys, groups-cols}
use Rattle.rvs_normal.proofs.Apart.{Distinct, AllDistinct, distinct-blocks, node-names, label-names}
use Rattle.rvs_normal.proofs.Trees.{Node, Group, zero_text, node_part, group_part, AreNodes}
use Rattle.rvs_normal.proofs.Trees.{AreGroups, node_names, group_names, nodes_count, groups_count}
use Rattle.rvs_normal.proofs.Trees.{HasKeys, IsNode, HasNodes, IsGroup, HasGroups, own-of-texts}
use Rattle.rvs_normal.proofs.Trees.{own-of-parts}
use Rattle.rvs_normal.proofs.Answered.{Shows, limit-few, few-limit, rows-answered}

abbrev pub node_of : Block → Node
node_of b = record { name = kind_name b.kind; keys = keys b.points }

abbrev pub group_of : Label → Group
group_of l = record { name = l.name; nodes = map node_of (blocks l.points) }

same-nodes : (bs : List Block) → map placed.node_part bs ≡ map node_part (map node_of bs)
same-nodes [] = refl
same-nodes (b ∷ bs) = ap (λ ps. placed.node_part b ∷ ps) (same-nodes bs)

same-groups : (ls : List Label) → map placed.label_part ls ≡ map group_part (map group_of ls)
same-groups [] = refl
same-groups (l ∷ ls) = simp (parts_cols, same-nodes, group_part, (same-groups ls))

-- ---- what is known of labels
pub record IsPrinted (l : Label) : Type 0 where
  pub named : is_label_name l.name ≡ true
  pub keys_printable : list_all (λ p. is_printable p.key) l.points ≡ true
  pub distinct : are_distinct l.points ≡ true
  pub apart : kinds_are_apart (blocks l.points) ≡ true

abbrev pub ArePrinted : List Label → Type 0
ArePrinted [] = Unit {0}
ArePrinted (l ∷ ls) =
    (l.selected ≡ true → IsPrinted l) × (notes_are_printable l ≡ true) × ArePrinted ls

-- ---- lines

pub name-plain : (name : List ℕ) → is_label_name name ≡ true → is_plain name ≡ true
name-plain name h = grind arith

name-merges : (name : List ℕ) → is_label_name name ≡ true → (key_name name).merges ≡ false
name-merges name h = grind arith

kind-plain : (k : Kind) → is_plain (kind_name k) ≡ true
kind-plain k = grind arith

kind-merges : (k : Kind) → (key_name (kind_name k)).merges ≡ false
kind-merges k = grind arith

rows-append : (xs ys : List Row) → AreRows xs → AreRows ys → AreRows (xs ++ ys)
rows-append [] ys a b = b
rows-append (x ∷ xs) ys a b = (a.0, rows-append xs ys a.1 b)

head-good : (before : Option Kind) (k : Kind) → AreRows (head_rows before k)
head-good before k = grind (arith, head_rows, kind-plain)

points-good : (before : Option Kind) (ps : List Point)
    → list_all (λ p. is_printable p.key) ps ≡ true → AreRows (points_rows before ps)
points-good before [] h = tt
points-good before (p ∷ ps) h =
    let q = and_parts (is_printable p.key) (list_all (λ p. is_printable p.key) ps) h in
    rows-append (head_rows before p.kind) (point_row p.key ∷ points_rows (Some p.kind) ps)
    (head-good before p.kind) (q.0, points-good (Some p.kind) ps q.1)

skipped-good : (ss : List Skipped)
    → list_all (λ s. is_printable s.node && is_printable s.key) ss ≡ true
    → AreRows (map skipped_row ss)
skipped-good [] h = tt
skipped-good (s ∷ ss) h =
    let p = and_parts (is_printable s.node && is_printable s.key)
    (list_all (λ s. is_printable s.node && is_printable s.key) ss) h in
    let q = and_parts (is_printable s.node) (is_printable s.key) p.0 in (
      inked-append (codes " skipped ") (s.node ++ (codes " " ++ s.key)) refl
          (inked-append s.node (codes " " ++ s.key) q.0 q.1),
      skipped-good ss p.1,
    )

label-good : (l : Label) → (l.selected ≡ true → IsPrinted l) → notes_are_printable l ≡ true
    → AreRows (label_rows l)
label-good l h n = by-case l.selected refl
  where
    by-case : (s : Bool) → l.selected ≡ s → AreRows (label_rows l)
    by-case true e =
        let p = and_parts (is_printable l.name)
        (list_all (λ s. is_printable s.node && is_printable s.key) l.skipped) n in
        rw (e, label_rows) (
          name-plain l.name (h e).named,
          rows-append (points_rows None l.points) (map skipped_row l.skipped)
              (points-good None l.points (h e).keys_printable) (skipped-good l.skipped p.1),
        )
    by-case false e =
        let p = and_parts (is_printable l.name)
        (list_all (λ s. is_printable s.node && is_printable s.key) l.skipped) n in
        rw (e, label_rows) (inked-append (codes " unselected ") l.name refl p.0, tt)

rows-good : (ls : List Label) → ArePrinted ls → AreRows (rows ls)
rows-good [] h = tt
rows-good (l ∷ ls) h = grind (arith, rows-append, label_rows, rows, label-good, (rows-good ls h.2))

-- ---- the selected labels
abbrev pub AllPrinted : List Label → Type 0
AllPrinted [] = Unit {0}
AllPrinted (l ∷ ls) = IsPrinted l × AllPrinted ls

pub selected-first : (l : Label) (ls : List Label) → l.selected ≡ true
    → selected (l ∷ ls) ≡ l ∷ selected ls
selected-first l ls e = ap (λ s. cond s (l ∷ selected ls) (selected ls)) e

pub selected-others : (l : Label) (ls : List Label) → l.selected ≡ false
    → selected (l ∷ ls) ≡ selected ls
selected-others l ls e = ap (λ s. cond s (l ∷ selected ls) (selected ls)) e

selected-printed : (ls : List Label) → ArePrinted ls → AllPrinted (selected ls)
selected-printed [] h = tt
selected-printed (l ∷ ls) h = grind (arith, nat_tests, (selected-printed ls h.2))

nodes-good : (bs : List Block) → AllDistinct bs → AreNodes (map node_of bs)
nodes-good [] d = tt
nodes-good (b ∷ bs) d = (kind-merges b.kind, d.0, nodes-good bs d.1)

names-of-nodes : (bs : List Block) → node_names (map node_of bs) ≡ map (λ b. kind_name b.kind) bs
names-of-nodes [] = refl
names-of-nodes (b ∷ bs) = ap (λ ns. kind_name b.kind ∷ ns) (names-of-nodes bs)

groups-good : (ls : List Label) → AllPrinted ls → AreGroups (map group_of ls)
groups-good [] h = tt
groups-good (l ∷ ls) h = (
  name-merges l.name h.0.named,
  subst Distinct (sym (names-of-nodes (blocks l.points))) (node-names (blocks l.points) h.0.apart),
  nodes-good (blocks l.points) (distinct-blocks l.points h.0.distinct),
  groups-good ls h.1,
)

names-of-groups : (ls : List Label) → group_names (map group_of ls) ≡ map (λ l. l.name) ls
names-of-groups [] = refl
names-of-groups (l ∷ ls) = ap (λ ns. l.name ∷ ns) (names-of-groups ls)

-- ---- how many nodes, in sixty-fourths
abbrev pub points_cost : List Point → ℕ
points_cost [] = 0
points_cost (p ∷ ps) = (138 + length p.key) + points_cost ps

joined-cost : (p : Point) (bs : List Block)
    → 64 * nodes_count (map node_of (joined p bs))
    ≤ (138 + length p.key) + 64 * nodes_count (map node_of bs)
joined-cost p bs = grind arith

blocks-cost : (ps : List Point) → 64 * nodes_count (map node_of (blocks ps)) ≤ points_cost ps
blocks-cost [] = omega arith
blocks-cost (p ∷ ps) = omega (arith, joined-cost p (blocks ps), blocks-cost ps)

abbrev pub labels_cost : List Label → ℕ
labels_cost [] = 0
labels_cost (l ∷ ls) = (length l.name + (64 + points_cost l.points)) + labels_cost ls

pub whole-cost : (ls : List Label) → 64 * groups_count (map group_of ls) ≤ labels_cost ls
whole-cost [] = omega arith
whole-cost (l ∷ ls) = omega (arith, blocks-cost l.points, whole-cost ls)

-- ---- the tree spells the labels
abbrev pub IsSome : List Point → Type 0
IsSome [] = ⊥
IsSome (p ∷ ps) = Unit {0}

abbrev pub NoneEmpty : List Block → Type 0
NoneEmpty [] = Unit {0}
NoneEmpty (b ∷ bs) = IsSome b.points × NoneEmpty bs

abbrev pub SomeBlock : List Block → Type 0
SomeBlock [] = ⊥
SomeBlock (b ∷ bs) = Unit {0}

abbrev pub AllSome : List Label → Type 0
AllSome [] = Unit {0}
AllSome (l ∷ ls) = IsSome l.points × AllSome ls

spells-keys : (ps : List Point) (ws : List Written) → SaysTexts zero_text (keys ps) ws
    → SpellsKeys ps (pairs ws)
spells-keys [] [] s = tt
spells-keys [] (w ∷ ws) s = absurd s
spells-keys (p ∷ ps) [] s = absurd s
spells-keys (p ∷ ps) (w ∷ ws) s = (s.0, ap (λ v. is_scalar v.tree) s.2.1, spells-keys ps ws s.3)

pub spells-nodes : (bs : List Block) (ws : List Written) → NoneEmpty bs
    → SaysParts node_part IsNode (map node_of bs) ws → SpellsNodes bs (pairs ws)
spells-nodes [] [] f s = tt
spells-nodes [] (w ∷ ws) f s = absurd s
spells-nodes (b ∷ bs) [] f s = absurd s
spells-nodes (b ∷ bs) (w ∷ ws) f s =
    let m = node-map b.points w.value f.0 s.2 in
    (s.0, m.0, m.1, spells-nodes bs ws f.1 s.3)
  where
    node-map : (ps : List Point) (v : Value) → IsSome ps → HasKeys (keys ps) v
        → (is_map v.tree ≡ true) × SpellsKeys ps (own_pairs v.tree)
    node-map [] v f h = absurd f
    node-map (p ∷ ps) v f h = (
      ap (λ u. is_map u.tree) h.same,
      subst (SpellsKeys (p ∷ ps)) (sym (ap (λ u. own_pairs u.tree) h.same
          ∙ own-pairs h.line h.list (own-of-texts zero_text (keys (p ∷ ps)) h.list h.says_so)))
          (spells-keys (p ∷ ps) h.list h.says_so),
    )

nodes-map : (bs : List Block) (v : Value) → SomeBlock bs → NoneEmpty bs
    → HasNodes (map node_of bs) v → (is_map v.tree ≡ true) × SpellsNodes bs (own_pairs v.tree)
nodes-map [] v some f h = absurd some
nodes-map (b ∷ bs) v some f h = (
  ap (λ u. is_map u.tree) h.same,
  subst (SpellsNodes (b ∷ bs)) (sym (ap (λ u. own_pairs u.tree) h.same ∙ own-pairs h.line h.list
      (own-of-parts node_part IsNode (map node_of (b ∷ bs)) h.list h.says_so))) (spells-nodes (b
      ∷ bs) h.list f h.says_so),
)

joined-full : (p : Point) (bs : List Block) → NoneEmpty bs → NoneEmpty (joined p bs)
joined-full p bs f = grind arith

blocks-full : (ps : List Point) → NoneEmpty (blocks ps)
blocks-full [] = tt
blocks-full (p ∷ ps) = joined-full p (blocks ps) (blocks-full ps)

some-blocks : (ps : List Point) → IsSome ps → SomeBlock (blocks ps)
some-blocks ps f = grind arith

spells-labels : (ls : List Label) (ws : List Written) → AllSome ls
    → SaysParts group_part IsGroup (map group_of ls) ws → SpellsLabels ls (pairs ws)
spells-labels [] [] f s = tt
spells-labels [] (w ∷ ws) f s = absurd s
spells-labels (l ∷ ls) [] f s = absurd s
spells-labels (l ∷ ls) (w ∷ ws) f s =
    grind (arith, nodes-map, some-blocks, blocks-full, (spells-labels ls ws f.1 s.3))

spells-all : (ls : List Label) (v : Value) → AllSome ls → HasGroups (map group_of ls) v
    → SpellsAll ls v.tree
spells-all [] v f h = ap (λ u. is_empty_scalar u.tree) h.1
spells-all (l ∷ ls) v f h = (
  ap (λ u. is_empty_scalar u.tree) h.same,
  ap (λ u. is_map u.tree) h.same,
  subst (SpellsLabels (l ∷ ls)) (sym (ap (λ u. own_pairs u.tree) h.same ∙ own-pairs h.line h.list
      (own-of-parts group_part IsGroup (map group_of (l ∷ ls)) h.list h.says_so))) (spells-labels (l
      ∷ ls) h.list f h.says_so),
)

-- ---- the whole
pub record IsRead (ls : List Label) : Type 0 where
  pub tree : Data
  pub is : answer (normal_text ls) ≡ Ok tree
  pub spells : Spells ls tree

printed-shows : (ls : List Label) → ArePrinted ls → names_are_apart (selected ls) ≡ true
    → Shows (map group_of (selected ls)) (rows ls)
printed-shows ls good apart = record {
  good = rows-good ls good;
  same = groups-cols ls ∙ ap (parts_cols 0) (same-groups (selected ls));
  apart = subst Distinct (sym (names-of-groups (selected ls))) (label-names (selected ls) apart);
  named = groups-good (selected ls) (selected-printed ls good);
}

pub printed-few : (ls : List Label) → ArePrinted ls → names_are_apart (selected ls) ≡ true
    → KeepsLimit (normal_text ls) → 1 + groups_count (map group_of (selected ls)) ≤ 500000
printed-few ls good apart keeps = grind (arith, limit-few, rows, printed-shows, groups-text)

pub printed-keeps : (ls : List Label) → ArePrinted ls → names_are_apart (selected ls) ≡ true
    → 1 + groups_count (map group_of (selected ls)) ≤ 500000 → KeepsLimit (normal_text ls)
printed-keeps ls good apart few = grind (arith, groups-text, few-limit, rows, printed-shows)

pub printed-is-read : (ls : List Label) → ArePrinted ls → AllSome (selected ls)
    → names_are_apart (selected ls) ≡ true
    → 1 + groups_count (map group_of (selected ls)) ≤ 500000 → IsRead ls
printed-is-read ls good some apart few =
    grind (arith, rows-answered, rows, printed-shows, groups-text, spells-all)
