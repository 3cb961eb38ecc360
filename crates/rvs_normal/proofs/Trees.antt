-- Maps of maps of maps: their words give their tree, of which each node is counted.
use Rattle.std.proofs.Common.{◌≡◌, ℕ, suc, ◌+◌, ◌≤◌, min, false, List, [], ◌∷◌, ◌++◌, refl, sym}
use Rattle.std.proofs.Common.{subst, arith, rules}
use Rattle.std.specs.Prelude.{map, codes}
use Rattle.rvs_tree.specs.Data.{depth}
use Rattle.rvs_tree.specs.Value.{Value, Written, scalar_value, plus, text_nodes}
use Rattle.rvs_yaml_text.specs.Scalar.{key_name}
use Rattle.rvs_normal.proofs.Columns.{Col, Part, parts_cols, points_cols, IsDeeper}
use Rattle.rvs_normal.proofs.Blocks.{IsText, SaysTexts, SaysParts, Maps, Blocks, AreBlocks}
use Rattle.rvs_normal.proofs.Blocks.{block-texts, block-parts}
use Rattle.rvs_normal.proofs.Sizes.{AreOwn, AreShallow, nodes_in, map-depth, map-nodes}
use Rattle.rvs_normal.proofs.Apart.{Distinct, free}

pub record Node : Type 0 where
  pub name : List ℕ
  pub keys : List (List ℕ)

pub record Group : Type 0 where
  pub name : List ℕ
  pub nodes : List Node

abbrev pub zero_text : List ℕ
zero_text = codes "0"

abbrev pub node_part : Node → Part
node_part n = record { name = n.name; inner = points_cols 4 zero_text n.keys }

abbrev pub group_part : Group → Part
group_part g = record { name = g.name; inner = parts_cols 2 (map node_part g.nodes) }

abbrev pub all_cols : List Group → List Col
all_cols gs = parts_cols 0 (map group_part gs)

-- ---- values: an empty scalar where nothing stands below
abbrev pub IsEmpty : Value → Type 0
IsEmpty v = IsText [] v

abbrev pub HasKeys : List (List ℕ) → Value → Type 0
HasKeys [] v = IsEmpty v
HasKeys (k ∷ ks) v = Maps (SaysTexts zero_text (k ∷ ks)) v

abbrev pub IsNode : Node → Value → Type 0
IsNode n v = HasKeys n.keys v

abbrev pub HasNodes : List Node → Value → Type 0
HasNodes [] v = IsEmpty v
HasNodes (n ∷ ns) v = Maps (SaysParts node_part IsNode (n ∷ ns)) v

abbrev pub IsGroup : Group → Value → Type 0
IsGroup g v = HasNodes g.nodes v

abbrev pub HasGroups : List Group → Value → Type 0
HasGroups [] v = IsEmpty v
HasGroups (g ∷ gs) v = Maps (SaysParts group_part IsGroup (g ∷ gs)) v

-- ---- names and keys differ
abbrev pub AreNodes : List Node → Type 0
AreNodes [] = Unit {0}
AreNodes (n ∷ ns) = ((key_name n.name).merges ≡ false) × Distinct n.keys × AreNodes ns

abbrev pub node_names : List Node → List (List ℕ)
node_names ns = map (λ n. n.name) ns

abbrev pub AreGroups : List Group → Type 0
AreGroups [] = Unit {0}
AreGroups (g ∷ gs) = ((key_name g.name).merges ≡ false) × Distinct (node_names g.nodes)
    × AreNodes g.nodes × AreGroups gs

abbrev pub group_names : List Group → List (List ℕ)
group_names gs = map (λ g. g.name) gs

-- ---- blocks
no-block : (is : Value → Type 0) → ((l : ℕ) → is (scalar_value [] l)) → Blocks is []
no-block is empty known line ns = (scalar_value [] line, refl, empty line)

keys-block : (ks : List (List ℕ)) → Distinct ks → Blocks (HasKeys ks) (points_cols 4 zero_text ks)
keys-block [] d = no-block (HasKeys []) (λ l. (l, refl))
keys-block (k ∷ ks) d = block-texts 4 zero_text k ks refl (free k ks d)

points-deeper : (ks : List (List ℕ)) → IsDeeper 2 (points_cols 4 zero_text ks)
points-deeper [] = tt
points-deeper (k ∷ ks) = (refl, points-deeper ks)

are-blocks : (ns : List Node) → AreNodes ns → AreBlocks 2 node_part IsNode ns
are-blocks [] good = tt
are-blocks (n ∷ ns) good = grind (arith, points-deeper, keys-block, (are-blocks ns good.2))

nodes-block : (ns : List Node) → Distinct (node_names ns) → AreNodes ns
    → Blocks (HasNodes ns) (parts_cols 2 (map node_part ns))
nodes-block [] d good = no-block (HasNodes []) (λ l. (l, refl))
nodes-block (n ∷ ns) d good = search (rules, block-parts, are-blocks, free)

points-deep : (ks : List (List ℕ)) → IsDeeper 0 (points_cols 4 zero_text ks)
points-deep [] = tt
points-deep (k ∷ ks) = (refl, points-deep ks)

deeper-append : (c : ℕ) (xs ys : List Col) → IsDeeper c xs → IsDeeper c ys → IsDeeper c (xs ++ ys)
deeper-append c [] ys d e = e
deeper-append c (x ∷ xs) ys d e = (d.0, deeper-append c xs ys d.1 e)

nodes-deeper : (ns : List Node) → IsDeeper 0 (parts_cols 2 (map node_part ns))
nodes-deeper [] = tt
nodes-deeper (n ∷ ns) =
    grind (arith, deeper-append, points_cols, parts_cols, points-deep, (nodes-deeper ns))

groups-blocks : (gs : List Group) → AreGroups gs → AreBlocks 0 group_part IsGroup gs
groups-blocks [] good = tt
groups-blocks (g ∷ gs) good = grind (arith, nodes-deeper, nodes-block, (groups-blocks gs good.3))

pub groups-block : (gs : List Group) → Distinct (group_names gs) → AreGroups gs
    → Blocks (HasGroups gs) (all_cols gs)
groups-block [] d good = no-block (HasGroups []) (λ l. (l, refl))
groups-block (g ∷ gs) d good = search (rules, block-parts, groups-blocks, free)

-- ---- nothing merges
pub own-of-texts : (t : List ℕ) (ks : List (List ℕ)) (ws : List Written) → SaysTexts t ks ws
    → AreOwn ws
own-of-texts t [] [] s = tt
own-of-texts t [] (w ∷ ws) s = absurd s
own-of-texts t (k ∷ ks) [] s = absurd s
own-of-texts t (k ∷ ks) (w ∷ ws) s = (s.1, own-of-texts t ks ws s.3)

pub own-of-parts : {X : Type 0} (part : X → Part) (is : X → Value → Type 0) (xs : List X)
    (ws : List Written)
    → SaysParts part is xs ws → AreOwn ws
own-of-parts part is [] [] s = tt
own-of-parts part is [] (w ∷ ws) s = absurd s
own-of-parts part is (x ∷ xs) [] s = absurd s
own-of-parts part is (x ∷ xs) (w ∷ ws) s = (s.1, own-of-parts part is xs ws s.3)

-- ---- how many nodes count for the entries of a map, and how deep it is
abbrev pub keys_count : List (List ℕ) → ℕ
keys_count [] = 0
keys_count (k ∷ ks) = (text_nodes k + 1) + keys_count ks

abbrev pub nodes_count : List Node → ℕ
nodes_count [] = 0
nodes_count (n ∷ ns) = (text_nodes n.name + (1 + keys_count n.keys)) + nodes_count ns

abbrev pub groups_count : List Group → ℕ
groups_count [] = 0
groups_count (g ∷ gs) = (text_nodes g.name + (1 + nodes_count g.nodes)) + groups_count gs

-- so many nodes count for it, as far as they are counted, and it is at most so deep
pub record HasSize (count deep : ℕ) (v : Value) : Type 0 where
  pub nodes : v.nodes ≡ min count 500001
  pub depth : depth v.tree ≤ deep

-- the same of what is written in a map
record AreSized (count deep : ℕ) (ws : List Written) : Type 0 where
  nodes : min (nodes_in ws) 500001 ≡ min count 500001
  shallow : AreShallow deep ws

scalar-size : (t : List ℕ) (deep : ℕ) (v : Value) → IsText t v → plus 1 (text_nodes t) ≡ 1
    → 1 ≤ deep → HasSize 1 deep v
scalar-size t deep v is one d = grind arith

none-sized : (deep : ℕ) → AreSized 0 deep []
none-sized deep = record { nodes = refl; shallow = tt }

one-sized : (name : List ℕ) (count rest deep : ℕ) (w : Written) (ws : List Written)
    → w.key ≡ name → HasSize count deep w.value → AreSized rest deep ws
    → AreSized ((text_nodes name + count) + rest) deep (w ∷ ws)
one-sized name count rest deep w ws e first others = grind arith

map-size : (says : List Written → Type 0) (count deep : ℕ) (v : Value) (h : Maps says v)
    → AreOwn h.list → AreSized count deep h.list → HasSize (1 + count) (suc deep) v
map-size says count deep v h own sized =
    subst (λ u. HasSize (1 + count) (suc deep) u) (sym h.same) (record {
      nodes = omega (arith, map-nodes h.line h.list, sized.nodes);
      depth = map-depth deep h.line h.list own sized.shallow;
    })

texts-sized : (ks : List (List ℕ)) (ws : List Written) → SaysTexts zero_text ks ws
    → AreSized (keys_count ks) 1 ws
texts-sized [] [] s = none-sized 1
texts-sized [] (w ∷ ws) s = absurd s
texts-sized (k ∷ ks) [] s = absurd s
texts-sized (k ∷ ks) (w ∷ ws) s = grind (arith, one-sized, scalar-size, (texts-sized ks ws s.3))

keys-size : (ks : List (List ℕ)) (v : Value) → HasKeys ks v → HasSize (1 + keys_count ks) 2 v
keys-size [] v h = scalar-size [] 2 v h refl (omega arith)
keys-size (k ∷ ks) v h = map-size (SaysTexts zero_text (k ∷ ks)) (keys_count (k ∷ ks)) 1 v h
    (own-of-texts zero_text (k ∷ ks) h.list h.says_so) (texts-sized (k ∷ ks) h.list h.says_so)

nodes-sized : (ns : List Node) (ws : List Written) → SaysParts node_part IsNode ns ws
    → AreSized (nodes_count ns) 2 ws
nodes-sized [] [] s = none-sized 2
nodes-sized [] (w ∷ ws) s = absurd s
nodes-sized (n ∷ ns) [] s = absurd s
nodes-sized (n ∷ ns) (w ∷ ws) s = grind (arith, one-sized, keys-size, (nodes-sized ns ws s.3))

nodes-size : (ns : List Node) (v : Value) → HasNodes ns v → HasSize (1 + nodes_count ns) 3 v
nodes-size [] v h = scalar-size [] 3 v h refl (omega arith)
nodes-size (n ∷ ns) v h =
    map-size (SaysParts node_part IsNode (n ∷ ns)) (nodes_count (n ∷ ns)) 2 v h
    (own-of-parts node_part IsNode (n ∷ ns) h.list h.says_so)
    (nodes-sized (n ∷ ns) h.list h.says_so)

groups-sized : (gs : List Group) (ws : List Written) → SaysParts group_part IsGroup gs ws
    → AreSized (groups_count gs) 3 ws
groups-sized [] [] s = none-sized 3
groups-sized [] (w ∷ ws) s = absurd s
groups-sized (g ∷ gs) [] s = absurd s
groups-sized (g ∷ gs) (w ∷ ws) s = grind (arith, one-sized, nodes-size, (groups-sized gs ws s.3))

pub groups-size : (gs : List Group) (v : Value) → HasGroups gs v → HasSize (1 + groups_count gs) 4 v
groups-size [] v h = scalar-size [] 4 v h refl (omega arith)
groups-size (g ∷ gs) v h =
    map-size (SaysParts group_part IsGroup (g ∷ gs)) (groups_count (g ∷ gs)) 3 v h
    (own-of-parts group_part IsGroup (g ∷ gs) h.list h.says_so)
    (groups-sized (g ∷ gs) h.list h.says_so)
