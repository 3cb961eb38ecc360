-- Fronts of maps of maps of maps.
use Rattle.std.proofs.Common.{◌≡◌, ℕ, zero, suc, ◌≤◌, List, [], ◌∷◌, ◌++◌, refl, sym, ap, ◌∙◌}
use Rattle.std.proofs.Common.{arith, append_assoc}
use Rattle.std.specs.Prelude.{map, take}
use Rattle.rvs_normal.proofs.Columns.{Col, opener, parts_cols, point_col, points_cols}
use Rattle.rvs_normal.proofs.Apart.{Differs, Distinct}
use Rattle.rvs_normal.proofs.Trees.{Node, Group, zero_text, node_part, all_cols, AreNodes}
use Rattle.rvs_normal.proofs.Trees.{AreGroups, node_names, group_names, keys_count, nodes_count}
use Rattle.rvs_normal.proofs.Trees.{groups_count}

-- the front of so many words, and how many words are left for what is behind
abbrev pub left : ℕ → List (List ℕ) → ℕ
left n [] = n
left zero (k ∷ ks) = zero
left (suc n) (k ∷ ks) = left n ks

abbrev pub cut_nodes : ℕ → List Node → List Node
cut_nodes n [] = []
cut_nodes zero (x ∷ xs) = []
cut_nodes (suc n) (x ∷ xs) =
    record { name = x.name; keys = take n x.keys } ∷ cut_nodes (left n x.keys) xs

abbrev pub left_nodes : ℕ → List Node → ℕ
left_nodes n [] = n
left_nodes zero (x ∷ xs) = zero
left_nodes (suc n) (x ∷ xs) = left_nodes (left n x.keys) xs

abbrev pub cut_groups : ℕ → List Group → List Group
cut_groups n [] = []
cut_groups zero (g ∷ gs) = []
cut_groups (suc n) (g ∷ gs) =
    record { name = g.name; nodes = cut_nodes n g.nodes } ∷ cut_groups (left_nodes n g.nodes) gs

take-none : (xs : List Col) → take 0 xs ≡ []
take-none xs = grind arith

keys-cut : (n : ℕ) (ks : List (List ℕ)) (rest : List Col)
    → take n (points_cols 4 zero_text ks ++ rest)
    ≡ points_cols 4 zero_text (take n ks) ++ take (left n ks) rest
keys-cut zero [] rest = refl
keys-cut (suc n) [] rest = refl
keys-cut zero (k ∷ ks) rest = sym (take-none rest)
keys-cut (suc n) (k ∷ ks) rest = ap (λ cs. point_col 4 zero_text k ∷ cs) (keys-cut n ks rest)

nodes-cut : (n : ℕ) (xs : List Node) (rest : List Col)
    → take n (parts_cols 2 (map node_part xs) ++ rest)
    ≡ parts_cols 2 (map node_part (cut_nodes n xs)) ++ take (left_nodes n xs) rest
nodes-cut zero [] rest = refl
nodes-cut (suc n) [] rest = refl
nodes-cut zero (x ∷ xs) rest = sym (take-none rest)
nodes-cut (suc n) (x ∷ xs) rest =
    ap (λ cs. opener 2 x.name ∷ cs)
    (ap (take n) (append_assoc (points_cols 4 zero_text x.keys)
    (parts_cols 2 (map node_part xs)) rest)
    ∙ keys-cut n x.keys (parts_cols 2 (map node_part xs) ++ rest)
    ∙ ap (λ cs. points_cols 4 zero_text (take n x.keys) ++ cs) (nodes-cut (left n x.keys) xs rest)
    ∙ sym (append_assoc (points_cols 4 zero_text (take n x.keys))
    (parts_cols 2 (map node_part (cut_nodes (left n x.keys) xs)))
    (take (left_nodes (left n x.keys) xs) rest)))

pub groups-cut : (n : ℕ) (gs : List Group) → take n (all_cols gs) ≡ all_cols (cut_groups n gs)
groups-cut zero [] = refl
groups-cut (suc n) [] = refl
groups-cut zero (g ∷ gs) = refl
groups-cut (suc n) (g ∷ gs) =
    ap (λ cs. opener 0 g.name ∷ cs)
    (nodes-cut n g.nodes (all_cols gs) ∙ ap
    (λ cs. parts_cols 2 (map node_part (cut_nodes n g.nodes)) ++ cs)
    (groups-cut (left_nodes n g.nodes) gs))

-- ---- what holds of the whole holds of its fronts
differs-take : (n : ℕ) (k : List ℕ) (ks : List (List ℕ)) → Differs k ks → Differs k (take n ks)
differs-take zero k [] d = tt
differs-take zero k (m ∷ ms) d = tt
differs-take (suc n) k [] d = tt
differs-take (suc n) k (m ∷ ms) d = (d.0, differs-take n k ms d.1)

distinct-take : (n : ℕ) (ks : List (List ℕ)) → Distinct ks → Distinct (take n ks)
distinct-take zero [] d = tt
distinct-take zero (k ∷ ks) d = tt
distinct-take (suc n) [] d = tt
distinct-take (suc n) (k ∷ ks) d = (differs-take n k ks d.0, distinct-take n ks d.1)

nodes-differ : (n : ℕ) (k : List ℕ) (xs : List Node) → Differs k (node_names xs)
    → Differs k (node_names (cut_nodes n xs))
nodes-differ zero k [] d = tt
nodes-differ (suc n) k [] d = tt
nodes-differ zero k (x ∷ xs) d = tt
nodes-differ (suc n) k (x ∷ xs) d = (d.0, nodes-differ (left n x.keys) k xs d.1)

nodes-distinct : (n : ℕ) (xs : List Node) → Distinct (node_names xs)
    → Distinct (node_names (cut_nodes n xs))
nodes-distinct zero [] d = tt
nodes-distinct (suc n) [] d = tt
nodes-distinct zero (x ∷ xs) d = tt
nodes-distinct (suc n) (x ∷ xs) d =
    (nodes-differ (left n x.keys) x.name xs d.0, nodes-distinct (left n x.keys) xs d.1)

are-nodes : (n : ℕ) (xs : List Node) → AreNodes xs → AreNodes (cut_nodes n xs)
are-nodes zero [] a = tt
are-nodes (suc n) [] a = tt
are-nodes zero (x ∷ xs) a = tt
are-nodes (suc n) (x ∷ xs) a = (a.0, distinct-take n x.keys a.1, are-nodes (left n x.keys) xs a.2)

groups-differ : (n : ℕ) (k : List ℕ) (gs : List Group) → Differs k (group_names gs)
    → Differs k (group_names (cut_groups n gs))
groups-differ zero k [] d = tt
groups-differ (suc n) k [] d = tt
groups-differ zero k (g ∷ gs) d = tt
groups-differ (suc n) k (g ∷ gs) d = (d.0, groups-differ (left_nodes n g.nodes) k gs d.1)

pub groups-distinct : (n : ℕ) (gs : List Group) → Distinct (group_names gs)
    → Distinct (group_names (cut_groups n gs))
groups-distinct zero [] d = tt
groups-distinct (suc n) [] d = tt
groups-distinct zero (g ∷ gs) d = tt
groups-distinct (suc n) (g ∷ gs) d = (
  groups-differ (left_nodes n g.nodes) g.name gs d.0,
  groups-distinct (left_nodes n g.nodes) gs d.1,
)

pub are-groups : (n : ℕ) (gs : List Group) → AreGroups gs → AreGroups (cut_groups n gs)
are-groups zero [] a = tt
are-groups (suc n) [] a = tt
are-groups zero (g ∷ gs) a = tt
are-groups (suc n) (g ∷ gs) a =
    grind (arith, nodes-distinct, are-nodes, (are-groups (left_nodes n g.nodes) gs a.3))

-- ---- and no more nodes count for them
take-count : (n : ℕ) (ks : List (List ℕ)) → keys_count (take n ks) ≤ keys_count ks
take-count zero [] = omega arith
take-count zero (k ∷ ks) = omega arith
take-count (suc n) [] = omega arith
take-count (suc n) (k ∷ ks) = omega (arith, take-count n ks)

cut-count : (n : ℕ) (xs : List Node) → nodes_count (cut_nodes n xs) ≤ nodes_count xs
cut-count zero [] = omega arith
cut-count (suc n) [] = omega arith
cut-count zero (x ∷ xs) = omega arith
cut-count (suc n) (x ∷ xs) = omega (arith, take-count n x.keys, cut-count (left n x.keys) xs)

pub groups-count : (n : ℕ) (gs : List Group) → groups_count (cut_groups n gs) ≤ groups_count gs
groups-count zero [] = omega arith
groups-count (suc n) [] = omega arith
groups-count zero (g ∷ gs) = omega arith
groups-count (suc n) (g ∷ gs) = grind (arith, cut-count, (groups-count (left_nodes n g.nodes) gs))
