-- Maps without merges: their pairs, how many nodes count for them, and how deep they are.
use Rattle.std.proofs.Common.{◌≡◌, ℕ, suc, ◌+◌, ◌≤◌, min, false, List, [], ◌∷◌, ◌++◌, refl}
use Rattle.std.proofs.Common.{sym, ◌∙◌, arith, append_assoc, append-nil}
use Rattle.std.specs.Prelude.{map}
use Rattle.rvs_tree.proofs.Views.{pairs_of-entries_of}
use Rattle.rvs_tree.specs.Data.{entries_of, pairs_of, own_pairs, Pairs, depth, entries_depth}
use Rattle.rvs_tree.specs.Value.{Written, map_value, resolved, written_nodes_from}
use Rattle.rvs_tree.specs.Value.{plus, text_nodes}

abbrev pub AreOwn : List Written → Type 0
AreOwn [] = Unit {0}
AreOwn (w ∷ ws) = (w.merges ≡ false) × AreOwn ws

abbrev pub pairs : List Written → Pairs
pairs ws = map (λ w. (w.key, w.value.tree)) ws

resolved-own : (explicit : List (List ℕ)) (so_far : Pairs) (ws : List Written) → AreOwn ws
    → resolved explicit so_far ws ≡ so_far ++ pairs ws
resolved-own explicit so_far [] own = sym (append-nil so_far)
resolved-own explicit so_far (w ∷ ws) own =
    rw (own.0, resolved) (resolved-own explicit (so_far ++ ((w.key, w.value.tree) ∷ [])) ws own.1
    ∙ append_assoc so_far ((w.key, w.value.tree) ∷ []) (pairs ws))

pub own-pairs : (line : ℕ) (ws : List Written) → AreOwn ws
    → own_pairs (map_value line ws).tree ≡ pairs ws
own-pairs line ws own = simp (resolved-own, pairs_of-entries_of)

-- ---- depth
abbrev pub AreShallow : ℕ → List Written → Type 0
AreShallow d [] = Unit {0}
AreShallow d (w ∷ ws) = (depth w.value.tree ≤ d) × AreShallow d ws

pairs-depth : (d : ℕ) (ws : List Written) → AreShallow d ws
    → entries_depth (entries_of (pairs ws)) ≤ d
pairs-depth d [] s = omega arith
pairs-depth d (w ∷ ws) s = grind (arith, (pairs-depth d ws s.1))

pub map-depth : (d line : ℕ) (ws : List Written) → AreOwn ws → AreShallow d ws
    → depth (map_value line ws).tree ≤ suc d
map-depth d line ws own s = grind (arith, resolved-own, pairs-depth)

-- ---- nodes
-- how many nodes count for the entries, their keys among them
abbrev pub nodes_in : List Written → ℕ
nodes_in [] = 0
nodes_in (w ∷ ws) = (text_nodes w.key + w.value.nodes) + nodes_in ws

one-more : (k n a b : ℕ) → k ≡ min n 500001 → plus (plus k a) b ≡ min (n + (a + b)) 500001
one-more k n a b e = omega arith

nodes-counted : (ws : List Written) (k n : ℕ) → k ≡ min n 500001
    → written_nodes_from k ws ≡ min (n + nodes_in ws) 500001
nodes-counted [] k n e = omega arith
nodes-counted (w ∷ ws) k n e =
    let next = plus (plus k (text_nodes w.key)) w.value.nodes in
    let more = one-more k n (text_nodes w.key) w.value.nodes e in
    omega (arith, nodes-counted ws next (n + (text_nodes w.key + w.value.nodes)) more)

pub map-nodes : (line : ℕ) (ws : List Written)
    → (map_value line ws).nodes ≡ min (1 + nodes_in ws) 500001
map-nodes line ws = nodes-counted ws 1 1 refl
