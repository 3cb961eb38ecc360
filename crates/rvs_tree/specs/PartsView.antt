-- Parts of drafts in the code, and the size of what is left to do.
use Rattle.std.specs.Prelude.{ℕ, suc, List, ◌++◌, map, reverse}
use Rattle.rvs_tree.specs.Data.{Pairs}
use Rattle.rvs_tree.specs.Value.{Written}
use Rattle.rvs_tree.specs.Sifted.{later}
use Rattle.rvs_tree.specs.PairsView.{pairs_view}
use Rattle.rvs_tree.specs.GatheredView.{taken_view}
use Rattle.rvs_tree.specs.DraftView.{part_view}
use Rattle.rvs_tree.specs.TreeSize.{total}
use Rattle.std.specs.Borrow.{Bor}
use Rattle.rvs_tree.specs.declared.gathering.Gathered.{Gathered}
use Rattle.rvs_tree.specs.declared.draft.Draft.{Draft, fold-Draft}
use Rattle.rvs_tree.specs.declared.draft.Part.{Part, fold-Part}
use Rattle.rvs_tree.specs.declared.draft.Part.TheOpen.{Part-F, Draft-F}
use Rattle.rvs_tree.specs.declared.draft.Part.{size-Part}
use denote.Param.Weighed.{most, w_this}

abbrev pub parts_view : List Part → List Written
parts_view ps = map part_view ps

abbrev pub refs_view : List (Bor Part) → List Written
refs_view ps = map (λ p. part_view p.now) ps

-- what is to be done, the next first
abbrev pub next_view : List (Bor Part) → List Written
next_view ps = reverse (refs_view ps)

-- the pairs when all these are brought
abbrev pub brings : Gathered → List Written → Pairs
brings g ws = pairs_view g.pairs ++ later (taken_view g.taken) ws

abbrev pub part_count : Part-F ℕ ℕ → ℕ
part_count (Part-F.Pair key tree) = 1
part_count (Part-F.Whole tree) = 1
part_count (Part-F.Nested draft) = suc draft.value

abbrev pub draft_count : Draft-F ℕ ℕ → ℕ
draft_count d = total d.parts.items

abbrev pub draft_size : Draft → ℕ
draft_size = fold-Draft ℕ ℕ part_count draft_count

abbrev pub part_size : Part → ℕ
part_size = fold-Part ℕ ℕ part_count draft_count

abbrev pub sizes : List Part → ℕ
sizes ps = total (map part_size ps)

abbrev pub ref_sizes : List (Bor Part) → ℕ
ref_sizes ps = total (map (λ p. part_size p.now) ps)

-- the size of the largest in the kit's measure
abbrev pub deepest_part : List Part → ℕ
deepest_part ps = most (w_this.weight Part size-Part) ps
