-- The cells of the lists, one after the other.
use Rattle.std.proofs.Common.{◌≡◌, ℕ, ◌<◌, ◌≤◌, ◌%◌, Bool, true, false, List, [], ◌∷◌, ◌++◌, length}
use Rattle.std.proofs.Common.{get_or, refl, sym, subst, arith, nat_lt}
use Rattle.std.proofs.lemmas.Bool.{ltb-true, ltb-false}
use Rattle.std.proofs.lemmas.List.{get_or_append_left, get_or_push, length-append}
use Rattle.rvs_index.specs.Buckets.{bucket_count}
use Rattle.rvs_index.specs.Cells.{HasCells, IsCellFor, asked_at}
use Rattle.rvs_index.specs.declared.cell.Cell.{Cell}
use Rattle.rvs_index.specs.declared.slot.Slot.{Slot}

-- with that of the next list, the cell at place k is that of its list
at_place : (lists : List (List Slot)) (cells : List Cell) (c : Cell) (n k : ℕ) (d : List Slot)
    (e : Cell) (b : Bool)
    → nat_lt k n ≡ b → length cells ≡ n → k ≤ n → HasCells lists cells
    → IsCellFor (asked_at (n % bucket_count)) (get_or lists n d) c
    → IsCellFor (asked_at (k % bucket_count)) (get_or lists k d) (get_or (cells ++ c ∷ []) k e)
at_place lists cells c n k d e true is count most has here =
    let below : k < length cells = omega (arith, ltb-true k n is, count) in
    subst (λ (x : Cell). IsCellFor (asked_at (k % bucket_count)) (get_or lists k d) x)
    (sym (get_or_append_left cells (c ∷ []) e k below)) (has.each k d e below)
at_place lists cells c n k d e false is count most has here =
    let same : n ≡ k = omega (arith, ltb-false k n is, most) in
    subst (λ (i : ℕ). IsCellFor (asked_at (i % bucket_count)) (get_or lists i d)
    (get_or (cells ++ c ∷ []) i e)) same
    (subst (λ (x : Cell). IsCellFor (asked_at (n % bucket_count)) (get_or lists n d) x)
    (sym (get_or_push cells c e n count)) here)

pub HasCells-more : (lists : List (List Slot)) (cells : List Cell) (c : Cell) (n : ℕ)
    → length cells ≡ n → HasCells lists cells
    → ((d : List Slot) → IsCellFor (asked_at (n % bucket_count)) (get_or lists n d) c)
    → HasCells lists (cells ++ c ∷ [])
HasCells-more lists cells c n count has here = record {
  each = λ k d e within. at_place lists cells c n k d e (nat_lt k n) refl count
      (omega (arith, within, count, length-append cells (c ∷ []))) has (here d);
}
