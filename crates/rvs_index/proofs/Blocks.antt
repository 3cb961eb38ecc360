-- Mnemonics whose cells are alike.
use Rattle.std.proofs.Common.{◌≡◌, ℕ, ℤ, ◌+◌, ◌*◌, ◌<◌, Bool, true, List, []}
use Rattle.std.proofs.Common.{◌∷◌, ◌++◌, refl, sym, ap, subst, ◌∙◌, arith, length, get_or, rules}
use Rattle.std.proofs.lemmas.Bool.Decides.{nat_tests}
use Rattle.std.specs.Prelude.{◌==◌}
use Rattle.rvs_log.proofs.Logs.{both}
use Rattle.rvs_insn.specs.Table.{op_count}
use Rattle.rvs_index.specs.Buckets.{bucket_count}
use Rattle.rvs_index.specs.Cells.{asked_bucket, HasCells, IsCell}
use Rattle.rvs_index.specs.Shared.{agree, is_same, AreAlike, HasBlocks}
use Rattle.rvs_index.specs.declared.asked.Asked.{Asked}
use Rattle.rvs_index.specs.declared.cell.Cell.{Cell}
use Rattle.rvs_index.specs.declared.slot.Slot.{Slot}
use Rattle.rvs_index.proofs.Cells.{cell_in}
use Rattle.rvs_index.proofs.Marks.{any_default, pushed_each}

equal : (a b : ℕ) → (a == b) ≡ true → a ≡ b
equal a b h = grind (arith, nat_tests)

agreed : (a b : Bool) → agree a b ≡ true → a ≡ b
agreed a b h = grind arith

cells_are : (a b : Cell) → a.first ≡ b.first → a.first_at ≡ b.first_at → a.second ≡ b.second
    → a.second_at ≡ b.second_at → a.more ≡ b.more → a ≡ b
cells_are a b e f g h i = grind arith

pub same_cells : (a b : Cell) → is_same a b ≡ true → a ≡ b
same_cells a b h = grind (arith, both, cells_are, equal, agreed)

-- none yet
pub alike_none : (cells : List Cell) (left right : ℕ) → AreAlike 0 cells left right
alike_none cells left right = record { each = λ b e h. absurd (omega (arith, h)) }

-- one more
pub alike_more : (cells : List Cell) (left right n : ℕ) (x y : Cell) → AreAlike n cells left right
    → left * bucket_count + n < length cells → right * bucket_count + n < length cells
    → x ≡ get_or cells (left * bucket_count + n) x → y ≡ get_or cells (right * bucket_count + n) y
    → is_same x y ≡ true → AreAlike (n + 1) cells left right
alike_more cells left right n x y was l r atl atr same =
    search (rules, any_default, same_cells, equal)

-- the same, where the cells have defaults
pub alike_next : (cells : List Cell) (left right n : ℕ) (d e : Cell) → AreAlike n cells left right
    → left * bucket_count + n < length cells → right * bucket_count + n < length cells
    → is_same (get_or cells (left * bucket_count + n) d) (get_or cells (right * bucket_count + n) e)
    ≡ true
    → AreAlike (n + 1) cells left right
alike_next cells left right n d e was l r same =
    alike_more cells left right n (get_or cells (left * bucket_count + n) d)
    (get_or cells (right * bucket_count + n) e) was l r
    (any_default cells (left * bucket_count + n) d (get_or cells (left * bucket_count + n) d) l)
    (any_default cells (right * bucket_count + n) e (get_or cells (right * bucket_count + n) e) r)
    same

-- a mnemonic's own
pub alike_self : (n : ℕ) (cells : List Cell) (m : ℕ) → AreAlike n cells m m
alike_self n cells m = record { each = λ b e h. refl }

-- one more block
pub more_blocks : (cells : List Cell) (bs bs' : List ℕ) (n first : ℕ) → HasBlocks cells bs
    → length bs ≡ n → first < op_count → AreAlike bucket_count cells first n → bs'
    ≡ bs ++ first ∷ []
    → HasBlocks cells bs'
more_blocks cells bs bs' n first has len low alike e =
    subst (HasBlocks cells) (sym e) (record {
      each = λ m h. pushed_each Is bs first
          (λ m e h. subst (Is m) (any_default bs m 0 e h) (has.each m h))
          (subst (λ m. Is m first) (sym len) (low, alike)) m 0 h;
    })
  where
    Is : ℕ → ℕ → Type 0
    Is m k = (k < op_count) × AreAlike bucket_count cells k m

-- the cell of a mnemonic is that of its block
pub block_cell : (cells : List Cell) (blocks : List ℕ) (m b : ℕ) (e : Cell) → HasBlocks cells blocks
    → m < length blocks → b < bucket_count
    → get_or cells (get_or blocks m 0 * bucket_count + b) e ≡ get_or cells (m * bucket_count + b) e
block_cell cells blocks m b e has h l = (has.each m h).1.each b e l

-- so it is a cell of the mnemonic's list
pub cell_in_block : (lists : List (List Slot)) (cells got : List Cell) (blocks places : List ℕ)
    (n b : ℕ) (q : Asked) (z : ℤ) (d : Cell)
    → HasCells lists cells → HasBlocks cells blocks → got ≡ cells → places ≡ blocks
    → n < length blocks → b < bucket_count → b ≡ asked_bucket q z
    → n * bucket_count + b < length cells
    → IsCell q (get_or lists (n * bucket_count + b) []) (get_or got
    (get_or places n 0 * bucket_count + b) d)
cell_in_block lists cells got blocks places n b q z d has blocked same at m l e h =
    let is : IsCell q (get_or lists (n * bucket_count + b) []) (get_or cells
    (n * bucket_count + b) d) =
    cell_in lists cells cells (n * bucket_count + b) b q z d has refl (omega (arith, l)) e h in
    let here : get_or cells (n * bucket_count + b) d
    ≡ get_or got (get_or places n 0 * bucket_count + b) d =
    sym (block_cell cells blocks n b d blocked m l)
    ∙ ap (λ bs. get_or cells (get_or bs n 0 * bucket_count + b) d) (sym at)
    ∙ ap (λ cs. get_or cs (get_or places n 0 * bucket_count + b) d) (sym same) in
    subst (IsCell q (get_or lists (n * bucket_count + b) [])) here is
