-- Entries add what the cells of registers add.
use Rattle.std.proofs.Common.{◌≡◌, ◌≢◌, ℕ, ℤ, pos, ◌+◌, ◌-◌, ◌*◌, ◌/◌, ◌%◌, ◌<◌, true}
use Rattle.std.proofs.Common.{false, List, [], ◌∷◌, ◌++◌, refl, sym, subst, arith, length}
use Rattle.std.proofs.Common.{get_or}
use Rattle.std.proofs.lemmas.Bool.Decides.{nat_tests}
use Rattle.std.specs.Ordering.{int_eq}
use Rattle.rvs_points.proofs.Distinct.{both-ways}
use Rattle.rvs_index.specs.Buckets.{bucket_count}
use Rattle.rvs_insn.specs.Table.{op_count}
use Rattle.rvs_index.specs.Cells.{asked_bucket, HasCells, IsCell}
use Rattle.rvs_index.specs.Entries.{is_field, is_look, look, register_count}
use Rattle.rvs_index.specs.Entries.{HasEntries, IsEntry, IsEntryAt}
use Rattle.rvs_index.specs.declared.asked.Asked.{Asked}
use Rattle.rvs_index.specs.declared.asked.Asked.TheVariants.{Rd, Rs1, Rs2}
use Rattle.rvs_index.specs.Shared.{HasBlocks}
use Rattle.rvs_index.specs.declared.cell.Cell.{Cell}
use Rattle.rvs_index.specs.declared.slot.Slot.{Slot}
use Rattle.rvs_index.proofs.Blocks.{cell_in_block}
use Rattle.rvs_index.proofs.Marks.{any_default, pushed_each}

-- one that says to look at the cell
pub looks : (c : Cell) (z : ℤ) → IsEntry c z look
looks c z = grind (arith, both-ways)

-- one that doesn't
pub near_look : (e : ℕ) → e ≢ look → is_look e ≡ false
near_look e h = grind (arith, nat_tests)

-- one that names nothing
pub none_said : (c : Cell) (z : ℤ) → c.more ≡ false → int_eq c.second z ≡ false
    → int_eq c.first z ≡ false → IsEntry c z 0
none_said c z m s f = grind arith

-- one that names a point
pub one_said : (c : Cell) (z : ℤ) (e : ℕ) → c.more ≡ false → int_eq c.second z ≡ false
    → int_eq c.first z ≡ true → c.first_at < look - 1 → e ≡ c.first_at + 1 → IsEntry c z e
one_said c z e m s f low is = grind arith

-- one more
pub more_entries : (cells : List Cell) (es es' : List ℕ) (n e : ℕ) → HasEntries cells es
    → length es ≡ n → IsEntryAt cells n e → es' ≡ es ++ e ∷ [] → HasEntries cells es'
more_entries cells es es' n e has len is same =
    subst (HasEntries cells) (sym same) (record {
      each = λ k h. pushed_each (IsEntryAt cells) es e
          (λ k d h. subst (IsEntryAt cells k) (any_default es k 0 d h) (has.each k h))
          (subst (λ n. IsEntryAt cells n e) (sym len) is) k 0 h;
    })

-- the entry of a register in a field
pub entry_in : (cells : List Cell) (entries : List ℕ) (block field r : ℕ) (d : Cell)
    → HasEntries cells entries → field < 3 → r < 32
    → block * register_count + (32 * field + r) < length entries
    → IsEntry (get_or cells (block * bucket_count + (1 + (32 * field + r))) d) (pos r)
    (get_or entries (block * register_count + (32 * field + r)) 0)
entry_in cells entries block field r d has f l h =
    let n = block * register_count + (32 * field + r) in
    let is : IsEntry (get_or cells (n / register_count * bucket_count + (1 + n % register_count)) d)
    (pos (n % 32)) (get_or entries n 0) = has.each n h d in
    let whole : n / register_count ≡ block = omega arith in
    let rest : n % register_count ≡ 32 * field + r = omega arith in
    let own : n % 32 ≡ r = omega arith in
    rw (whole, rest, own) at is

pub field_list : (q : Asked) (n : ℕ) → (q ≡ Rd → n ≡ 0) → (q ≡ Rs1 → n ≡ 1) → (q ≡ Rs2 → n ≡ 2)
    → is_field q ≡ true → (r : ℕ) → r < 32 → asked_bucket q (pos r) ≡ 1 + (32 * n + r)
field_list q n a b c h r l = grind arith

-- a mnemonic's cell of a register in a field, and its entry
pub register_cell : (lists : List (List Slot)) (cells : List Cell) (blocks places entries got : List
    ℕ)
    (n field r : ℕ) (q : Asked) (d : Cell)
    → HasCells lists cells → HasBlocks cells blocks → places ≡ blocks → HasEntries cells entries
    → got ≡ entries → length blocks ≡ op_count → length cells ≡ op_count * bucket_count
    → length entries ≡ op_count * register_count → n < op_count → field < 3 → r < 32
    → 1 + (32 * field + r) ≡ asked_bucket q (pos r)
    → IsCell q (get_or lists (n * bucket_count + (1 + (32 * field + r))) [])
    (get_or cells (get_or places n 0 * bucket_count + (1 + (32 * field + r))) d)
    × IsEntry (get_or cells (get_or places n 0 * bucket_count + (1 + (32 * field + r))) d) (pos r)
    (get_or got (get_or places n 0 * register_count + (32 * field + r)) 0)
register_cell lists cells blocks places entries got n field r q d has blocked at noted same bs cs es
    m f l list = (cell, entry)
  where
    cell : IsCell q (get_or lists (n * bucket_count + (1 + (32 * field + r))) [])
        (get_or cells (get_or places n 0 * bucket_count + (1 + (32 * field + r))) d)
    cell =
        cell_in_block lists cells cells blocks places n (1 + (32 * field + r)) q (pos r) d has
        blocked refl at (omega (arith, bs, m)) (omega (arith, f, l)) list
        (omega (arith, f, l, m, cs))

    block_low : get_or places n 0 < op_count
    block_low = subst (λ bs. get_or bs n 0 < op_count) (sym at)
        (blocked.each n (omega (arith, bs, m))).0

    within : (block : ℕ) → block < op_count
        → block * register_count + (32 * field + r) < length entries
    within block h = omega (arith, f, l, h, es)

    entry : IsEntry (get_or cells (get_or places n 0 * bucket_count + (1 + (32 * field + r))) d)
        (pos r) (get_or got (get_or places n 0 * register_count + (32 * field + r)) 0)
    entry = subst (λ es. IsEntry
        (get_or cells (get_or places n 0 * bucket_count + (1 + (32 * field + r))) d)
        (pos r) (get_or es (get_or places n 0 * register_count + (32 * field + r)) 0)) (sym same)
        (entry_in cells entries (get_or places n 0) field r d noted f l
        (within (get_or places n 0) block_low))
