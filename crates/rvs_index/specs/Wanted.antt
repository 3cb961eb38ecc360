-- Which facts the points of a mnemonic say values of.
use Rattle.std.specs.Prelude.{◌≡◌, ℕ, ◌+◌, ◌*◌, ◌<◌, ◌≤◌, Bool, false, List, [], length}
use Rattle.std.specs.Prelude.{slice_index_or}
use Rattle.rvs_index.specs.Buckets.{bucket_count}
use Rattle.rvs_index.specs.declared.asked.Asked.{Asked}
use Rattle.rvs_index.specs.declared.asked.Asked.TheVariants.{Rd, Rs1, Rs2, Rs1Val, Rs2Val, ImmVal}
use Rattle.rvs_index.specs.declared.asked.Asked.TheVariants.{EaAlign}
use Rattle.rvs_index.specs.declared.slot.Slot.{Slot}
use Rattle.rvs_index.specs.declared.wanted.Wanted.{Wanted}

-- the first list that is for a fact, and the first after those
abbrev pub from_of : Asked → ℕ
from_of Rd = 1
from_of Rs1 = 33
from_of Rs2 = 65
from_of Rs1Val = 97
from_of Rs2Val = 164
from_of ImmVal = 231
from_of EaAlign = 298

abbrev pub to_of : Asked → ℕ
to_of Rd = 33
to_of Rs1 = 65
to_of Rs2 = 97
to_of Rs1Val = 164
to_of Rs2Val = 231
to_of ImmVal = 298
to_of EaAlign = bucket_count

abbrev pub wants : Wanted → Asked → Bool
wants w Rd = w.rd
wants w Rs1 = w.rs1
wants w Rs2 = w.rs2
wants w Rs1Val = w.rs1_val
wants w Rs2Val = w.rs2_val
wants w ImmVal = w.imm_val
wants w EaAlign = w.ea_align

-- these lists have no points
pub record AreEmpty (lists : List (List Slot)) (from to : ℕ) : Type 0 where
  pub each : (k : ℕ) → from ≤ k → k < to → slice_index_or lists k [] ≡ []

-- a fact that isn't wanted has empty lists
pub record IsWanted (lists : List (List Slot)) (m : ℕ) (w : Wanted) : Type 0 where
  pub each : (q : Asked) → wants w q ≡ false
      → AreEmpty lists (m * bucket_count + from_of q) (m * bucket_count + to_of q)

-- those of the first mnemonics
pub record HasWanted (lists : List (List Slot)) (ws : List Wanted) : Type 0 where
  pub each : (m : ℕ) (e : Wanted) → m < length ws → IsWanted lists m (slice_index_or ws m e)
