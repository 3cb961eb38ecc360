-- Lists of at most two points, each by the value that it says of the fact that the list is for.
use Rattle.std.specs.Prelude.{◌≡◌, ℕ, ℤ, pos, negsuc, ◌+◌, ◌%◌, ◌^◌, ◌<◌, ◌≤◌, ◌||◌, nat_lt, Bool}
use Rattle.std.specs.Prelude.{true, false}
use Rattle.std.specs.Prelude.{if◌then◌else◌, All, List, length, Option, Some, None, option_map}
use Rattle.std.specs.Prelude.{slice_index_or, unsigned_abs}
use Rattle.std.specs.Ordering.{int_eq}
use Rattle.rvs_points.specs.PointView.{point_view}
use Rattle.rvs_points.specs.Hits.{holds}
use Rattle.rvs_expr.specs.Meaning.{Table}
use Rattle.rvs_expr_text.specs.declared.lexeme.NumName.TheVariants as number
use Rattle.rvs_expr_text.specs.declared.lexeme.RegName.TheVariants as register
use Rattle.rvs_insn.specs.declared.op.Op.{Op}
use Rattle.rvs_index.specs.Buckets.{number_bucket, bucket_count}
use Rattle.rvs_index.specs.Counting.{Aim}
use Rattle.rvs_index.specs.Index.{places, raised, raised_all}
use Rattle.rvs_index.specs.declared.asked.Asked.{Asked}
use Rattle.rvs_index.specs.declared.asked.Asked.TheVariants.{Rd, Rs1, Rs2, Rs1Val, Rs2Val, ImmVal}
use Rattle.rvs_index.specs.declared.asked.Asked.TheVariants.{EaAlign}
use Rattle.rvs_index.specs.declared.cell.Cell.{Cell}
use Rattle.rvs_index.specs.declared.slot.Slot.{Slot}

-- the value of a fact
abbrev pub fact : Asked → Table → Option ℤ
fact Rd t = option_map (λ n. pos n) (t.reg register.Rd)
fact Rs1 t = option_map (λ n. pos n) (t.reg register.Rs1)
fact Rs2 t = option_map (λ n. pos n) (t.reg register.Rs2)
fact Rs1Val t = t.num number.Rs1Val
fact Rs2Val t = t.num number.Rs2Val
fact ImmVal t = t.num number.ImmVal
fact EaAlign t = t.num number.EaAlign

abbrev pub register_place : ℤ → ℕ
register_place z = unsigned_abs z % 32

-- the list of the points that say this value
abbrev pub asked_bucket : Asked → ℤ → ℕ
asked_bucket Rd z = 1 + register_place z
asked_bucket Rs1 z = 33 + register_place z
asked_bucket Rs2 z = 65 + register_place z
asked_bucket Rs1Val z = number_bucket number.Rs1Val z
asked_bucket Rs2Val z = number_bucket number.Rs2Val z
asked_bucket ImmVal z = number_bucket number.ImmVal z
asked_bucket EaAlign z = number_bucket number.EaAlign z

-- the list that an instruction of these facts is held against for a fact
abbrev pub sight : Asked → Table → Option ℕ
sight q t = option_map (asked_bucket q) (fact q t)

-- the fact that a list is for; the first is for none
abbrev pub asked_at : ℕ → Option Asked
asked_at b =
    if nat_lt b 1 then None
    else if nat_lt b 33 then Some Rd
    else if nat_lt b 65 then Some Rs1
    else if nat_lt b 97 then Some Rs2
    else if nat_lt b 164 then Some Rs1Val
    else if nat_lt b 231 then Some Rs2Val
    else if nat_lt b 298 then Some ImmVal
    else Some EaAlign

-- a point says that a fact has this value: it is hit by the instructions of which that is so
abbrev pub SaysValue : Asked → Slot → ℤ → Type 0
SaysValue q s z = (op : Op) (t : Table) (v : ℤ) → fact q t ≡ Some v
    → holds (point_view s.point.now) op t ≡ int_eq z v

-- a point isn't hit by instructions of which a fact hasn't this value
abbrev pub AsksValue : Asked → Slot → ℤ → Type 0
AsksValue q s z = (op : Op) (t : Table) (v : ℤ) → fact q t ≡ Some v → int_eq z v ≡ false
    → holds (point_view s.point.now) op t ≡ false

-- none of the first n points is hit by instructions of which a fact has neither of two values
abbrev pub AreBound : ℕ → Asked → List Slot → ℤ → ℤ → Type 0
AreBound n q slots y z = (k : ℕ) (d : Slot) (op : Op) (t : Table) (v : ℤ) → k < n
    → fact q t ≡ Some v → unsigned_abs v ≤ 2 ^ 32 → int_eq y v ≡ false → int_eq z v ≡ false
    → holds (point_view (slice_index_or slots k d).point.now) op t ≡ false

-- what is none of two values is neither a value nor one of two others
abbrev pub Covers : ℤ → ℤ → ℤ → ℤ → ℤ → Type 0
Covers z x y x' y' = (v : ℤ) → unsigned_abs v ≤ 2 ^ 32 → int_eq x' v ≡ false → int_eq y' v ≡ false
    → (int_eq z v ≡ false) × ((int_eq x v ≡ false) × (int_eq y v ≡ false))

-- a value that no fact has, -2 ^ 40
abbrev pub never : ℤ
never = negsuc 1099511627775

abbrev pub pair : ℤ → ℕ → ℤ → ℕ → Cell
pair y at z at' =
    record { first = y; first_at = at; second = z; second_at = at'; more = false }

-- the counts after the points of a cell, of which those are hit that say this value
abbrev pub raised_cell : Cell → ℤ → List ℕ → List ℕ
raised_cell c z counts =
    raised (int_eq c.second z) c.second_at (raised (int_eq c.first z) c.first_at counts)

-- a point of a cell with more points may be hit
abbrev pub may_hit : Cell → ℤ → Bool
may_hit c z = (int_eq c.first z || int_eq c.second z) || int_eq c.first never

-- a cell adds what the points of its list add, and names no other places, where it doesn't say that
-- there are more; where it does, none adds but where it may
pub record IsCell (q : Asked) (slots : List Slot) (c : Cell) : Type 0 where
  pub adds : c.more ≡ false → (op : Op) (t : Table) (z : ℤ) (counts : List ℕ)
      → fact q t ≡ Some z → unsigned_abs z ≤ 2 ^ 32
      → raised_cell c z counts ≡ raised_all (λ p. holds p op t) (places slots) counts
  pub low : c.more ≡ false → (n : ℕ) → 0 < n → All (λ (s : Slot). s.at < n) slots
      → (c.first_at < n) × (c.second_at < n)
  pub spared : c.more ≡ true → (op : Op) (t : Table) (z : ℤ) (counts : List ℕ)
      → fact q t ≡ Some z → unsigned_abs z ≤ 2 ^ 32 → may_hit c z ≡ false
      → counts ≡ raised_all (λ p. holds p op t) (places slots) counts

-- the cell of a list that is for a fact, or for none
abbrev pub IsCellFor : Option Asked → List Slot → Cell → Type 0
IsCellFor None slots c = c.more ≡ true
IsCellFor (Some q) slots c = IsCell q slots c

-- cells for the first lists
pub record HasCells (lists : List (List Slot)) (cells : List Cell) : Type 0 where
  pub each : (n : ℕ) (d : List Slot) (e : Cell) → n < length cells
      → IsCellFor (asked_at (n % bucket_count)) (slice_index_or lists n d)
      (slice_index_or cells n e)

-- counts of some points, none of them above m
pub record Fits (aims : List Aim) (m : ℕ) (counts : List ℕ) : Type 0 where
  pub some : 0 < length counts
  pub count : length counts ≡ length aims
  pub low : All (λ n. n ≤ m) counts
