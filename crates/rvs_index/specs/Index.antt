-- The points by mnemonic.
use Rattle.std.specs.Prelude.{◌≡◌, ℕ, zero, suc, ◌+◌, ◌*◌, ◌/◌, ◌%◌, ◌<◌, ◌==◌, ◌&&◌, ◌++◌, Bool}
use Rattle.std.specs.Prelude.{nat_le, true, false, cond, List, []}
use Rattle.std.specs.Prelude.{◌∷◌, length, map, Option, Some, None, slice_index, slice_index_or}
use Rattle.std.specs.Prelude.{slice_set}
use Rattle.std.specs.List.{list_any}
use Rattle.rvs_points.specs.Points.{Meaning, op_is, window, Point}
use Rattle.rvs_points.specs.PointView.{point_view}
use Rattle.rvs_points.specs.declared.group.Label.{Label}
use Rattle.rvs_cross.specs.First.{first_ops}
use Rattle.rvs_facts.specs.Mnemonics.{number}
use Rattle.rvs_cross.specs.Windows.{matches}
use Rattle.rvs_insn.specs.Fields.{Fields}
use Rattle.rvs_insn.specs.declared.op.Op.{Op}
use Rattle.rvs_insn.specs.Table.{op_count}
use Rattle.rvs_index.specs.Buckets.{bucket_of, is_seen, bucket_count}
use Rattle.rvs_index.specs.Runs.{last}
use Rattle.rvs_index.specs.State.{added}
use Rattle.rvs_index.specs.Counting.{Aim, aims_in}
use Rattle.rvs_index.specs.declared.key.ListKey.{ListKey}
use Rattle.rvs_index.specs.declared.key.ListKey.TheVariants.{Any, Insns, Windows}
use Rattle.rvs_index.specs.declared.slot.Slot.{Slot}

-- a point, and its place among the counts
abbrev pub PlacedPoint : Type 0
PlacedPoint = Point × ℕ

abbrev pub place_of : Slot → PlacedPoint
place_of s = (point_view s.point.now, s.at)

abbrev pub places : List Slot → List PlacedPoint
places slots = map place_of slots

-- the mnemonic of this number is among them
abbrev pub has_number : ℕ → List Op → Bool
has_number n ops = list_any (λ op. n == number op) ops

-- an instruction of the mnemonic of this number may hit the point
abbrev pub meaning_fits : ℕ → Meaning → Bool
meaning_fits n (op_is op) = n == number op
meaning_fits n _ = true

-- the mnemonic of this number is listed; where none are, all are
abbrev pub lists_number : ℕ → Option (List Op) → Bool
lists_number n None = true
lists_number n (Some ops) = has_number n ops

-- an instruction of the mnemonic of this number may be the first of so many that hit the point
abbrev pub window_fits : ℕ → ℕ → Meaning → Bool
window_fits count n (window ps) = length ps == count && lists_number n (first_ops ps)
window_fits count n _ = false

-- the point stands in the list of this key, under a label that the list admits
abbrev pub stands : ListKey → Point → Bool
stands (Insns n bucket) p = bucket_of p == bucket && meaning_fits n p.meaning
stands (Any n) p = meaning_fits n p.meaning
stands (Windows count n) p = window_fits count n p.meaning

-- a cross point is looked for whatever its label's mnemonics
abbrev pub admits : ListKey → List Op → Bool
admits (Insns n bucket) ops = has_number n ops
admits (Any n) ops = has_number n ops
admits (Windows count n) ops = true

abbrev pub is_for : ListKey → Aim → Bool
is_for key a = admits key a.ops && stands key a.point

-- a list's number says a mnemonic and a bucket
abbrev pub insns_key : ℕ → ListKey
insns_key n = Insns (n / bucket_count) (n % bucket_count)

-- or how many places there are, and a mnemonic
abbrev pub windows_key : ℕ → ListKey
windows_key n = Windows (n / op_count + 1) (n % op_count)

-- the points that pass, counted from a place
abbrev pub places_for : (Aim → Bool) → ℕ → List Aim → List PlacedPoint
places_for passes at [] = []
places_for passes at (a ∷ aims) =
    elim (passes a) [
      | true ↦ (a.point, at) ∷ places_for passes (at + 1) aims
      | false ↦ places_for passes (at + 1) aims
    ]

-- the points of a list, counted from a place
abbrev pub places_in : ListKey → ℕ → List Point → List PlacedPoint
places_in key at [] = []
places_in key at (p ∷ ps) =
    elim (stands key p) [
      | true ↦ (p, at) ∷ places_in key (at + 1) ps
      | false ↦ places_in key (at + 1) ps
    ]

-- the places whose points are of a bucket
abbrev pub in_bucket : ℕ → List PlacedPoint → List PlacedPoint
in_bucket bucket [] = []
in_bucket bucket (p ∷ ps) =
    elim (bucket_of p.0 == bucket) [
      | true ↦ p ∷ in_bucket bucket ps
      | false ↦ in_bucket bucket ps
    ]

-- lists for the first numbers
pub record IsIndex (key_of : ℕ → ListKey) (labels : List Label) (lists : List (List Slot)) : Type
    0 where
  pub each : (n : ℕ) (d : List Slot) → n < length lists
      → places (slice_index_or lists n d) ≡ places_for (is_for (key_of n)) 0 (aims_in labels)

-- a point of this meaning is a cross point of so many places
abbrev pub has_places : ℕ → Meaning → Bool
has_places count (window ps) = length ps == count
has_places count _ = false

-- the numbers up to one of places that there are cross points of
abbrev pub lengths_to : List Aim → ℕ → List ℕ
lengths_to aims zero = []
lengths_to aims (suc n) =
    lengths_to aims n
    ++ cond (list_any (λ a. has_places (suc n) a.point.meaning) aims) (suc n ∷ []) []

-- lists for all cross points, and the numbers of places that there are
pub record IsCrossIndex (labels : List Label) (lists : List (List Slot)) (numbers : List ℕ) : Type 0
  where
    pub index : IsIndex windows_key labels lists
    pub count : length lists ≡ 6 * op_count
    pub lengths : numbers ≡ lengths_to (aims_in labels) 6

-- a point of this meaning is a cross point that these instructions match
abbrev pub is_matched : Meaning → List Fields → Bool
is_matched (window ps) run = matches ps (map (λ i. Some i) run)
is_matched _ run = false

-- so many instructions with which a run ends match it
abbrev pub is_last : ℕ → Meaning → List Fields → Bool
is_last count m run = is_matched m (last count run) && nat_le count (length run)

-- one more for each point that as many instructions match as one of these numbers
abbrev pub added_lasts : List ℕ → List Fields → List Aim → List ℕ → List ℕ
added_lasts [] run aims cs = cs
added_lasts (n ∷ ns) run aims cs =
    added_lasts ns run aims (added (λ a. is_last n a.point.meaning run) aims cs)

-- one more at a place
abbrev pub raised : Bool → ℕ → List ℕ → List ℕ
raised true at counts = slice_set counts at (slice_index counts at + 1)
raised false at counts = counts

-- the counts after the points of a list, of which some are hit
abbrev pub raised_all : (Point → Bool) → List PlacedPoint → List ℕ → List ℕ
raised_all hit [] counts = counts
raised_all hit (p ∷ ps) counts = raised_all hit ps (raised (hit p.0) p.1 counts)

-- one more for each point that passes, list by list
abbrev pub added_all : (Aim → Bool) → List (Option ℕ) → List Aim → List ℕ → List ℕ
added_all passes [] aims cs = cs
added_all passes (o ∷ os) aims cs =
    added_all passes os aims (added (λ a. is_seen o a.point && passes a) aims cs)
