-- Parts of a list.
use Rattle.std.specs.Prelude.{ℕ, ◌+◌, ◌%◌, ◌==◌, ◌&&◌, nat_le, Bool, true, if◌then◌else◌, List, []}
use Rattle.std.specs.Prelude.{◌∷◌, Option, Some, None}

-- the part of this number, from 1 on, of so many
pub record PartValue : Type 0 where
  pub at : ℕ
  pub of : ℕ

-- where there is one; there are 4,096 at most
abbrev pub part_between : ℕ → ℕ → Option PartValue
part_between at of =
    if nat_le 1 at && (nat_le at of && nat_le of 4096) then Some (record { at = at; of = of })
    else None

-- what has this place, counted from 0, is in the part
abbrev pub has : PartValue → ℕ → Bool
has p place = place % p.of + 1 == p.at

-- where no part is asked for, all are in it
abbrev pub is_in : Option PartValue → ℕ → Bool
is_in None place = true
is_in (Some p) place = has p place

-- those of a list that are in a part, where its first stands at this place
abbrev pub parted_from : {X : Type 0} → Option PartValue → ℕ → List X → List X
parted_from part place [] = []
parted_from part place (x ∷ xs) =
    if is_in part place then x ∷ parted_from part (place + 1) xs
    else parted_from part (place + 1) xs

abbrev pub parted : {X : Type 0} → Option PartValue → List X → List X
parted part xs = parted_from part 0 xs
