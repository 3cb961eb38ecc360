-- What the numbers of a log say where an instruction's result is stored at once.
use Rattle.std.specs.Prelude.{◌≡◌, ◌≤◌, ℕ, ◌==◌, true, false, List, ◌∷◌, ◌++◌, Some}
use Rattle.std.specs.Prelude.{slice_index_or}
use Rattle.std.specs.List.{slice_get}
use Rattle.rvs_index.specs.Counting.{Aim, hits}
use Rattle.rvs_prop.specs.Acts.{Act}
use Rattle.rvs_prop.specs.Reach.{saves_register, target_of}

-- a point has a number above 0 where an instruction hits it, and the next one stores in the range
-- what that wrote, other than to x0
pub record StoredCounts (lo hi : ℕ) (acts : List Act) (aims : List Aim) (numbers : List ℕ) : Type 0
  where
    pub counted : (front behind : List Act) (hit store : Act) (place : ℕ) (aim : Aim)
        → acts ≡ front ++ hit ∷ store ∷ behind → slice_get aims place ≡ Some aim
        → hits aim hit.entry ≡ true → (target_of hit.entry == 0) ≡ false
        → saves_register lo hi (target_of hit.entry) store.entry ≡ true
        → 1 ≤ slice_index_or numbers place 0
