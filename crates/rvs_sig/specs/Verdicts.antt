-- How two lists of words differ.
use Rattle.std.specs.Prelude.{◌≡◌, ◌≢◌, ◌<◌, ℕ, Bool, take, not, ◌==◌, if◌then◌else◌, List, length}
use Rattle.std.specs.Prelude.{slice_index, count_by, position, Option, Some, None}
use Rattle.std.specs.List.{zip}
use Rattle.rvs_sig.specs.declared.comparison.Verdict.{Verdict}
use Rattle.rvs_sig.specs.declared.comparison.Verdict.TheVariants.{Same, Differs, Lengths}

abbrev pub differ : ℕ × ℕ → Bool
differ pair = not (pair.0 == pair.1)

-- how many places of two lists differ
abbrev pub differing : List ℕ → List ℕ → ℕ
differing left right = count_by differ (zip left right)

-- the verdict on lists of one length, by the first place that differs
abbrev pub verdict_at : List ℕ → List ℕ → Option ℕ → Verdict
verdict_at left right None = Same (length left)
verdict_at left right (Some at) =
    Differs at (slice_index left at) (slice_index right at) (differing left right)

abbrev pub verdict_of : List ℕ → List ℕ → Verdict
verdict_of left right =
    if length left == length right then verdict_at left right (position differ (zip left right))
    else Lengths (length left) (length right)

-- at this place stand these words, which differ, and the lists agree before it
pub record FirstDiffers (left right : List ℕ) (at l r : ℕ) : Type 0 where
  pub within : at < length left
  pub left_word : slice_index left at ≡ l
  pub right_word : slice_index right at ≡ r
  pub differ : l ≢ r
  pub before : take at left ≡ take at right
