-- What a reader of a page reads.
use Rattle.std.specs.Prelude.{◌≡◌, ◌≤◌, ◌<◌, ◌↔◌, ℕ, ◌*◌, ◌==◌, ◌||◌, Bool, true, false, List}
use Rattle.std.specs.Prelude.{length, All}
use Rattle.std.specs.List.{list_any}
use Rattle.rvs_page.specs.Escape.{escaped, read_back}
use Rattle.rvs_page.specs.Shown.{verdict_of}
use Rattle.rvs_page.specs.declared.shown.State.{State}
use Rattle.rvs_page.specs.declared.shown.State.TheVariants as state
use Rattle.rvs_page.specs.declared.shown.Verdict.TheVariants as verdict
use Rattle.rvs_page.specs.declared.shown.Label.{Label}

abbrev pub TextsAreReadBack : Type 0
TextsAreReadBack = (text : List ℕ) → All (λ b. b < 256) text → read_back (escaped text) ≡ text

-- a byte that begins or ends a tag or an attribute's value
abbrev pub is_special : ℕ → Bool
is_special b = b == 60 || b == 62 || b == 34

abbrev pub TextsHoldNoMarks : Type 0
TextsHoldNoMarks = (text : List ℕ) → list_any is_special (escaped text) ≡ false

abbrev pub TextsKeepTheirSize : Type 0
TextsKeepTheirSize = (text : List ℕ) → length (escaped text) ≤ 6 * length text

-- the test passes, or there is none
abbrev pub is_settled : State → Bool
is_settled state.NoTest = true
is_settled (state.Pass words) = true
is_settled _ = false

-- a page has the verdict PASS exactly where each test is there and passes
abbrev pub PassSaysThatAllPass : Type 0
PassSaysThatAllPass =
    (labels : List Label)
    → (verdict_of labels ≡ verdict.Pass) ↔ All (λ (l : Label). is_settled l.state ≡ true) labels
