-- What a page says of the state of a test.
use Rattle.std.specs.Prelude.{ℕ, ◌++◌, List, [], ◌∷◌, length, codes}
use Rattle.rvs_page.specs.Pieces.{told}
use Rattle.rvs_page.specs.Shown.{tested}
use Rattle.rvs_page.specs.declared.pieces.Piece.TheVariants.{Html, Number, Word}
use Rattle.rvs_page.specs.declared.shown.State.{State}
use Rattle.rvs_page.specs.declared.shown.State.TheVariants as state
use Rattle.rvs_page.specs.declared.shown.Label.{Label}

abbrev pub badge_class : State → List ℕ
badge_class state.NoTest = codes "no"
badge_class state.NotRun = codes "no"
badge_class state.OtherTest = codes "no"
badge_class (state.Pass words) = codes "ok"
badge_class _ = codes "bad"

abbrev pub badge_word : State → List ℕ
badge_word state.NoTest = codes "no test"
badge_word state.NotRun = codes "not run"
badge_word state.OtherTest = codes "other test"
badge_word (state.Pass words) = codes "PASS"
badge_word _ = codes "FAIL"

unfoldable pub badge : State → List ℕ
badge s =
    told (Html (codes "<b class=\"") ∷ Html (badge_class s) ∷ Html (codes "\">")
    ∷ Html (badge_word s) ∷ Html (codes "</b>") ∷ [])

-- how many cases differ
unfoldable pub cases_said : Label → List ℕ
cases_said l =
    told (Number (length l.cases) ∷ Html (codes " of ") ∷ Number (tested l)
    ∷ Html (codes " cases differ") ∷ [])

-- the first word that differs, and how many do
unfoldable pub words_said : ℕ → ℕ → ℕ → ℕ → ℕ → List ℕ
words_said at left right differing words =
    told (Html (codes "word ") ∷ Number at ∷ Html (codes " is <code>") ∷ Word left
    ∷ Html (codes "</code> and <code>") ∷ Word right ∷ Html (codes "</code>; ")
    ∷ Number differing ∷ Html (codes " of ") ∷ Number words ∷ Html (codes " words and ") ∷ [])

unfoldable pub other_said : List ℕ
other_said = told (Html (codes "its files are of another test") ∷ [])

unfoldable pub none_said : List ℕ
none_said = told (Html (codes "no signature") ∷ [])

unfoldable pub long_said : List ℕ
long_said = told (Html (codes "signature too long") ∷ [])

unfoldable pub words_count : ℕ → List ℕ
words_count words = told (Number words ∷ Html (codes " words") ∷ [])

unfoldable pub bad_line : ℕ → List ℕ
bad_line line = told (Html (codes "bad signature line ") ∷ Number line ∷ [])

unfoldable pub lengths : ℕ → ℕ → List ℕ
lengths device reference =
    told (Html (codes "lengths ") ∷ Number device ∷ Html (codes " and ") ∷ Number reference ∷ [])

-- what is said of a test whose words needn't be compared one by one
unfoldable pub state_said : State → List ℕ
state_said state.NoTest = []
state_said state.NotRun = []
state_said state.OtherTest = other_said
state_said (state.Pass words) = words_count words
state_said state.NoSignature = none_said
state_said state.TooLong = long_said
state_said (state.BadLine line) = bad_line line
state_said (state.Lengths device reference) = lengths device reference
state_said (state.Differs at left right differing words) = []

-- beside the label's badge
abbrev pub said_by : State → Label → List ℕ
said_by (state.Differs at left right differing words) l = cases_said l
said_by s l = state_said s

unfoldable pub said_of : Label → List ℕ
said_of l = said_by l.state l

-- among the failures
abbrev pub said_whole_by : State → Label → List ℕ
said_whole_by (state.Differs at left right differing words) l =
    words_said at left right differing words ++ cases_said l
said_whole_by s l = state_said s

unfoldable pub said_whole : Label → List ℕ
said_whole l = said_whole_by l.state l
