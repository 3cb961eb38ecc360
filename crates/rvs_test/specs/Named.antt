-- What a test claims, as a reader has it who knows nothing but the bytes of its text.
use Rattle.std.specs.Prelude.{ℕ, Option, Some, None, option_map, option_and_then, List, [], ◌∷◌}
use Rattle.std.specs.Prelude.{codes}
use Rattle.std.specs.List.{filter_map}
use Rattle.rvs_base.specs.Digits.{digits_of}
use Rattle.rvs_base.specs.Lines.{before, after}
use Rattle.rvs_asm_text.specs.Text.{lines_of}
use Rattle.rvs_asm_text.specs.Header.{after_front}
use Rattle.rvs_points.specs.Points.{Label}
use Rattle.rvs_test_text.specs.declared.claim.Claim.{Claim}
use Rattle.rvs_test.specs.Made.{named_at}

-- a case, and the kind and the key of the point that it is to hit
pub record Named : Type 0 where
  pub case : ℕ
  pub kind : List ℕ
  pub key : List ℕ

-- `<kind> <key>` behind the case: the key is all that follows the first space
abbrev pub point_read : Option (List ℕ) → ℕ → Option Named
point_read None k = None
point_read (Some text) k =
    option_map (λ key. record { case = k; kind = before 32 text; key = key }) (after 32 text)

-- `<case> <kind> <key>`, where the case is a decimal number
abbrev pub claim_read : List ℕ → Option Named
claim_read text = option_and_then (point_read (after 32 text)) (digits_of 10 (before 32 text))

-- what follows the front of a claim, where a line has it
abbrev pub behind_front : List ℕ → Option (List ℕ)
behind_front line = after_front (codes "#! case ") line

-- a claim each, or nothing where one is none
abbrev pub all_read : List (List ℕ) → Option (List Named)
all_read [] = Some []
all_read (t ∷ ts) = option_and_then (λ c. option_map (λ cs. c ∷ cs) (all_read ts)) (claim_read t)

-- the claims of a text, in the order of its lines: each line that begins as a claim has to be one
unfoldable pub claims_read : List ℕ → Option (List Named)
claims_read text = all_read (filter_map behind_front (lines_of text))

-- a claim that was made of a label, by what its point is called
abbrev pub named_claim : Label → Claim → Named
named_claim l c =
    record { case = c.case; kind = (named_at l c.point).kind; key = (named_at l c.point).key }
