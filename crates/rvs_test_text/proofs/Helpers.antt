-- A register that isn't an operand.
use Rattle.std.proofs.Common.{◌≡◌, ◌≢◌, ℕ, ◌<◌, Bool, cond, ◌||◌, not, [], ◌∷◌, Some}
use Rattle.std.proofs.Common.{arith, rules}
use Rattle.std.specs.Prelude.{◌==◌, unwrap_or}
use Rattle.std.specs.List.{find}
use Rattle.rvs_choice.specs.Choice.{ChoiceValue}
use Rattle.rvs_test_text.specs.TestText.{pointer}

-- what holds of it
pub record IsFree (d a b p : ℕ) : Type 0 where
  pub some : 0 < p
  pub low : p < 16
  pub rd : d ≢ p
  pub rs1 : a ≢ p
  pub rs2 : b ≢ p

abbrev is_free : ℕ → ℕ → ℕ → ℕ → Bool
is_free d a b r = not (d == r || a == r || b == r)

first : (d a b : ℕ) (t : Bool) → is_free d a b 15 ≡ t
    → IsFree d a b (unwrap_or (cond t (Some 15) (find (is_free d a b) (14 ∷ 13 ∷ 12 ∷ 11 ∷ []))) 0)
first d a b t e = search rules

pub pointer_free : (c : ChoiceValue)
    → IsFree (unwrap_or c.rd 0) (unwrap_or c.rs1 0) (unwrap_or c.rs2 0) (pointer c)
pointer_free c = grind (arith, first)
