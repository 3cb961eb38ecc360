-- A step of reading the text of a flow collection.
use Rattle.std.specs.Prelude.{ℕ, Bool, true, false, List, Ok}
use Rattle.rvs_yaml_text.specs.Bytes.{space_byte, hash_byte}
use Rattle.rvs_yaml.specs.Checks.{Checked, ◌>>=◌}
use Rattle.rvs_yaml.specs.Anchors.{Anchors}
use Rattle.rvs_yaml_text.specs.Scalar.{starts_with, is_empty}
use Rattle.std.specs.Prelude.{◌&&◌, ◌||◌, drop}
use Rattle.rvs_yaml_text.specs.Tokens.{next_token, closes}
use Rattle.rvs_yaml.specs.FlowSteps.{Reading, flow_step}

-- what is read, whether a closing bracket was read last, whether a space stands before the text
-- that is left, and that text
pub record Flowing : Type 0 where
  pub reading : Reading
  pub closed : Bool
  pub spaced : Bool
  pub rest : List ℕ

abbrev pub flowing : Reading → Bool → Bool → List ℕ → Flowing
flowing reading closed spaced rest =
    record { reading = reading; closed = closed; spaced = spaced; rest = rest }

-- nothing or a comment comes next
abbrev pub is_flow_end : Bool → List ℕ → Bool
is_flow_end spaced bytes = is_empty bytes || (starts_with hash_byte bytes && spaced)

-- one space or one token more
abbrev pub next_flowing : Bool → Anchors → ℕ → Flowing → Checked Flowing
next_flowing poor known line f =
    elim (starts_with space_byte f.rest) [
      | true ↦ Ok (flowing f.reading f.closed true (drop 1 f.rest))
      | false ↦ flow_step poor known line f.reading (next_token f.closed f.rest).0 >>= λ r. Ok
          (flowing r (closes (next_token f.closed f.rest).0) false (next_token f.closed f.rest).1)
    ]
