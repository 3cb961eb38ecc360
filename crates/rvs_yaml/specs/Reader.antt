-- Reading a line, and checking the tree of the lines so far.
use Rattle.std.specs.Prelude.{◌≡◌, ℕ, Bool, List, Result, Ok, Err}
use Rattle.rvs_base.specs.declared.fault.Fault.{Fault}
use Rattle.rvs_base.specs.declared.fault.Fault.TheVariants.{Refused, NoMemory}
use Rattle.rvs_yaml.specs.Checks.{Checked, ◌>>=◌, ◌>>◌}
use Rattle.rvs_yaml.specs.Stack.{Open, steps}
use Rattle.rvs_yaml_text.specs.Text.{line_words}
use Rattle.rvs_yaml.specs.Front.{checked_front, front_value}
use Rattle.rvs_tree.specs.Data.{Data}
use Rattle.rvs_yaml.specs.Parsed.{within_limits}
use Rattle.rvs_tree.specs.Value.{Value}
use Rattle.rvs_yaml.specs.Gives.{Fails}
use Rattle.rvs_yaml_text.specs.declared.kind.YamlKind.{YamlKind}

abbrev pub kept : List Open → Checked (List Open)
kept cs = checked_front cs >> Ok cs

-- What a function that puts words on the stack returned: the stack is what the words give, or the
-- line is refused so, if not for a word, for its front.
abbrev pub Passes : {X : Type 0} → (X → List Open) → Result X (Fault YamlKind)
    → Checked (List Open) → Type 0
Passes see (Ok x) m = m ≡ Ok (see x)
Passes see (Err fault) m = Fails fault (m >>= kept)

-- What a function that looks ahead returned: where it refuses the line, the line is refused so.
abbrev pub Denies : Result (Unit {0}) (Fault YamlKind) → Checked (List Open) → Type 0
Denies (Ok x) m = Unit {0}
Denies (Err fault) m = Fails fault (m >>= kept)

-- the same of the front
abbrev pub DeniesFront : Result (Unit {0}) (Fault YamlKind) → Checked Value → Type 0
DeniesFront (Ok x) m = Unit {0}
DeniesFront (Err fault) m = Fails fault (m >>= within_limits)

-- the same of a function that takes no memory
abbrev pub RefusesFront : Result (Unit {0}) (Fault YamlKind) → Checked Value → Type 0
RefusesFront (Ok x) m = Unit {0}
RefusesFront (Err (Refused kind)) m = (m >>= within_limits) ≡ Err kind
RefusesFront (Err NoMemory) m = ⊥

abbrev pub checked_line : List Open → ℕ → Bool → List ℕ → Checked (List Open)
checked_line bs line started bytes = steps bs (line_words line started bytes) >>= kept

-- the tree of the open blocks, where nothing more comes
abbrev pub whole : List Open → Checked Data
whole bs = front_value bs >>= λ v. Ok v.tree
