-- The tree of the lines so far, from the open blocks.
use Rattle.std.specs.Prelude.{ℕ, Bool, not, nat_lt, if◌then◌else◌, List, [], ◌∷◌, Ok}
use Rattle.rvs_yaml.specs.Checks.{Checked, ◌>>=◌, ◌>>◌, check}
use Rattle.rvs_tree.specs.Value.{Value, scalar_value}
use Rattle.rvs_yaml_text.specs.Word.{opens_block}
use Rattle.rvs_yaml.specs.Stack.{Open}
use Rattle.rvs_yaml.specs.StepParts.{closed_value}
use Rattle.rvs_yaml.specs.Parsed.{within_limits}
use Rattle.rvs_yaml_text.specs.declared.kind.YamlKind.TheVariants.{TooDeep, TooManyNodes}

-- what the last word of a block is with nothing below it
abbrev pub own_value : Open → Value
own_value b = if opens_block b.head.sort then scalar_value [] b.head.line else b.own

-- the value of the lowest of these blocks, where this is the open member of the highest
abbrev pub ends : Value → List Open → Checked Value
ends v [] = Ok v
ends v (b ∷ bs) = closed_value b.done b.line v >>= λ w. ends w bs

abbrev pub front_value : List Open → Checked Value
front_value [] = Ok (scalar_value [] 1)
front_value (b ∷ bs) = ends (own_value b) (b ∷ bs)

-- a tree that is too deep or not, with so many nodes
abbrev pub limited : Bool → ℕ → Checked (Unit {0})
limited deep nodes = check (not deep) TooDeep >> check (not (nat_lt 500000 nodes)) TooManyNodes

abbrev pub checked_front : List Open → Checked (Unit {0})
checked_front bs = front_value bs >>= within_limits
