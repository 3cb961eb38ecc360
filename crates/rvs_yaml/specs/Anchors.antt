-- The values that anchors name.
use Rattle.std.specs.Prelude.{ℕ, Bool, true, false, map, if◌then◌else◌, List, [], ◌∷◌, Option, Some}
use Rattle.std.specs.Prelude.{None, Ok, Err, bytes_eq}
use Rattle.rvs_tree.specs.Value.{Value}
use Rattle.rvs_tree.specs.Standin.{standin}
use Rattle.rvs_yaml.specs.Checks.{Checked}
use Rattle.rvs_yaml_text.specs.declared.kind.YamlKind.TheVariants.{UnknownAlias}

-- The values of the anchors whose nodes are complete, the latest anchor first.
abbrev pub Anchors : Type 0
Anchors = List (List ℕ × Value)

abbrev pub lookup : List ℕ → Anchors → Option Value
lookup name [] = None
lookup name (a ∷ more) = if bytes_eq a.0 name then Some a.1 else lookup name more

-- the same with what stands for the values
abbrev pub thinned : Anchors → Anchors
thinned anchors = map (λ a. (a.0, standin a.1)) anchors

abbrev pub formed : Bool → Anchors → Anchors
formed false anchors = anchors
formed true anchors = thinned anchors

abbrev pub known_alias : Option Value → Checked Value
known_alias None = Err UnknownAlias
known_alias (Some v) = Ok v
