-- What comes of a file of YAML.
use Rattle.std.specs.Prelude.{ℕ, List, Result}
use Rattle.rvs_tree.specs.Data.{Data}
use Rattle.rvs_plan.specs.Plan.{Plan, Ends, ◌>>=◌}
use Rattle.rvs_plan.specs.Inputs.{input}
use Rattle.rvs_plan.specs.Refusing.{end_at}
use Rattle.rvs_plan.specs.declared.stop.Stop.{Stop}
use Rattle.rvs_yaml.specs.Parsed.{Parsed, answer}
use Rattle.rvs_yaml.specs.Refusing.{refusal_text}

-- the tree that was found in the named text, or the end with its first faulty line
abbrev pub found_end : List ℕ → Parsed → Result Data Stop
found_end name found = end_at refusal_text name found

-- the tree of the named text
abbrev pub tree_in : List ℕ → List ℕ → Result Data Stop
tree_in name bytes = found_end name (answer bytes)

-- a file is read, and has this tree
abbrev pub tree_file : ℕ → List ℕ → Plan Data
tree_file limit name = do
  bytes ← input limit name
  Ends (tree_in name bytes)
