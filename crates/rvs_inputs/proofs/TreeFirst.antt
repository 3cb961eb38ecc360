-- What comes of a file is what comes of its tree.
use Rattle.std.proofs.Common.{◌≡◌, ◌∙◌, ℕ, List, Result, Ok, Err, ap, sym}
use Rattle.rvs_tree.specs.Data.{Data}
use Rattle.rvs_plan.specs.Plan.{Ends, ◌>>=◌}
use Rattle.rvs_plan.specs.Inputs.{input}
use Rattle.rvs_plan.specs.Refusing.{input_text}
use Rattle.rvs_plan.specs.declared.stop.Stop.{Stop}
use Rattle.rvs_plan.specs.declared.stop.Stop.TheVariants.{Refused}
use Rattle.rvs_yaml.specs.Parsed.{Parsed, answer}
use Rattle.rvs_yaml.specs.Refusing.{refusal_text}
use Rattle.rvs_yaml_text.specs.declared.kind.YamlKind.{YamlKind}
use Rattle.rvs_inputs.specs.TreeInput.{found_end, tree_in, tree_file}
use Rattle.rvs_inputs.proofs.Chains.{then-then, then-same}

-- an end that goes on with the tree, and tells the faulty line where there is none
pub record Follows {A : Type 0} (name : List ℕ) (end : Parsed → Result A Stop)
    (next : Data → Result A Stop) : Type 0 where
  pub tree : (tree : Data) → end (Ok tree) ≡ next tree
  pub none : (fault : ℕ × YamlKind)
      → end (Err fault) ≡ Err (Refused (input_text name (refusal_text fault)))

follows-found : {A : Type 0} (name : List ℕ) (end : Parsed → Result A Stop)
    (next : Data → Result A Stop) (found : Parsed) → Follows name end next
    → (Ends (found_end name found) >>= (λ tree. Ends (next tree))) ≡ Ends (end found)
follows-found name end next (Ok tree) f = ap Ends (sym (f.tree tree))
follows-found name end next (Err fault) f = ap Ends (sym (f.none fault))

pub tree-then : {A : Type 0} (name bytes : List ℕ) (end : Parsed → Result A Stop)
    (next : Data → Result A Stop) → Follows name end next
    → (Ends (tree_in name bytes) >>= (λ tree. Ends (next tree))) ≡ Ends (end (answer bytes))
tree-then name bytes end next f = follows-found name end next (answer bytes) f

pub tree-first : {A : Type 0} (limit : ℕ) (name : List ℕ) (end : Parsed → Result A Stop)
    (next : Data → Result A Stop) → Follows name end next
    → (tree_file limit name >>= (λ tree. Ends (next tree)))
    ≡ (input limit name >>= (λ bytes. Ends (end (answer bytes))))
tree-first limit name end next f =
    then-then (input limit name) (λ bytes. Ends (tree_in name bytes)) (λ tree. Ends (next tree))
    ∙ then-same (input limit name) _ _ (λ bytes. tree-then name bytes end next f)
