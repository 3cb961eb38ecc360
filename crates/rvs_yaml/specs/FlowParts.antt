-- Parts of a step of the flow reader.
use Rattle.std.specs.Prelude.{ℕ, Bool, true, not, ◌||◌, List, [], ◌∷◌, Some, Ok, Err}
use Rattle.rvs_yaml.specs.Checks.{Checked, ◌>>=◌, ◌>>◌}
use Rattle.rvs_tree.specs.Value.{Value, Written, has_key, explicit_keys}
use Rattle.rvs_yaml_text.specs.Word.{Key, Bracket, Token}
use Rattle.rvs_yaml.specs.Anchors.{Anchors, lookup, known_alias}
use Rattle.rvs_yaml.specs.Flow.{FlowState, member, key_place, entry_value, first_place, may_open}
use Rattle.rvs_yaml.specs.Flow.{ends_with, merged_well}
use Rattle.rvs_yaml.specs.FlowSteps.{Reading, open_in, closed_by, into, flow_steps, flow_end}
use Rattle.rvs_yaml_text.specs.declared.kind.YamlKind.TheVariants.{BadFlow, BadScalar}

-- the value of an alias at a place
abbrev pub alias_at : Anchors → FlowState → List ℕ → Checked Value
alias_at known (member vs) [] = Err BadFlow
alias_at known (entry_value ws k) [] = Err BadFlow
alias_at known (member vs) name = known_alias (lookup name known)
alias_at known (entry_value ws k) name = known_alias (lookup name known)
alias_at known (key_place ws) name = Err BadScalar
alias_at known _ name = Err BadFlow

abbrev pub opened : Bool → Bracket → FlowState → List (Bracket × FlowState) → Bracket
    → Checked Reading
opened good b place outer c =
    may_open place >> Ok (open_in good c (first_place c) ((b, place) ∷ outer))

abbrev pub closed : Bool → ℕ → Bool → Bracket → FlowState → List (Bracket × FlowState) → Bracket
    → Checked Reading
closed poor line good b place outer c =
    closed_by poor line place >>= λ v. ends_with b (Some c) >> into (v, good) outer

abbrev pub first_reading : Bracket → Reading
first_reading b = open_in true b (first_place b) []

abbrev pub ended : Reading → Checked Value
ended r = flow_end r >>= merged_well

-- the key is new among these, or merges
abbrev pub is_new : List Written → Key → Bool
is_new ws k = k.merges || not (has_key k.name (explicit_keys ws))

-- the value of a collection, read from left to right, or what stands for it
abbrev pub formed_flow : Bool → Anchors → ℕ → Bracket → List Token → Checked Value
formed_flow poor known line b tokens = flow_steps poor known line (first_reading b) tokens >>= ended
