-- Reading a flow collection from left to right, with the collections that are open.
use Rattle.std.specs.Prelude.{ℕ, Bool, true, false, ◌&&◌, List, [], ◌∷◌, Some, Ok, Err}
use Rattle.rvs_tree.specs.Value.{Value}
use Rattle.rvs_tree.specs.Standin.{standin}
use Rattle.rvs_yaml.specs.Checks.{Checked, ◌>>=◌, ◌>>◌}
use Rattle.rvs_yaml_text.specs.Word.{Bracket, Token, opening, closing, late_colon}
use Rattle.rvs_yaml.specs.Anchors.{Anchors}
use Rattle.rvs_yaml.specs.Flow.{FlowState, first_place, with_value, with_token, may_open, closes}
use Rattle.rvs_yaml.specs.Flow.{ends_with, fits}
use Rattle.rvs_yaml_text.specs.declared.kind.YamlKind.TheVariants.{BadFlow, Unsupported}

pub data Reading : Type 0 where
  open_in : Bool → Bracket → FlowState → List (Bracket × FlowState) → Reading
  whole : Value × Bool → Reading

-- The value of a collection that ends, or, where poor values serve, what stands for it.
abbrev pub closed_by : Bool → ℕ → FlowState → Checked Value
closed_by false line place = closes line place
closed_by true line place = closes line place >>= λ v. Ok (standin v)

abbrev pub into : Value × Bool → List (Bracket × FlowState) → Checked Reading
into v [] = Ok (whole v)
into v (o ∷ outer) = with_value o.1 v.0 >>= λ next. Ok (open_in (v.1 && fits next) o.0 next outer)

abbrev pub moved : Bool → Bracket → List (Bracket × FlowState) → Checked FlowState → Checked Reading
moved good b outer place = place >>= λ next. Ok (open_in (good && fits next) b next outer)

abbrev pub flow_step : Bool → Anchors → ℕ → Reading → Token → Checked Reading
flow_step poor known line (open_in good b place outer) (opening c) =
    may_open place >> Ok (open_in good c (first_place c) ((b, place) ∷ outer))
flow_step poor known line (open_in good b place outer) (closing c) =
    closed_by poor line place >>= λ v. ends_with b (Some c) >> into (v, good) outer
flow_step poor known line (open_in good b place outer) m =
    moved good b outer (with_token known line place m)
flow_step poor known line (whole v) late_colon = Err Unsupported
flow_step poor known line (whole v) m = Err BadFlow

abbrev pub flow_steps : Bool → Anchors → ℕ → Reading → List Token → Checked Reading
flow_steps poor known line r [] = Ok r
flow_steps poor known line r (m ∷ ms) =
    flow_step poor known line r m >>= λ s. flow_steps poor known line s ms

abbrev pub flow_end : Reading → Checked (Value × Bool)
flow_end (whole v) = Ok v
flow_end (open_in good b place outer) = Err BadFlow
