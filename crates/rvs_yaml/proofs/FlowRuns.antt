-- Reading a flow collection from left to right gives its value.
use Rattle.std.proofs.Common.{◌≡◌, ℕ, Bool, true, false, List, [], ◌∷◌, ◌++◌, Some, Ok, Err, refl}
use Rattle.std.proofs.Common.{sym, ap, ◌∙◌, arith}
use Rattle.std.specs.Prelude.{◌&&◌}
use Rattle.rvs_tree.specs.Value.{Value, Written}
use Rattle.rvs_yaml.specs.Anchors.{Anchors}
use Rattle.rvs_yaml_text.specs.Word.{Bracket, Token, opening, closing, comma, colon, scalar_token}
use Rattle.rvs_yaml_text.specs.Word.{key_token, cut_key, colon_scalar, alias_token, late_colon}
use Rattle.rvs_yaml_text.specs.Word.{fault}
use Rattle.rvs_yaml.specs.Checks.{Checked, ◌>>=◌, ◌>>◌}
use Rattle.rvs_yaml.specs.Flow.{Nest, none, one, group, inside, ending, behind, nest, FlowState}
use Rattle.rvs_yaml.specs.Flow.{first_place}
use Rattle.rvs_yaml.specs.Flow.{with_value, with_token, may_open, closes, ends_with, fits}
use Rattle.rvs_yaml.specs.Flow.{last_fits, entry_fits, collection, only_end, merged_well}
use Rattle.rvs_yaml.specs.Flow.{flow_value}
use Rattle.rvs_yaml.specs.FlowSteps.{Reading, open_in, whole, into, moved, flow_step, flow_steps}
use Rattle.rvs_yaml.specs.FlowSteps.{flow_end}
use Rattle.rvs_yaml_text.specs.declared.kind.YamlKind.TheVariants.{BadFlow}
use Rattle.rvs_yaml.specs.FlowParts.{first_reading, ended}
use Rattle.rvs_yaml.proofs.Outlined.{bind_assoc, bind_same, then_assoc, then_same}

-- what becomes of the open collections with more tokens
abbrev behind_whole : Value × Bool → Nest → Checked (Value × Bool)
behind_whole v n = only_end n >> Ok v

abbrev resumed : Anchors → ℕ → Bool → Bracket → FlowState → List (Bracket × FlowState) → Nest
    → Checked (Value × Bool)
resumed known line good b place [] n = collection known line good place (inside n)
    >>= λ v. ends_with b (ending n) >> behind_whole v (behind n)
resumed known line good b place (o ∷ outer) n =
    collection known line good place (inside n) >>= λ v. ends_with b (ending n) >>
    (with_value o.1 v.0
    >>= λ next. resumed known line (v.1 && fits next) o.0 next outer (behind n))

abbrev going : Anchors → ℕ → Reading → Nest → Checked (Value × Bool)
going known line (open_in good b place outer) n = resumed known line good b place outer n
going known line (whole v) n = behind_whole v n

-- what stands behind the collection on top
rest_of : Anchors → ℕ → List (Bracket × FlowState) → Nest → Value × Bool → Checked (Value × Bool)
rest_of known line [] n v = behind_whole v n
rest_of known line (o ∷ outer) n v =
    with_value o.1 v.0 >>= λ next. resumed known line (v.1 && fits next) o.0 next outer n

resumed-rest : (known : Anchors) (line : ℕ) (good : Bool) (b : Bracket) (place : FlowState)
    (outer : List (Bracket × FlowState)) (n : Nest) →
    resumed known line good b place outer n ≡ (collection known line good place (inside n)
    >>= λ v. ends_with b (ending n) >> rest_of known line outer (behind n) v)
unfolding rest_of
resumed-rest known line good b place [] n = refl
resumed-rest known line good b place (o ∷ outer) n = refl

into-rest : (known : Anchors) (line : ℕ) (v : Value × Bool) (outer : List (Bracket × FlowState))
    (n : Nest) → rest_of known line outer n v ≡ (into v outer >>= λ r. going known line r n)
unfolding rest_of
into-rest known line v [] n = refl
into-rest known line v (o ∷ outer) n = sym (bind_assoc (with_value o.1 v.0) _ _)

close-going : (known : Anchors) (line : ℕ) (good : Bool) (b c : Bracket) (place : FlowState)
    (outer : List (Bracket × FlowState)) (n : Nest) →
    resumed known line good b place outer (one (closing c) n)
    ≡ (flow_step false known line (open_in good b place outer) (closing c)
    >>= λ r. going known line r n)
close-going known line good b c place outer n =
    resumed-rest known line good b place outer (one (closing c) n)
    ∙ bind_assoc (closes line place) _ _
    ∙ bind_same (closes line place) _ _
    (λ v. then_same (ends_with b (Some c)) _ _ (into-rest known line (v, good) outer n)
    ∙ sym (then_assoc (ends_with b (Some c)) _ _))
    ∙ sym (bind_assoc (closes line place) _ _)

token-going : (known : Anchors) (line : ℕ) (good : Bool) (b : Bracket)
    (outer : List (Bracket × FlowState)) (m : Checked FlowState) (n : Nest) →
    ((m >>= λ next. collection known line (good && fits next) next (inside n))
    >>= λ v. ends_with b (ending n) >> rest_of known line outer (behind n) v)
    ≡ (moved good b outer m >>= λ r. going known line r n)
token-going known line good b outer m n =
    bind_assoc m _ _
    ∙ bind_same m _ _ (λ next. sym (resumed-rest known line (good && fits next) b next outer n))
    ∙ sym (bind_assoc m _ _)

open-going : (known : Anchors) (line : ℕ) (good : Bool) (b c : Bracket) (place : FlowState)
    (outer : List (Bracket × FlowState)) (n : Nest) →
    resumed known line good b place outer (group c (inside n) (ending n) (behind n))
    ≡ (flow_step false known line (open_in good b place outer) (opening c)
    >>= λ r. going known line r n)
open-going known line good b c place outer n =
    resumed-rest known line good b place outer (group c (inside n) (ending n) (behind n))
    ∙ then_assoc (may_open place) _ _
    ∙ then_same (may_open place) _ _ (
    bind_assoc (collection known line good (first_place c) (inside n)) _ _
    ∙ bind_same (collection known line good (first_place c) (inside n)) _ _ (λ v.
    then_assoc (ends_with c (ending n)) _ _
    ∙ then_same (ends_with c (ending n)) _ _ (bind_assoc (with_value place v.0) _ _ ∙ bind_same
    (with_value place v.0) _ _
    (λ next. sym (resumed-rest known line (v.1 && fits next) b next outer (behind n))))))
    ∙ sym (then_assoc (may_open place) _ _)

step-going : (known : Anchors) (line : ℕ) (r : Reading) (m : Token) (ms : List Token)
    → going known line r (nest (m ∷ ms))
    ≡ (flow_step false known line r m >>= λ s. going known line s (nest ms))
step-going known line (open_in good b place outer) (opening c) ms = simp open-going
step-going known line (open_in good b place outer) (closing c) ms = simp close-going
step-going known line (open_in good b place outer) comma ms =
    resumed-rest known line good b place outer _
    ∙ token-going known line good b outer (with_token known line place comma) (nest ms)
step-going known line (open_in good b place outer) colon ms =
    resumed-rest known line good b place outer _
    ∙ token-going known line good b outer (with_token known line place colon) (nest ms)
step-going known line (open_in good b place outer) (scalar_token k) ms =
    resumed-rest known line good b place outer _
    ∙ token-going known line good b outer (with_token known line place (scalar_token k)) (nest ms)
step-going known line (open_in good b place outer) (key_token k) ms =
    resumed-rest known line good b place outer _
    ∙ token-going known line good b outer (with_token known line place (key_token k)) (nest ms)
step-going known line (open_in good b place outer) (cut_key k) ms =
    resumed-rest known line good b place outer _
    ∙ token-going known line good b outer (with_token known line place (cut_key k)) (nest ms)
step-going known line (open_in good b place outer) (colon_scalar k) ms =
    resumed-rest known line good b place outer _
    ∙ token-going known line good b outer (with_token known line place (colon_scalar k)) (nest ms)
step-going known line (open_in good b place outer) (alias_token k) ms =
    resumed-rest known line good b place outer _
    ∙ token-going known line good b outer (with_token known line place (alias_token k)) (nest ms)
step-going known line (open_in good b place outer) (fault k) ms =
    resumed-rest known line good b place outer _
    ∙ token-going known line good b outer (with_token known line place (fault k)) (nest ms)
step-going known line (open_in good b place outer) late_colon ms =
    resumed-rest known line good b place outer _
    ∙ token-going known line good b outer (with_token known line place late_colon) (nest ms)
step-going known line (whole v) (opening c) ms = refl
step-going known line (whole v) (closing c) ms = refl
step-going known line (whole v) comma ms = refl
step-going known line (whole v) colon ms = refl
step-going known line (whole v) (scalar_token k) ms = refl
step-going known line (whole v) (key_token k) ms = refl
step-going known line (whole v) (cut_key k) ms = refl
step-going known line (whole v) (colon_scalar k) ms = refl
step-going known line (whole v) (alias_token k) ms = refl
step-going known line (whole v) (fault k) ms = refl
step-going known line (whole v) late_colon ms = refl

no_end : {A : Type 0} (line : ℕ) (good : Bool) (place : FlowState)
    → ((closes line place >>= λ v. let r : Checked (Value × Bool) = Ok (v, good) in r)
    >>= λ v. let r : Checked A = Err BadFlow in r) ≡ Err BadFlow
no_end = grind arith

end-going : (known : Anchors) (line : ℕ) (r : Reading) → going known line r none ≡ flow_end r
end-going known line (open_in good b place []) = no_end line good place
end-going known line (open_in good b place (o ∷ outer)) = no_end line good place
end-going known line (whole v) = refl

steps-going : (known : Anchors) (line : ℕ) (ms : List Token) (r : Reading)
    → going known line r (nest ms) ≡ (flow_steps false known line r ms >>= flow_end)
steps-going known line [] r = end-going known line r
steps-going known line (m ∷ ms) r =
    step-going known line r m ms
    ∙ bind_same (flow_step false known line r m) _ _ (λ s. steps-going known line ms s)
    ∙ sym (bind_assoc (flow_step false known line r m) _ _)

-- Reading the tokens from left to right gives the value of the collection.
pub flow_value-steps : (known : Anchors) (line : ℕ) (b : Bracket) (ms : List Token) →
    flow_value known line b ms
    ≡ ((flow_steps false known line (open_in true b (first_place b) []) ms >>= flow_end)
    >>= merged_well)
flow_value-steps known line b ms =
    ap (λ m. m >>= merged_well) (steps-going known line ms (open_in true b (first_place b) []))

pub flow-ended : (known : Anchors) (line : ℕ) (b : Bracket) (ms : List Token)
    → flow_value known line b ms ≡ (flow_steps false known line (first_reading b) ms >>= ended)
flow-ended known line b ms = simp (flow_value-steps, bind_assoc)

pub last_fits-push : (ws : List Written) (w : Written) → last_fits (ws ++ w ∷ []) ≡ entry_fits w
last_fits-push [] w = refl
last_fits-push (u ∷ []) w = refl
last_fits-push (u ∷ x ∷ ws) w = last_fits-push (x ∷ ws) w
