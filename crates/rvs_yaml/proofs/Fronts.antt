-- The value of the open blocks is what closing them gives.
use Rattle.std.proofs.Common.{◌≡◌, ℕ, Bool, List, [], ◌∷◌, Ok}
use Rattle.std.proofs.Common.{sym, ap, ◌∙◌, arith, rules}
use Rattle.std.specs.Prelude.{if◌then◌else◌}
use Rattle.rvs_yaml.specs.Checks.{Checked, ◌>>=◌}
use Rattle.rvs_tree.specs.Value.{Value}
use Rattle.rvs_yaml_text.specs.Word.{Name}
use Rattle.rvs_yaml.specs.Block.{Found, found, named}
use Rattle.rvs_yaml.specs.Anchors.{Anchors}
use Rattle.rvs_yaml.specs.Stack.{Done, Open, own_found}
use Rattle.rvs_yaml.specs.Stack.{noted}
use Rattle.rvs_yaml.proofs.InOrder as exact
use Rattle.rvs_yaml.specs.StepParts.{closed_value}
use Rattle.rvs_yaml.specs.Front.{own_value, ends, front_value}
use Rattle.rvs_yaml.proofs.Outlined.{bind_assoc, bind_same}

abbrev pub value_of : Found Value → Checked Value
value_of g = Ok g.value

noted-by : (t : Bool) (n : List ℕ) (g : Found Value)
    → (if t then g else found g.value ((n, g.value) ∷ g.anchors)).value ≡ g.value
noted-by t n g = grind arith

pub noted-value : (name : Name) (g : Found Value) → (noted name g).value ≡ g.value
noted-value name g = grind arith

pub own-value : (b : Open) → (own_found b).value ≡ own_value b
own-value b = simp noted-value

-- WITH THE ANCHORS IN THE ORDER OF THE DEFINITION
exact-value : (dn : Done) (line : ℕ) (anchors : Anchors) (g : Found Value)
    → (exact.closed_as dn line anchors g >>= value_of) ≡ closed_value dn line g.value
exact-value dn line anchors g = grind arith

named-value : (name : Name) (g : Found Value) → (named name g).value ≡ g.value
named-value name g = grind arith

ends-one : (m : Checked Value) → m ≡ (m >>= λ w. let r : Checked Value = Ok w in r)
ends-one m = grind arith

bind_values : {A : Type 0} (m : Checked (Found Value)) (f : Value → Checked A)
    → ((m >>= value_of) >>= f) ≡ (m >>= λ g. f g.value)
bind_values = grind arith

unwound-ends : (g : Found Value) (b : Open) (bs : List Open)
    → (exact.unwound g b bs >>= value_of) ≡ ends g.value (b ∷ bs)
unwound-ends g b [] = grind (arith, exact-value, ends-one)
unwound-ends g b (outer ∷ bs) =
    bind_assoc (exact.closed_into b g outer.head.anchor) _ _
    ∙ bind_assoc (exact.closed b g) _ _
    ∙ bind_same (exact.closed b g) _ _ (λ h. unwound-ends (named outer.head.anchor h) outer bs
    ∙ ap (λ v. ends v (outer ∷ bs)) (named-value outer.head.anchor h))
    ∙ sym (bind_values (exact.closed b g) (λ v. ends v (outer ∷ bs)))
    ∙ ap (λ m. m >>= λ w. ends w (outer ∷ bs)) (exact-value b.done b.line b.anchors g)

pub finished-front : (bs : List Open) → (exact.finished bs >>= value_of) ≡ front_value bs
finished-front bs = search (rules, unwound-ends, named-value)
