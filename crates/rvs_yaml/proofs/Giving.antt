-- Results against checks that go on.
use Rattle.std.proofs.Common.{◌≡◌, List, Result, Err, ap, subst, ◌∙◌, sym, arith}
use Rattle.rvs_base.specs.declared.fault.Fault.{Fault}
use Rattle.rvs_base.specs.declared.fault.Fault.TheVariants.{Refused}
use Rattle.rvs_yaml.specs.Checks.{Checked, ◌>>=◌}
use Rattle.rvs_yaml.specs.Gives.{Decides, Gives, Fails}
use Rattle.rvs_yaml.specs.Reader.{kept, Passes, RefusesFront, DeniesFront}
use Rattle.rvs_tree.specs.Value.{Value}
use Rattle.rvs_yaml.specs.Stack.{Open}
use Rattle.rvs_yaml_text.specs.declared.kind.YamlKind.{YamlKind}

pub fails_to : {A B : Type 0} (fault : Fault YamlKind) (m : Checked A) (t : Checked B)
    → ((kind : YamlKind) → m ≡ Err kind → t ≡ Err kind) → Fails fault m → Fails fault t
fails_to fault m = grind arith

-- what fails at first fails as a whole
pub fails_first : {A B : Type 0} (fault : Fault YamlKind) (m : Checked A) (f : A → Checked B)
    (t : Checked B) → (m >>= f) ≡ t → Fails fault m → Fails fault t
fails_first fault m f t e h = fails_to fault m t (λ kind is. sym e ∙ ap (λ n. n >>= f) is) h

pub gives_same : {X Y : Type 0} (see : X → Y) (r : Result X (Fault YamlKind)) (m t : Checked Y)
    → m ≡ t → Gives see r m → Gives see r t
gives_same see h = grind arith

pub fails_with : {A : Type 0} (kind : YamlKind) (m : Checked A) → m ≡ Err kind
    → Fails (Refused kind) m
fails_with kind m is = is

-- a function that takes no memory, in one that does
pub decides_gives : {X Y : Type 0} (see : X → Y) (r : Result X (Fault YamlKind)) (m t : Checked Y)
    → m ≡ t → Decides see r m → Gives see r t
decides_gives see h = grind arith

pub refuses_denies : (r : Result (Unit {0}) (Fault YamlKind)) (m : Checked Value)
    → RefusesFront r m → DeniesFront r m
refuses_denies r m h = grind arith

pub passes_same : {X : Type 0} (see : X → List Open) (r : Result X (Fault YamlKind))
    (m t : Checked (List Open)) → m ≡ t → Passes see r m → Passes see r t
passes_same see r m t e h = subst (Passes see r) e h

pub gives_passes : {X : Type 0} (see : X → List Open) (r : Result X (Fault YamlKind))
    (m t : Checked (List Open)) → m ≡ t → Gives see r m → Passes see r t
gives_passes see h = grind arith

-- what fails at first fails in the end
pub fails_kept : (fault : Fault YamlKind) (m t : Checked (List Open))
    (f : List Open → Checked (List Open)) → (m >>= f) ≡ t → Fails fault m
    → Fails fault (t >>= kept)
fails_kept fault m t f e h = grind (arith, fails_to)
