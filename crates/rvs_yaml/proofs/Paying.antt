-- Refusing a line for its front before the value of its flow collection is made.
use Rattle.std.proofs.Common.{◌≡◌, false, List, ◌∷◌, ◌++◌, Some, Result}
use Rattle.std.proofs.Common.{Ok, Err, arith}
use Rattle.rvs_base.specs.Answers.{seen}
use Rattle.rvs_base.specs.declared.fault.Fault.{Fault}
use Rattle.rvs_tree.specs.Value.{Value}
use Rattle.rvs_tree.specs.Standin.{standin}
use Rattle.rvs_yaml_text.specs.Word.{Bracket, Token, opens_block}
use Rattle.rvs_yaml.specs.Checks.{Checked, ◌>>=◌}
use Rattle.rvs_yaml.specs.Flow.{flow_value}
use Rattle.rvs_yaml.specs.Stack.{Open, known_of}
use Rattle.rvs_yaml.specs.Filling.{filled}
use Rattle.rvs_yaml.specs.Front.{ends}
use Rattle.rvs_yaml.specs.Reader.{kept, DeniesFront, Denies}
use Rattle.rvs_yaml.specs.Gives.{Fails}
use Rattle.rvs_yaml_text.specs.declared.kind.YamlKind.{YamlKind}
use Rattle.rvs_yaml.proofs.Giving.{fails_to}

-- a value is there where what stands for it is
pub stood-for : (m : Checked Value) (thin : Value) → seen standin m ≡ Ok thin
    → (v : Value) × (m ≡ Ok v) × (thin ≡ standin v)
stood-for m thin h = grind arith

stood-err : (m : Checked Value) (kind : YamlKind) → seen standin m ≡ Err kind → m ≡ Err kind
stood-err m kind h = grind arith

pub denied-flow : (o : Open) (bs : List Open) (b : Bracket) (ts : List Token)
    (fault : Fault YamlKind)
    → Fails fault (seen standin (flow_value (o.anchors ++ known_of bs) o.head.line b ts))
    → Fails fault (filled (Some (b, ts)) (o ∷ bs) >>= kept)
denied-flow o bs b ts fault h = grind (arith, fails_to, stood-err)

denied-by : (r : Result (Unit {0}) (Fault YamlKind)) (o : Open) (bs : List Open) (b : Bracket)
    (ts : List Token) (v : Value) → opens_block o.head.sort ≡ false → flow_value
    (o.anchors ++ known_of bs) o.head.line b ts ≡ Ok v →
    DeniesFront r (ends v (o ∷ bs)) → Denies r (filled (Some (b, ts)) (o ∷ bs))
denied-by r o bs b ts v leaf e h = grind arith

denied-one : (r : Result (Unit {0}) (Fault YamlKind)) (o : Open) (bs : List Open) (b : Bracket)
    (ts : List Token) (thin : Value) → opens_block o.head.sort ≡ false →
    ((v : Value) → flow_value (o.anchors ++ known_of bs) o.head.line b ts ≡ Ok v → thin ≡ standin v
    → DeniesFront r (ends v (o ∷ bs))) →
    ((v : Value) × (flow_value (o.anchors ++ known_of bs) o.head.line b ts ≡ Ok v)
    × (thin ≡ standin v)) → Denies r (filled (Some (b, ts)) (o ∷ bs))
denied-one r o bs b ts thin leaf f (v, e, s) = denied-by r o bs b ts v leaf e (f v e s)

pub denied-front : (r : Result (Unit {0}) (Fault YamlKind)) (o : Open) (bs : List Open)
    (b : Bracket)
    (ts : List Token) (thin : Value) → opens_block o.head.sort ≡ false →
    seen standin (flow_value (o.anchors ++ known_of bs) o.head.line b ts) ≡ Ok thin →
    ((v : Value) → flow_value (o.anchors ++ known_of bs) o.head.line b ts ≡ Ok v → thin ≡ standin v
    → DeniesFront r (ends v (o ∷ bs))) → Denies r (filled (Some (b, ts)) (o ∷ bs))
denied-front r o bs b ts thin leaf e f = grind (arith, denied-one, stood-for)
