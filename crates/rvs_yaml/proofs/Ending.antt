-- What the reader answers at its end.
use Rattle.std.proofs.Common.{◌≡◌, ℕ, Bool, List, Option, None, Ok, Err, refl, ap, ◌∙◌}
use Rattle.std.specs.Borrow.{Bor}
use Rattle.rvs_base.specs.Answers.{IfRefused}
use Rattle.rvs_base.specs.declared.fault.Fault.{Fault}
use Rattle.rvs_base.specs.declared.fault.Fault.TheVariants.{Refused, NoMemory}
use Rattle.rvs_yaml.specs.Checks.{Checked, ◌>>=◌}
use Rattle.rvs_tree.specs.Data.{Data}
use Rattle.rvs_tree.specs.Value.{Value}
use Rattle.rvs_yaml.specs.Stack.{Open}
use Rattle.rvs_yaml.specs.Front.{front_value}
use Rattle.rvs_yaml.specs.Parsed.{Parsed, answer}
use Rattle.rvs_yaml.specs.Reader.{whole}
use Rattle.rvs_yaml.specs.Refusing.{at_line, refusal_view}
use Rattle.rvs_yaml.specs.Gives.{Fails}
use Rattle.rvs_yaml_text.specs.declared.kind.YamlKind.{YamlKind}
use Rattle.rvs_yaml.specs.declared.refusal.YamlRefusal.{YamlRefusal}
use Rattle.rvs_yaml.proofs.Answering.{Reads, Reads-end}

pub refused-line : {A : Type 0} (told : Fault YamlRefusal) (fault : Fault YamlKind) (n : ℕ)
    (a : Parsed) (m : Checked A) → told ≡ at_line n fault
    → ((kind : YamlKind) → m ≡ Err kind → a ≡ Err (n, kind)) → Fails fault m
    → IfRefused told (λ r. a ≡ Err (refusal_view r))
refused-line told (Refused kind) n a m is to h = λ r same.
    let e : record { line = n; kind = kind } ≡ r = cc in
    to kind h ∙ ap (λ (x : YamlRefusal). Err (refusal_view x)) e
refused-line told NoMemory n a m is to h = λ r same. cc

abbrev good_answer : Data → Parsed
good_answer d = Ok d

whole-by : (bytes : List ℕ) (number : ℕ) (started : Bool) (blocks : List Open)
    (rest : Option (Bor (List ℕ))) (d : Data) (m : Checked Value) → Reads bytes number started
    blocks rest → rest ≡ None → front_value blocks ≡ m
    → (m >>= λ v. let r : Checked Data = Ok v.tree in r) ≡ Ok d → answer bytes ≡ Ok d
whole-by bytes number started blocks rest d (Ok v) h is e k = let same : v.tree ≡ d = cc in
    Reads-end bytes number started blocks rest v h is e ∙ ap good_answer same
whole-by bytes number started blocks rest d (Err x) h is e k = cc

pub Reads-whole : (bytes : List ℕ) (number : ℕ) (started : Bool) (blocks : List Open)
    (rest : Option (Bor (List ℕ))) (d : Data) → Reads bytes number started blocks rest → rest ≡ None
    → whole blocks ≡ Ok d → answer bytes ≡ Ok d
Reads-whole bytes number started blocks rest d h is k =
    whole-by bytes number started blocks rest d (front_value blocks) h is refl k
