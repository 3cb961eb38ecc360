-- What the answer says of the lines.
use Rattle.std.proofs.Common.{◌≡◌, ℕ, zero, suc, ◌≤◌, Bool, false, List, [], ◌∷◌, take}
use Rattle.std.proofs.Common.{Result, Ok, Err, sym, ap, ◌∙◌, subst, arith}
use Rattle.std.specs.Prelude.{min, not, IfOk, IfErr}
use Rattle.rvs_base.specs.Answers.{AnswersAs, IfRefused}
use Rattle.rvs_base.specs.declared.fault.Fault.{Fault}
use Rattle.rvs_tree.specs.Data.{Data, depth}
use Rattle.rvs_tree.specs.TreeView.{view}
use Rattle.rvs_tree.specs.declared.tree.Tree.{Tree}
use Rattle.rvs_tree.specs.Value.{Value}
use Rattle.rvs_yaml.specs.Checks.{Checked, ◌>>=◌, ◌>>◌, check}
use Rattle.rvs_yaml.specs.Parsed.{answer, within_limits, HasTree, IsTreeOf, IsFirstFault, Tells}
use Rattle.rvs_yaml.specs.Parsed.{KeepsNodes, FrontsHaveTrees}
use Rattle.rvs_yaml.specs.Refusing.{refusal_view}
use Rattle.rvs_yaml.specs.declared.refusal.YamlRefusal.{YamlRefusal}
use Rattle.rvs_yaml_text.specs.Text.{lines_of}
use Rattle.rvs_yaml_text.specs.declared.kind.YamlKind.{YamlKind}
use Rattle.rvs_yaml.proofs.Least.{answers_are_least}

pub tree-told : (bytes : List ℕ) (d : Data) → answer bytes ≡ Ok d → IsTreeOf (lines_of bytes) d
tree-told bytes d e = subst (Tells (lines_of bytes)) e (answers_are_least bytes)

fault-told : (bytes : List ℕ) (line : ℕ) (kind : YamlKind) → answer bytes ≡ Err (line, kind)
    → IsFirstFault (lines_of bytes) line kind
fault-told bytes line kind e = subst (Tells (lines_of bytes)) e (answers_are_least bytes)

-- what an answer says of the lines, from what it says of the bytes
pub read-tree : {P : Data → Type 0} (bytes : List ℕ) (r : Result Tree (Fault YamlRefusal))
    → AnswersAs view refusal_view r (answer bytes)
    → ((d : Data) → answer bytes ≡ Ok d → P d) → IfOk r (λ t. P (view t))
read-tree bytes (Ok t) is told = told (view t) is
read-tree bytes (Err fault) is told = tt

pub read-refused : (bytes : List ℕ) (r : Result Tree (Fault YamlRefusal))
    → AnswersAs view refusal_view r (answer bytes)
    → IfErr r (λ fault. IfRefused fault (λ e. IsFirstFault (lines_of bytes) e.line e.kind))
read-refused bytes (Ok t) is = tt
read-refused bytes (Err fault) is = λ e same. fault-told bytes e.line e.kind (is e same)

-- what a check that holds says
checked : (b : Bool) (kind : YamlKind) → check (not b) kind ≡ Ok tt → b ≡ false
checked b kind h = grind arith

both : (m n : Checked (Unit {0})) → (m >> n) ≡ Ok tt → (m ≡ Ok tt) × (n ≡ Ok tt)
both m n h = grind arith

-- the value of lines that have this tree
record Kept (m : Checked Value) (tree : Data) : Type 0 where
  value : Value
  is : m ≡ Ok value
  same : value.tree ≡ tree
  shallow : depth tree ≤ 32
  few : value.nodes ≤ 500000

kept-by : (m : Checked Value) (tree : Data) → (m >>= λ v. within_limits v >> Ok v.tree) ≡ Ok tree
    → Kept m tree
kept-by m tree h = grind arith

pub tree-shallow : (bytes : List ℕ) (d : Data) → answer bytes ≡ Ok d → depth d ≤ 32
tree-shallow bytes d e = grind (arith, kept-by, tree-told)

pub tree-few : (bytes : List ℕ) (d : Data) → answer bytes ≡ Ok d → KeepsNodes (lines_of bytes) d
tree-few bytes d e = grind (arith, kept-by, tree-told)

-- what holds of an Ok from what else holds of it
pub if_ok : {X E : Type 0} (r : Result X E) (P Q : X → Type 0) → ((x : X) → P x → Q x) → IfOk r P
    → IfOk r Q
if_ok h e = grind arith

take_nil : (n : ℕ) → take n (let none : List (List ℕ) = [] in none) ≡ []
take_nil n = grind arith

take-take : (lines : List (List ℕ)) (n m : ℕ) → take n (take m lines) ≡ take (min n m) lines
take-take [] n m = ap (take n) (take_nil m) ∙ take_nil n ∙ sym (take_nil (min n m))
take-take (l ∷ ls) zero m = let none : 0 ≡ min 0 m = omega arith in ap (λ k. take k (l ∷ ls)) none
take-take (l ∷ ls) (suc n) zero = grind arith
take-take (l ∷ ls) (suc n) (suc m) =
    let one : suc (min n m) ≡ min (suc n) (suc m) = omega arith in
    ap (λ k. l ∷ k) (take-take ls n m) ∙ ap (λ k. take k (l ∷ ls)) one

front-tree : (lines : List (List ℕ)) (tree : Data) → IsTreeOf lines tree → (m : ℕ)
    → HasTree (take m lines) → (d : Data) × IsTreeOf (take m lines) d
front-tree lines tree h m (d, e) = (
  d,
  record {
    fronts = λ n. subst HasTree (sym (take-take lines n m)) (h.fronts (min n m));
    whole = e;
  },
)

pub fronts-have-trees : FrontsHaveTrees
fronts-have-trees lines tree h m = front-tree lines tree h m (h.fronts m)
