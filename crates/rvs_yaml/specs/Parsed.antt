-- The answer for a text: its tree, or the first line at which the lines so far have none, with the
-- kind of the first check that fails there.
use Rattle.std.specs.Prelude.{◌≡◌, ℕ, ◌<◌, ◌≤◌, false, nat_lt, not, List, [], ◌∷◌, ◌++◌, length}
use Rattle.std.specs.Prelude.{take, Result, Ok, Err}
use Rattle.rvs_tree.specs.Data.{Data, depth}
use Rattle.rvs_tree.specs.Value.{Value}
use Rattle.rvs_yaml.specs.Checks.{Checked, ◌>>=◌, ◌>>◌, check}
use Rattle.rvs_yaml.specs.Block.{tree_of}
use Rattle.rvs_yaml_text.specs.Text.{lines_of, words_of}
use Rattle.rvs_yaml_text.specs.declared.kind.YamlKind.{YamlKind}
use Rattle.rvs_yaml_text.specs.declared.kind.YamlKind.TheVariants.{TooDeep, TooManyNodes}

-- the limits on depth and on the number of nodes
abbrev pub within_limits : Value → Checked (Unit {0})
within_limits v = do
  check (not (nat_lt 32 (depth v.tree))) TooDeep
  check (not (nat_lt 500000 v.nodes)) TooManyNodes

-- the tree of these lines
abbrev pub front : List (List ℕ) → Checked Data
front lines = tree_of (words_of 1 false lines) >>= λ v. within_limits v >> Ok v.tree

abbrev pub Parsed : Type 0
Parsed = Result Data (ℕ × YamlKind)

abbrev pub at_end : ℕ → Checked Data → Parsed
at_end line (Err kind) = Err (line, kind)
at_end line (Ok d) = Ok d

-- The lines in done have a tree: one line more, and then one more.
abbrev pub answer_after : List (List ℕ) → List (List ℕ) → Parsed
answer_after done [] = at_end (length done) (front done)
answer_after done (l ∷ ls) = elim (front (done ++ l ∷ [])) [
  | Err kind ↦ Err (length (done ++ l ∷ []), kind)
  | Ok d ↦ answer_after (done ++ l ∷ []) ls
]

abbrev pub answer : List ℕ → Parsed
answer bytes = answer_after [] (lines_of bytes)

abbrev pub HasTree : List (List ℕ) → Type 0
HasTree lines = (d : Data) × (front lines ≡ Ok d)

-- each shorter front has a tree, and this one has none
pub record IsFirstFault (lines : List (List ℕ)) (line : ℕ) (kind : YamlKind) : Type 0 where
  pub before : (m : ℕ) → m < line → HasTree (take m lines)
  pub fault : front (take line lines) ≡ Err kind

-- the lines have this tree, and each front has one
pub record IsTreeOf (lines : List (List ℕ)) (tree : Data) : Type 0 where
  pub fronts : (m : ℕ) → HasTree (take m lines)
  pub whole : front lines ≡ Ok tree

abbrev pub Tells : List (List ℕ) → Parsed → Type 0
Tells lines (Ok tree) = IsTreeOf lines tree
Tells lines (Err refusal) = IsFirstFault lines refusal.0 refusal.1

-- the lines have a value with this tree, for which at most 500,000 nodes count
abbrev pub KeepsNodes : List (List ℕ) → Data → Type 0
KeepsNodes lines tree =
    (v : Value) × (tree_of (words_of 1 false lines) ≡ Ok v) × (v.tree ≡ tree) × (v.nodes ≤ 500000)

-- Where lines have a tree, each front of them has one: a front without a tree has no longer front
-- with one.
abbrev pub FrontsHaveTrees : Type 0
FrontsHaveTrees = (lines : List (List ℕ)) (tree : Data) → IsTreeOf lines tree → (m : ℕ)
    → (d : Data) × IsTreeOf (take m lines) d

-- A text is refused at the least front that has no tree, and has a tree where there is none.
abbrev pub AnswersAreLeast : Type 0
AnswersAreLeast = (bytes : List ℕ) → Tells (lines_of bytes) (answer bytes)
