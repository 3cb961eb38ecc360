-- The tree of a list of words.
use Rattle.std.specs.Prelude.{ℕ, Bool, true, false, not, ◌&&◌, ◌||◌, ◌==◌, if◌then◌else◌, List, []}
use Rattle.std.specs.Prelude.{◌∷◌, ◌++◌, Some, None, Ok, Err}
use Rattle.rvs_tree.specs.Value.{Value, scalar_value, list_value, map_value, Written, has_key}
use Rattle.rvs_tree.specs.Value.{is_mergeable}
use Rattle.rvs_yaml_text.specs.Word.{Key, Content, nothing, text, alias, flow, faulty, Name, Shape}
use Rattle.rvs_yaml_text.specs.Word.{dash, key, leaf, refused, Word, Head, head_of, is_below}
use Rattle.rvs_yaml_text.specs.Word.{sort_of, is_dash, opens_block}
use Rattle.rvs_yaml.specs.Anchors.{Anchors, lookup, known_alias}
use Rattle.rvs_yaml.specs.Entry.{written}
use Rattle.rvs_yaml.specs.Flow.{flow_value}
use Rattle.rvs_yaml.specs.Checks.{Checked, ◌>>=◌, ◌>>◌, check}
use Rattle.rvs_yaml_text.specs.declared.kind.YamlKind.{YamlKind}
use Rattle.rvs_yaml_text.specs.declared.kind.YamlKind.TheVariants.{BadIndent, BadScalar}
use Rattle.rvs_yaml_text.specs.declared.kind.YamlKind.TheVariants.{DuplicateKey, Unsupported}
use Rattle.rvs_yaml_text.specs.declared.kind.YamlKind.TheVariants.{BadMerge}

-- A word, the words below it, and the words after those.
pub data Outline : Type 0 where
  end : Outline
  below : Word → Outline → Outline → Outline

-- the longest front of words below a word, and what follows
abbrev pub children : Head → Outline → Outline
children h end = end
children h (below u inner rest) = if is_below h u then below u inner (children h rest) else end

abbrev pub after : Head → Outline → Outline
after h end = end
after h (below u inner rest) = if is_below h u then after h rest else below u inner rest

abbrev pub outline : List Word → Outline
outline [] = end
outline (w ∷ ws) = below w (children (head_of w) (outline ws)) (after (head_of w) (outline ws))

abbrev pub is_end : Outline → Bool
is_end end = true
is_end _ = false

-- what was found, and the anchors in it
pub record Found (A : Type 0) : Type 0 where
  pub value : A
  pub anchors : Anchors

abbrev pub found : {A : Type 0} → A → Anchors → Found A
found a anchors = record { value = a; anchors = anchors }

-- a node with its own anchor, which is before those in it
abbrev pub named : Name → Found Value → Found Value
named None g = g
named (Some name) g = found g.value (g.anchors ++ (name, g.value) ∷ [])

-- the value of an alias, behind which at most a comment may stand
abbrev pub alias_value : Anchors → List ℕ → Bool → Checked Value
alias_value known name ended =
    known_alias (lookup name known) >>= λ v. check ended BadScalar >> Ok v

abbrev pub content_value : Anchors → ℕ → Content → Checked Value
content_value known line nothing = Ok (scalar_value [] line)
content_value known line (text bytes) = Ok (scalar_value bytes line)
content_value known line (alias name ended) = alias_value known name ended
content_value known line (flow b tokens) = flow_value known line b tokens
content_value known line (faulty kind) = Err kind

-- the value that a word has by itself, where these anchors are known
abbrev pub own_value : Anchors → ℕ → Shape → Checked Value
own_value known line (dash a) = Ok (scalar_value [] line)
own_value known line (key k a content) = content_value known line content
own_value known line (leaf content) = content_value known line content
own_value known line (refused kind) = Err kind

-- The value of a word, where the words below it are the block inner.
abbrev pub value_over : Value → Head → Outline → Checked (Found Value) → Checked (Found Value)
value_over own h inner block =
    if opens_block h.sort then (block >>= λ g. Ok (named h.anchor g))
    else check (is_end inner) Unsupported >> Ok (named h.anchor (found own []))

abbrev pub value_of : Anchors → Word → Outline → Checked (Found Value) → Checked (Found Value)
value_of known w inner block =
    own_value known w.line w.shape >>= λ own. value_over own (head_of w) inner block

-- the word has no place
abbrev pub no_place : Shape → YamlKind
no_place (refused kind) = kind
no_place _ = BadIndent

-- the word is an item of the list at this column
abbrev pub item_at : ℕ → Word → Checked (Unit {0})
item_at column w = check (is_dash (sort_of w.shape) && w.column == column) (no_place w.shape)

-- nothing stands behind a leaf
abbrev pub only_leaf : Outline → Checked (Unit {0})
only_leaf end = Ok tt
only_leaf (below w inner rest) = Err (no_place w.shape)

-- the word is an entry of the map at this column, and its key is new or merges
abbrev pub key_at : ℕ → List (List ℕ) → ℕ → Shape → Checked Key
key_at column seen at (key k a content) = do
  check (at == column) BadIndent
  check (k.merges || not (has_key k.name seen)) DuplicateKey
  Ok k
key_at column seen at shape = Err (no_place shape)

abbrev pub spelled : Key → List (List ℕ)
spelled k = if k.merges then [] else k.name ∷ []

abbrev pub check_merge : Key → Value → Checked (Unit {0})
check_merge k v = check (not k.merges || is_mergeable v.tree) BadMerge

-- The tree of a block. The first word says whether it is a list, a map or a leaf. No word is an
-- empty scalar.
abbrev mutual
  pub block : Anchors → ℕ → Outline → Checked (Found Value)
  block known line end = Ok (found (scalar_value [] line) [])
  block known line (below w inner rest) = do
    first ← value_of known w inner (block known w.line inner)
    elim w.shape [
      | dash a ↦ items (first.anchors ++ known) w.column rest >>= λ m. Ok
          (found (list_value w.line (first.value ∷ m.value)) (m.anchors ++ first.anchors))
      | key k a content ↦ check_merge k first.value >> (entries (first.anchors ++ known) w.column
          (spelled k) rest >>= λ m. Ok
          (found (map_value w.line (written k first.value ∷ m.value)) (m.anchors ++ first.anchors)))
      | _ ↦ only_leaf rest >> Ok first
    ]

  pub items : Anchors → ℕ → Outline → Checked (Found (List Value))
  items known column end = Ok (found [] [])
  items known column (below w inner rest) = do
    item_at column w
    first ← value_of known w inner (block known w.line inner)
    others ← items (first.anchors ++ known) column rest
    Ok (found (first.value ∷ others.value) (others.anchors ++ first.anchors))

  pub entries : Anchors → ℕ → List (List ℕ) → Outline → Checked (Found (List Written))
  entries known column seen end = Ok (found [] [])
  entries known column seen (below w inner rest) = do
    k ← key_at column seen w.column w.shape
    first ← value_of known w inner (block known w.line inner)
    check_merge k first.value
    others ← entries (first.anchors ++ known) column (seen ++ spelled k) rest
    Ok (found (written k first.value ∷ others.value) (others.anchors ++ first.anchors))

-- the tree of a list of words
abbrev pub tree_of : List Word → Checked Value
tree_of words = block [] 1 (outline words) >>= λ g. Ok g.value
