-- Reading a list of words from its front, with a stack of open blocks.
use Rattle.std.specs.Prelude.{ℕ, Bool, false, ◌||◌, bytes_eq, if◌then◌else◌, List, [], ◌∷◌, ◌++◌}
use Rattle.std.specs.Prelude.{Some, None, Ok, Err}
use Rattle.rvs_tree.specs.Value.{Value, scalar_value, list_value, map_value, Written, explicit_keys}
use Rattle.rvs_yaml.specs.Checks.{Checked, ◌>>=◌, ◌>>◌, check}
use Rattle.rvs_yaml.specs.Block.{Found, found, own_value, no_place, item_at, key_at}
use Rattle.rvs_yaml.specs.Block.{check_merge}
use Rattle.rvs_yaml_text.specs.Word.{Key, Name, Shape, dash, key, leaf, refused, Word, Head}
use Rattle.rvs_yaml_text.specs.Word.{head_of, is_below, opens_block}
use Rattle.rvs_yaml.specs.Anchors.{Anchors}
use Rattle.rvs_yaml.specs.Entry.{written}
use Rattle.rvs_yaml_text.specs.declared.kind.YamlKind.TheVariants.{Unsupported}

-- the members that a block has so far, without the open one
pub data Done : Type 0 where
  done_items : List Value → Done
  done_entries : List Written → Key → Done
  alone : Done

-- An open block: its first line and its column, what it has so far, the anchors in that, its last
-- word and what that is by itself.
pub record Open : Type 0 where
  pub line : ℕ
  pub column : ℕ
  pub done : Done
  pub anchors : Anchors
  pub head : Head
  pub own : Value

abbrev pub begun_done : Shape → Done
begun_done (dash a) = done_items []
begun_done (key k a content) = done_entries [] k
begun_done (leaf content) = alone
begun_done (refused kind) = alone

-- a block that begins with a word
abbrev pub begun : Word → Value → Open
begun w own = record {
  line = w.line;
  column = w.column;
  done = begun_done w.shape;
  anchors = [];
  head = head_of w;
  own = own;
}

-- the anchors that are known above these blocks
abbrev pub known_of : List Open → Anchors
known_of [] = []
known_of (b ∷ bs) = b.anchors ++ known_of bs

abbrev pub begins : List Open → Word → Checked (List Open)
begins bs w = own_value (known_of bs) w.line w.shape >>= λ own. Ok (begun w own ∷ bs)

abbrev pub has_anchor : List ℕ → Anchors → Bool
has_anchor name [] = false
has_anchor name (a ∷ more) = bytes_eq a.0 name || has_anchor name more

-- A node with its own anchor, which is before those in it. One of those that has its name stays the
-- latest.
abbrev pub noted : Name → Found Value → Found Value
noted None g = g
noted (Some name) g =
    if has_anchor name g.anchors then g else found g.value ((name, g.value) ∷ g.anchors)

-- what a word is with nothing below it
abbrev pub own_found : Open → Found Value
own_found b = noted b.head.anchor
    (found (if opens_block b.head.sort then scalar_value [] b.head.line else b.own) [])

-- the members, with the value of the open one
abbrev pub closed_as : Done → ℕ → Anchors → Found Value → Checked (Found Value)
closed_as (done_items vs) line anchors g =
    Ok (found (list_value line (vs ++ g.value ∷ [])) (g.anchors ++ anchors))
closed_as (done_entries ws k) line anchors g = check_merge k g.value >> Ok
    (found (map_value line (ws ++ written k g.value ∷ [])) (g.anchors ++ anchors))
closed_as alone line anchors g = Ok (found g.value (g.anchors ++ anchors))

abbrev pub closed : Open → Found Value → Checked (Found Value)
closed b g = closed_as b.done b.line b.anchors g

-- the members, with the value of the open one, and a word that is the next
abbrev pub advanced_as : Done → ℕ → Value → Word → Checked Done
advanced_as (done_items vs) column v w = item_at column w >> Ok (done_items (vs ++ v ∷ []))
advanced_as (done_entries ws k) column v w = check_merge k v >>
    (key_at column (explicit_keys (ws ++ written k v ∷ [])) w.column w.shape
    >>= λ l. Ok (done_entries (ws ++ written k v ∷ []) l))
advanced_as alone column v w = Err (no_place w.shape)

-- an open block whose last word is w, over these blocks
abbrev pub put : ℕ → ℕ → Done → Anchors → List Open → Word → Checked (List Open)
put line column done anchors bs w = do
  own ← own_value (anchors ++ known_of bs) w.line w.shape
  Ok (record {
    line = line;
    column = column;
    done = done;
    anchors = anchors;
    head = head_of w;
    own = own;
  } ∷ bs)

abbrev pub advanced : Open → Found Value → List Open → Word → Checked (List Open)
advanced b g bs w = do
  done ← advanced_as b.done b.column g.value w
  put b.line b.column done (g.anchors ++ b.anchors) bs w

-- a block as the value of a word with this anchor
abbrev pub closed_into : Open → Found Value → Name → Checked (Found Value)
closed_into b g name = closed b g >>= λ h. Ok (noted name h)

-- The block b, whose open member is g, and the stack below it take the next word.
abbrev pub settled : Found Value → Open → List Open → Word → Checked (List Open)
settled g b [] w = advanced b g [] w
settled g b (outer ∷ bs) w =
    if is_below outer.head w then advanced b g (outer ∷ bs) w
    else closed_into b g outer.head.anchor >>= λ h. settled h outer bs w

-- the stack after a word; its top comes first
abbrev pub step : List Open → Word → Checked (List Open)
step [] w = begins [] w
step (b ∷ bs) w =
    if is_below b.head w then (check (opens_block b.head.sort) Unsupported >> begins (b ∷ bs) w)
    else settled (own_found b) b bs w

abbrev pub steps : List Open → List Word → Checked (List Open)
steps bs [] = Ok bs
steps bs (w ∷ ws) = step bs w >>= λ cs. steps cs ws
