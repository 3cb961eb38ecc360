-- Parts of a step of the stack of open blocks.
use Rattle.std.specs.Prelude.{ℕ, Bool, if◌then◌else◌, List, [], ◌∷◌, ◌++◌, None, Ok, Err}
use Rattle.rvs_yaml.specs.Checks.{Checked, ◌>>=◌, ◌>>◌, check}
use Rattle.rvs_tree.specs.Value.{Value, Written, scalar_value, list_value, map_value}
use Rattle.rvs_yaml_text.specs.Word.{Key, Content, nothing, alias, faulty, Shape, dash, key, leaf}
use Rattle.rvs_yaml_text.specs.Word.{refused, Word, Head, no_opener, is_below, opens_block}
use Rattle.rvs_yaml.specs.Anchors.{Anchors, lookup, known_alias}
use Rattle.rvs_yaml.specs.Entry.{written}
use Rattle.rvs_yaml.specs.Block.{content_value, key_at, check_merge}
use Rattle.rvs_yaml.specs.Stack.{Done, done_items, done_entries, alone, Open, known_of}
use Rattle.rvs_yaml.specs.Stack.{advanced_as}
use Rattle.rvs_yaml_text.specs.declared.kind.YamlKind.TheVariants.{BadScalar, Unsupported}

-- what is behind a word
abbrev pub own_content : Shape → Content
own_content (dash a) = nothing
own_content (key k a content) = content
own_content (leaf content) = content
own_content (refused kind) = faulty kind

abbrev pub keyed_content : ℕ → List (List ℕ) → Word → Checked (Key × Content)
keyed_content column seen w =
    key_at column seen w.column w.shape >>= λ k. Ok (k, own_content w.shape)

abbrev pub advanced_content : Done → ℕ → Value → Word → Checked (Done × Content)
advanced_content d column v w = advanced_as d column v w >>= λ e. Ok (e, own_content w.shape)

abbrev pub next_entry : List Written → Key → ℕ → Value → Word → Checked (Done × Content)
next_entry ws k column v w = advanced_content (done_entries ws k) column v w

-- an alias stands for something, and at most a comment is behind it
abbrev pub alias_found : Anchors → List ℕ → Bool → Checked (Unit {0})
alias_found known name ended = known_alias (lookup name known) >> check ended BadScalar

-- what the anchors alone tell of what is behind a word
abbrev pub looked_up : Anchors → Content → Checked (Unit {0})
looked_up known (alias name ended) = alias_found known name ended
looked_up known (faulty kind) = Err kind
looked_up known _ = Ok tt

-- whether a word may begin a block below the last word, where it is below that
abbrev pub placed : List Open → Word → Checked (Unit {0})
placed [] w = looked_up [] (own_content w.shape)
placed (b ∷ bs) w = if is_below b.head w then (check (opens_block b.head.sort) Unsupported
    >> looked_up (known_of (b ∷ bs)) (own_content w.shape))
    else Ok tt

-- what a block has so far
pub record Block : Type 0 where
  pub line : ℕ
  pub column : ℕ
  pub done : Done
  pub anchors : Anchors

abbrev pub opened : Block → Head → Value → Open
opened b h own = record {
  line = b.line;
  column = b.column;
  done = b.done;
  anchors = b.anchors;
  head = h;
  own = own;
}

abbrev pub put_content : Block → List Open → Head → Content → Checked (List Open)
put_content b bs h c =
    content_value (b.anchors ++ known_of bs) h.line c >>= λ own. Ok (opened b h own ∷ bs)

-- the block with some last word
abbrev pub bare : Block → Open
bare b =
    opened b (record { line = 0; column = 0; sort = no_opener; anchor = None }) (scalar_value [] 0)

abbrev pub closed_value : Done → ℕ → Value → Checked Value
closed_value (done_items vs) line v = Ok (list_value line (vs ++ v ∷ []))
closed_value (done_entries ws k) line v =
    check_merge k v >> Ok (map_value line (ws ++ written k v ∷ []))
closed_value alone line v = Ok v
