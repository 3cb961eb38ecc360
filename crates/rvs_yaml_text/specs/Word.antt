-- The words of a line: a word for each dash, and behind them one for the rest, which is a leaf or a
-- key with its text.
use Rattle.std.specs.Prelude.{ℕ, Bool, true, false, ◌&&◌, ◌||◌, ◌==◌, nat_lt, List, Option, None}
use Rattle.rvs_yaml_text.specs.declared.kind.YamlKind.{YamlKind}

-- The text of a scalar as a key. The plain scalar `<<` is a key that merges.
pub record Key : Type 0 where
  pub name : List ℕ
  pub merges : Bool

pub data Bracket : Type 0 where
  square : Bracket
  curly : Bracket

-- The words of a flow collection. A fault is where it is met.
pub data Token : Type 0 where
  opening : Bracket → Token
  closing : Bracket → Token
  comma : Token
  -- a colon with a space or the line's end behind it, which no scalar stands before
  colon : Token
  -- a scalar, and behind it no colon that would end it as a key
  scalar_token : Key → Token
  -- a scalar with the colon that ends it as a key
  key_token : Key → Token
  -- a quoted scalar with a colon and then more text
  cut_key : Key → Token
  -- a plain scalar whose last character is a colon, and the byte that ends it
  colon_scalar : ℕ → Token
  alias_token : List ℕ → Token
  -- a colon behind a closing bracket, with spaces between at most, whatever follows it
  late_colon : Token
  fault : YamlKind → Token

-- What stands behind a key on its line, or in a line by itself; of an alias, whether at most a
-- comment is behind it.
pub data Content : Type 0 where
  nothing : Content
  text : List ℕ → Content
  alias : List ℕ → Bool → Content
  flow : Bracket → List Token → Content
  faulty : YamlKind → Content

-- the name of an anchor, where there is one
abbrev pub Name : Type 0
Name = Option (List ℕ)

-- A line that is refused wherever it stands is a word too, at column 0. An item that is so stands
-- at its own column, below its dash.
pub data Shape : Type 0 where
  dash : Name → Shape
  key : Key → Name → Content → Shape
  leaf : Content → Shape
  refused : YamlKind → Shape

pub record Word : Type 0 where
  pub line : ℕ
  pub column : ℕ
  pub shape : Shape

-- Only under a dash and under a key with nothing behind it is there a block.
pub data Sort : Type 0 where
  a_dash : Sort
  a_bare_key : Sort
  no_opener : Sort

abbrev pub key_sort : Content → Sort
key_sort nothing = a_bare_key
key_sort _ = no_opener

abbrev pub sort_of : Shape → Sort
sort_of (dash a) = a_dash
sort_of (key k a content) = key_sort content
sort_of _ = no_opener

abbrev pub is_dash : Sort → Bool
is_dash a_dash = true
is_dash _ = false

abbrev pub is_bare_key : Sort → Bool
is_bare_key a_bare_key = true
is_bare_key _ = false

abbrev pub opens_block : Sort → Bool
opens_block no_opener = false
opens_block _ = true

-- the anchor that names the node of a word
abbrev pub anchor_of : Shape → Name
anchor_of (dash a) = a
anchor_of (key k a content) = a
anchor_of _ = None

-- what the words below a word need to know of it
pub record Head : Type 0 where
  pub line : ℕ
  pub column : ℕ
  pub sort : Sort
  pub anchor : Name

abbrev pub head_of : Word → Head
head_of w =
    record { line = w.line; column = w.column; sort = sort_of w.shape; anchor = anchor_of w.shape }

-- The words below a word are deeper. The dashes below a bare key may also stand right under it.
abbrev pub is_below : Head → Word → Bool
is_below h u = nat_lt h.column u.column
    || (is_bare_key h.sort && is_dash (sort_of u.shape) && h.column == u.column)
