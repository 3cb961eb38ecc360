-- Device files: the device that a tree tells, or why it is refused.
use Rattle.std.specs.Prelude.{ℕ, ◌&&◌, not, if◌then◌else◌, List, map, Option, Some, None}
use Rattle.std.specs.Prelude.{Result, Ok, Err, ok_or, codes}
use Rattle.std.specs.Option.{option_and_then}
use Rattle.std.specs.List.{find, list_all}
use Rattle.rvs_text.specs.Outcomes.{◌>>=◌}
use Rattle.rvs_tree.specs.Data.{Data, scalar, is_list, is_scalar, text_of, members_of, value_at}
use Rattle.rvs_device.specs.Command.{has_program, is_known}
use Rattle.rvs_device.specs.declared.refusals.DeviceRefusal.{DeviceRefusal}
use Rattle.rvs_device.specs.declared.refusals.DeviceRefusal.TheVariants.{MissingEntry, BadCommand}
use Rattle.rvs_device.specs.declared.refusals.DeviceRefusal.TheVariants.{UnknownPlaceholder}

-- a device's name, and the words of its command
pub record Told : Type 0 where
  pub name : List ℕ
  pub command : List (List ℕ)

-- what a check comes to: what it finds, or why the file is refused
abbrev pub Found : Type 0 → Type 0
Found A = Result A DeviceRefusal

abbrev pub scalar_text : Data → Option (List ℕ)
scalar_text (scalar text line) = Some text
scalar_text _ = None

-- the scalar `name` of a map
abbrev pub name_in : Data → Found (List ℕ)
name_in root =
    ok_or (option_and_then scalar_text (value_at (codes "name") root))
    (MissingEntry (codes "name"))

-- the entry `command` of a map
abbrev pub command_in : Data → Found Data
command_in root = ok_or (value_at (codes "command") root) (MissingEntry (codes "command"))

-- the texts of a list of scalars
abbrev pub scalar_texts : Data → Option (List (List ℕ))
scalar_texts entry =
    if is_list entry && list_all is_scalar (members_of entry)
    then Some (map text_of (members_of entry))
    else None

-- the words, where there is a first word that isn't empty
abbrev pub with_program : List (List ℕ) → Option (List (List ℕ))
with_program words = if has_program words then Some words else None

abbrev pub words_in : Data → Found (List (List ℕ))
words_in entry = ok_or (option_and_then with_program (scalar_texts entry)) BadCommand

-- the first word in which a `{` begins no placeholder
abbrev pub unknown_in : List (List ℕ) → Option (List ℕ)
unknown_in words = find (λ word. not (is_known word)) words

-- the words, unless one of them is unknown
abbrev pub unless_unknown : List (List ℕ) → Option (List ℕ) → Found (List (List ℕ))
unless_unknown words None = Ok words
unless_unknown words (Some word) = Err (UnknownPlaceholder word)

-- what a command's entry comes to
abbrev pub checked_words : Data → Found (List (List ℕ))
checked_words entry = do
  words ← words_in entry
  unless_unknown words (unknown_in words)

-- the words of a file's command
abbrev pub command_words : Data → Found (List (List ℕ))
command_words root = do
  entry ← command_in root
  checked_words entry

-- the device that a file tells
abbrev pub told_in : Data → Found Told
told_in root = do
  name ← name_in root
  words ← command_words root
  Ok (record { name = name; command = words })
