-- What the words of the code stand for.
use Rattle.std.specs.Prelude.{ℕ, List, Option, option_map, string_bytes}
use Rattle.std.specs.Borrow.{Bor}
use Rattle.rvs_yaml_text.specs.Word as spec
use Rattle.rvs_yaml_text.specs.Tokens.{tokens_of}
use Rattle.rvs_yaml_text.specs.KeyView.{key_view}
use Rattle.rvs_yaml_text.specs.declared.word.Bracket.{Bracket}
use Rattle.rvs_yaml_text.specs.declared.word.Bracket.TheVariants.{Square, Curly}
use Rattle.rvs_yaml_text.specs.declared.word.Content.{Content}
use Rattle.rvs_yaml_text.specs.declared.word.Content.TheVariants.{Nothing, Text, Alias, Flow}
use Rattle.rvs_yaml_text.specs.declared.word.Content.TheVariants.{Faulty}
use Rattle.rvs_yaml_text.specs.declared.word.Shape.{Shape}
use Rattle.rvs_yaml_text.specs.declared.word.Shape.TheVariants.{Dash, Key, Leaf, Refused}
use Rattle.rvs_yaml_text.specs.declared.word.Word.{Word}
use Rattle.rvs_yaml_text.specs.declared.word.Sort.{Sort}
use Rattle.rvs_yaml_text.specs.declared.word.Sort.TheVariants as sort
use Rattle.rvs_yaml_text.specs.declared.word.Head.{Head}

abbrev pub bracket_view : Bracket → spec.Bracket
bracket_view Square = spec.square
bracket_view Curly = spec.curly

abbrev pub content_view : Content → spec.Content
content_view Nothing = spec.nothing
content_view (Text t) = spec.text (string_bytes t)
content_view (Alias name ended) = spec.alias name.now ended
content_view (Flow b text) = spec.flow (bracket_view b) (tokens_of text.now)
content_view (Faulty kind) = spec.faulty kind

abbrev pub name_view : Option (Bor (List ℕ)) → spec.Name
name_view o = option_map (λ n. n.now) o

abbrev pub shape_view : Shape → spec.Shape
shape_view (Dash a) = spec.dash (name_view a)
shape_view (Key k a content) = spec.key (key_view k) (name_view a) (content_view content)
shape_view (Leaf content) = spec.leaf (content_view content)
shape_view (Refused kind) = spec.refused kind

abbrev pub word_view : Word → spec.Word
word_view w = record { line = w.line; column = w.column; shape = shape_view w.shape }

abbrev pub sort_view : Sort → spec.Sort
sort_view sort.Dash = spec.a_dash
sort_view sort.BareKey = spec.a_bare_key
sort_view sort.Other = spec.no_opener

abbrev pub head_view : Head → spec.Head
head_view h = record {
  line = h.line;
  column = h.column;
  sort = sort_view h.sort;
  anchor = name_view h.anchor;
}
