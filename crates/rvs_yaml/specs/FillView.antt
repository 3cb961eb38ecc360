-- What is filled in behind a word, as contracts see it.
use Rattle.std.specs.Prelude.{ℕ, List, Option, option_map}
use Rattle.std.specs.Borrow.{Bor}
use Rattle.rvs_yaml_text.specs.Tokens.{tokens_of}
use Rattle.rvs_yaml_text.specs.WordView.{bracket_view, content_view, shape_view}
use Rattle.rvs_yaml_text.specs.Word as word_spec
use Rattle.rvs_yaml_text.specs.declared.word.Bracket.{Bracket}
use Rattle.rvs_yaml_text.specs.declared.word.Content.{Content}
use Rattle.rvs_yaml_text.specs.declared.word.Shape.{Shape}
use Rattle.rvs_yaml.specs.Filling.{Flow}

abbrev pub flow_view : Option (Bracket × Bor (List ℕ)) → Flow
flow_view o = option_map (λ p. (bracket_view p.0, tokens_of p.1.now)) o

abbrev pub content_parts : Content × Option (Bracket × Bor (List ℕ)) → word_spec.Content × Flow
content_parts p = (content_view p.0, flow_view p.1)

abbrev pub shape_parts : Shape × Option (Bracket × Bor (List ℕ)) → word_spec.Shape × Flow
shape_parts p = (shape_view p.0, flow_view p.1)
