-- Parts of lines, as contracts see them.
use Rattle.std.specs.Prelude.{ℕ, List, Option, option_map}
use Rattle.std.specs.Borrow.{Bor}
use Rattle.rvs_yaml_text.specs.Word as spec
use Rattle.rvs_yaml_text.specs.KeyView.{key_view}
use Rattle.rvs_yaml_text.specs.WordView.{content_view, name_view}
use Rattle.rvs_yaml_text.specs.declared.key.Key.{Key}
use Rattle.rvs_yaml_text.specs.declared.word.Content.{Content}

abbrev pub key_now : Key × Bor (List ℕ) → spec.Key × List ℕ
key_now p = (key_view p.0, p.1.now)

abbrev pub keyed_view : Option (Key × Bor (List ℕ)) → Option (spec.Key × List ℕ)
keyed_view o = option_map key_now o

abbrev pub part_view : Option (Bor (List ℕ)) × Content → spec.Name × spec.Content
part_view p = (name_view p.0, content_view p.1)
