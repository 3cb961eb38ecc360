-- Parts of a step, as contracts see them.
use Rattle.rvs_yaml_text.specs.Word as word_spec
use Rattle.rvs_yaml.specs.Stack as spec
use Rattle.rvs_yaml_text.specs.KeyView.{key_view}
use Rattle.rvs_yaml_text.specs.WordView.{content_view}
use Rattle.rvs_yaml.specs.StackView.{done_view}
use Rattle.rvs_yaml_text.specs.declared.key.Key.{Key}
use Rattle.rvs_yaml_text.specs.declared.word.Content.{Content}
use Rattle.rvs_yaml.specs.declared.open.Done.{Done}

abbrev pub key_content : Key × Content → word_spec.Key × word_spec.Content
key_content p = (key_view p.0, content_view p.1)

abbrev pub done_content : Done × Content → spec.Done × word_spec.Content
done_content p = (done_view p.0, content_view p.1)
