use Rattle.std.proofs.Common.{sym, ap, ◌∙◌}
use Rattle.rvs_yaml_text.specs.Word.{Name, Content, key}
use Rattle.rvs_yaml_text.specs.KeyView.{key_view}
use Rattle.rvs_yaml_text.specs.LineView.{keyed_view}
use Rattle.rvs_yaml_text.specs.Text.{inline_part, shape_from}
use Rattle.rvs_yaml_text.proofs.content.shape_of.Goals as goal

pub returns : goal.returns
returns c =
    ap (λ (p : Name × Content). key (key_view c.in-Some.key) p.0 p.1)
    (c.in_ok-anchor.ensures ∙ ap inline_part c.without_spaces.ensures)
    ∙ sym (ap (shape_from c.args.text.now) (sym c.in_ok-key.ensures ∙ ap keyed_view c.in-Some.is))
