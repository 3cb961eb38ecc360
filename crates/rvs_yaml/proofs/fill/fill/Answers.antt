use Rattle.std.proofs.Common.{◌∙◌, sym, ap, subst, length, Some}
use Rattle.rvs_yaml_text.specs.Tokens.{tokens_of}
use Rattle.rvs_yaml_text.specs.WordView.{bracket_view}
use Rattle.rvs_yaml.specs.Filling.{filled}
use Rattle.rvs_yaml.specs.Rising.{Rises, befores}
use Rattle.rvs_yaml.specs.StackView.{anchored}
use Rattle.rvs_yaml.proofs.Giving.{gives_passes}
use Rattle.rvs_yaml.proofs.Segments.{anchored-push, befores-push}
use Rattle.rvs_yaml.proofs.fill.fill.Goals as goal

pub put-requires : goal.put-requires
put-requires c =
    let s = c.args.stack in
    subst (Rises (length s.anchors.anchors.items)) (ap befores c.in-Some.ensures.items
    ∙ befores-push c.pop.new.self.items c.in-Some.top) s.rising

pub returns : goal.returns
returns c =
    let all = c.args.stack.anchors.anchors.items in
    let f = Some (bracket_view c.args.bracket, tokens_of c.args.text.now) in
    gives_passes _ _ _ _ (sym (ap (filled f) (ap (anchored all) c.in-Some.ensures.items
    ∙ anchored-push all c.pop.new.self.items c.in-Some.top))) c.put.ensures
