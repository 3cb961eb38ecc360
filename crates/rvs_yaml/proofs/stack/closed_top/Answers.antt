use Rattle.std.proofs.Common.{◌≡◌, ◌∙◌, sym, ap, arith, length}
use Rattle.rvs_tree.specs.ValueView.{value_view}
use Rattle.rvs_yaml.specs.Stack.{step}
use Rattle.rvs_yaml_text.specs.WordView.{word_view}
use Rattle.rvs_yaml.proofs.Giving.{gives_same}
use Rattle.rvs_yaml.proofs.Segments.{anchored-push, step-own}
use Rattle.rvs_yaml.proofs.stack.closed_top.Goals as goal

pub settle-requires : goal.settle-requires
settle-requires c =
    let risen = c.requires.rising in
    (omega (arith, risen.0, c.in-Ok-named.ensures.more), risen.1)

pub returns-in-Ok-named : goal.returns-in-Ok-named
returns-in-Ok-named c =
    let all = c.args.anchors.anchors.items in
    let after = c.in-Ok-named.anchors.anchors.items in
    let w = word_view c.args.word in
    let top = c.args.top in
    let rest = c.args.blocks.items in
    let same : c.len-known.result ≡ length all =
    omega (arith, c.len-known.ensures, c.args.anchors.anchors.ok.0) in
    gives_same _ _ _ _ (sym (ap (λ x. step x w) (anchored-push all rest top)
    ∙ step-own (value_view c.in-Ok.value) c.len-known.result all after top rest w same
    (omega (arith, same, c.requires.rising.0)) c.requires.above c.in-Ok.ensures
    c.in-Ok-named.ensures))
    c.settle.ensures
