use Rattle.std.proofs.Common.{◌≡◌, ◌∙◌, sym, ap, subst, true, false}
use Rattle.std.specs.Prelude.{if◌then◌else◌, []}
use Rattle.rvs_tree.specs.Value.{Value, scalar_value}
use Rattle.rvs_yaml_text.specs.Word.{opens_block}
use Rattle.rvs_yaml_text.specs.WordView.{sort_view}
use Rattle.rvs_yaml.specs.Front.{own_value}
use Rattle.rvs_yaml.specs.Seen.{TellsOf}
use Rattle.rvs_yaml.specs.StackView.{own_view, open_view}
use Rattle.rvs_yaml.proofs.sight.own_seen.Goals as goal

pub returns-then-opens_block : goal.returns-then-opens_block
returns-then-opens_block c =
    let top = c.args.top.now in
    let opens : opens_block (sort_view top.head.sort) ≡ true =
    sym c.opens_block.ensures ∙ c.if-opens_block.true in
    let same : own_value (open_view top) ≡ scalar_value [] top.head.line = ap
    (λ t. if t then scalar_value [] top.head.line else own_view top.head.line top.own) opens in
    subst (λ (v : Value). TellsOf c.empty_seen.result v) (sym same)
    (c.empty_seen.ensures top.head.line)

pub returns-in-None : goal.returns-in-None
returns-in-None c =
    let top = c.args.top.now in
    let leaf : opens_block (sort_view top.head.sort) ≡ false =
    sym c.opens_block.ensures ∙ c.if-opens_block.false in
    let same : own_value (open_view top) ≡ scalar_value [] top.head.line =
    ap (λ t. if t then scalar_value [] top.head.line else own_view top.head.line top.own) leaf
    ∙ ap (own_view top.head.line) c.in-None.is in
    subst (λ (v : Value). TellsOf c.empty_seen-in-None.result v) (sym same)
    (c.empty_seen-in-None.ensures top.head.line)
