use Rattle.std.proofs.Common.{arith, refl, take}
use Rattle.rvs_tree.specs.ValueView.{entries_view}
use Rattle.rvs_yaml.specs.Chain.{in_chain, chain_keys}
use Rattle.rvs_yaml.specs.StackView.{stack_view}
use Rattle.rvs_yaml_text.specs.KeyView.{key_view}
use Rattle.rvs_yaml.proofs.Chaining.{chain-none}
use Rattle.rvs_yaml.proofs.Seeing.{map-step}
use Rattle.rvs_yaml.proofs.sight.entered.Goals as goal

pub returns-then-pending : goal.returns-then-pending
returns-then-pending c =
    let bs = stack_view (take c.args.place c.args.blocks.now) in
    let pending = c.args.pending.now in
    map-step (entries_view pending.list.entries.items) (key_view pending.key) c.if-pending.true
    (in_chain bs) (chain_keys bs) (chain-none bs) c.args.seen _ (omega (arith, c.min.ensures)) refl
