use Rattle.std.proofs.Common.{◌∙◌, sym, subst, ap, Ok}
use Rattle.rvs_tree.specs.TreeView.{view}
use Rattle.rvs_cgf.specs.Groups.{◌>>=◌}
use Rattle.rvs_cgf.specs.GroupView.{refusal_view}
use Rattle.rvs_cgf.specs.WrittenView.{written_view}
use Rattle.rvs_cgf.proofs.LabelsTold.{Stands, stands-first, stands-more, stands-fails}
use Rattle.rvs_cgf.proofs.LabelsTold.{normal-is}
use Rattle.rvs_cgf.proofs.writing.write_groups.Goals as goal

pub loop-i-init : goal.loop-i-init
loop-i-init c = subst (Stands c.args.isa.now c.args.families (view c.args.tree.now) 0)
    (ap (λ t. record { text = t; count = 0; total = 0 }) (sym c.new-then-is_map.ensures))
    (stands-first c.args.isa.now c.args.families (view c.args.tree.now))

pub loop-i-preserved : goal.loop-i-preserved
loop-i-preserved c =
    let s = c.loop-i.invariant in
    stands-more c.args.isa.now c.args.families (view c.args.tree.now) c.loop-i.i c.key.result.now
    (view c.item.result.now) (written_view c.loop-i.written)
    (written_view c.write_step.new.written) s (sym c.is_map.ensures ∙ c.if-is_map.true)
    c.key.ensures c.item.ensures (c.in-Ok.ensures s.listed s.is)

pub returns-in-Err : goal.returns-in-Err
returns-in-Err c = λ refusal is.
    let d = view c.args.tree.now in
    let map = sym c.is_map.ensures ∙ c.if-is_map.true in
    let s = c.loop-i.invariant in
    normal-is c.args.isa.now c.args.families d
    (sym c.is_empty_scalar.ensures ∙ c.if-is_empty_scalar.false) map
    ∙ ap (λ r. r >>= (λ t. Ok t.text))
    (stands-fails c.args.isa.now c.args.families d c.loop-i.i c.key.result.now
    (view c.item.result.now) (written_view c.loop-i.written) (refusal_view refusal) s map
    c.key.ensures c.item.ensures (c.in-Err.ensures s.listed s.is refusal is))
