use Rattle.std.proofs.Common.{◌≡◌, ◌∙◌, ap, take, length, arith}
use Rattle.std.specs.declared.alloc.Global.{Global}
use Rattle.std.specs.declared.rc.Rc.{Rc}
use Rattle.rvs_tree.specs.Data.{sequence, items_of}
use Rattle.rvs_tree.specs.DraftView.{merged_trees}
use Rattle.rvs_tree.specs.ValueView.{values_view}
use Rattle.rvs_tree.specs.declared.draft.Draft.{Draft}
use Rattle.rvs_tree.proofs.Sums.{take_whole}
use Rattle.rvs_tree.proofs.Views.{ok_more}
use Rattle.rvs_tree.proofs.Bared.{merging, bare-list}
use Rattle.rvs_tree.specs.DraftView.{part_view, merging_entry}
use Rattle.rvs_tree.specs.PartsView.{parts_view}
use Rattle.rvs_tree.specs.ValueView.{value_view}
use Rattle.rvs_tree.proofs.Single.{pushed, map-map-push}
use Rattle.rvs_tree.proofs.parts.list_draft.Goals as goal

pub returns : goal.returns
returns c =
    let vs = c.args.values.now in
    let all : c.loop-value.value-index ≡ length vs =
    omega (arith, c.loop-value.auto.value-index-end, c.loop-value-test.false) in
    ok_more c.new_list.result c.new_list.ensures (λ (d : Rc Draft Global) h.
    h ∙ ap (λ ws. sequence (items_of (merged_trees ws)) c.args.line) (c.loop-value.invariant
    ∙ ap (λ n. merging (values_view (take n vs))) all
    ∙ ap (λ us. merging (values_view us)) (take_whole vs))
    ∙ bare-list c.args.line (values_view vs))

pub loop-value-init : goal.loop-value-init
loop-value-init c = ap parts_view c.in_ok-parts.ensures.items

pub loop-value-preserved : goal.loop-value-preserved
loop-value-preserved c =
    pushed part_view (λ vs. merging (values_view vs)) (λ v. merging_entry (value_view v).tree)
    (map-map-push value_view (λ v. merging_entry v.tree)) c.loop-value.parts.items
    c.push.new.self.items _ c.args.values.now c.loop-value.value-index c.value-item.result
    c.in_ok-push.ensures.items c.loop-value.invariant c.loop-value-test.true
    (c.in_ok-merged_part.ensures ∙ ap (λ v. merging_entry (value_view v).tree) c.value-item.is)
