use Rattle.std.proofs.Common.{◌≡◌, ◌∙◌, ap, take, length, arith}
use Rattle.std.specs.declared.alloc.Global.{Global}
use Rattle.std.specs.declared.rc.Rc.{Rc}
use Rattle.rvs_tree.specs.DraftView.{data_of}
use Rattle.rvs_tree.specs.Bare.{bares}
use Rattle.rvs_tree.specs.ValueView.{entries_view}
use Rattle.rvs_tree.specs.declared.draft.Draft.{Draft}
use Rattle.rvs_tree.proofs.Sums.{take_whole}
use Rattle.rvs_tree.proofs.Views.{ok_more}
use Rattle.rvs_tree.proofs.Bared.{bare-map}
use Rattle.rvs_tree.specs.Bare.{bare}
use Rattle.rvs_tree.specs.DraftView.{part_view}
use Rattle.rvs_tree.specs.PartsView.{parts_view}
use Rattle.rvs_tree.specs.ValueView.{written_view}
use Rattle.rvs_tree.proofs.Single.{pushed, map-map-push}
use Rattle.rvs_tree.proofs.parts.map_draft.Goals as goal

pub returns : goal.returns
returns c =
    let ws = c.args.entries.now in
    let all : c.loop-written.written-index ≡ length ws =
    omega (arith, c.loop-written.auto.written-index-end, c.loop-written-test.false) in
    ok_more c.new_map.result c.new_map.ensures (λ (d : Rc Draft Global) h.
    h ∙ ap (λ us. data_of us c.args.line) (c.loop-written.invariant
    ∙ ap (λ n. bares (entries_view (take n ws))) all
    ∙ ap (λ us. bares (entries_view us)) (take_whole ws))
    ∙ bare-map c.args.line (entries_view ws))

pub loop-written-init : goal.loop-written-init
loop-written-init c = ap parts_view c.in_ok-parts.ensures.items

pub loop-written-preserved : goal.loop-written-preserved
loop-written-preserved c =
    pushed part_view (λ ws. bares (entries_view ws)) (λ w. bare (written_view w))
    (map-map-push written_view bare) c.loop-written.parts.items
    c.push.new.self.items _ c.args.entries.now c.loop-written.written-index c.written-item.result
    c.in_ok-push.ensures.items c.loop-written.invariant c.loop-written-test.true
    (c.in_ok-entry_part.ensures ∙ ap (λ w. bare (written_view w)) c.written-item.is)
