use Rattle.std.proofs.Common.{◌<◌, ◌+◌, ◌++◌, ◌∙◌, ap, map, drop, flat_map, arith, length}
use Rattle.std.specs.Prelude.{codes}
use Rattle.rvs_cgf.specs.GroupView.{skipped_view}
use Rattle.rvs_cgf.specs.Print.{skipped_line}
use Rattle.rvs_cgf.proofs.Texts.{in_line, skipped_more}
use Rattle.rvs_cgf.proofs.print.push_skipped.Goals as goal

pub loop-one-preserved : goal.loop-one-preserved
loop-one-preserved c =
    let ss = c.args.skipped.now in
    let i = c.loop-one.one-index in
    let one = c.one-item.result in
    let text = c.loop-one.text in
    let below : i < length ss = omega (arith, c.loop-one-test.true) in
    ap (λ t. t ++ flat_map skipped_line (map skipped_view (drop (i + 1) ss)))
    (c.in_ok-push_str-5.ensures.added
    ∙ ap (λ t. t ++ codes "\n") (c.in_ok-push_str-4.ensures.added
    ∙ ap (λ t. c.push_str-in-loop-one-2.new.self ++ t) c.as_str-in-loop-one.ensures
    ∙ ap (λ t. t ++ one.key) (c.in_ok-push_str-3.ensures.added
    ∙ ap (λ t. t ++ codes " ") (c.in_ok-push_str-2.ensures.added
    ∙ ap (λ t. c.push_str.new.self ++ t) c.as_str.ensures
    ∙ ap (λ t. t ++ one.node) c.in_ok-push_str.ensures.added)))
    ∙ in_line text (codes "  # skipped ") one.node (codes " ") one.key (codes "\n")
    ∙ ap (λ s. text ++ skipped_line (skipped_view s)) c.one-item.is)
    ∙ skipped_more text ss i one below
    ∙ c.loop-one.invariant
