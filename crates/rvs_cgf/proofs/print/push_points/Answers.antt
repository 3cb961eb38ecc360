use Rattle.std.proofs.Common.{◌<◌, ◌+◌, ◌++◌, ◌∙◌, ap, map, drop, Some, arith, length, append_assoc}
use Rattle.std.specs.Prelude.{codes}
use Rattle.rvs_cgf.specs.GroupView.{point_view}
use Rattle.rvs_cgf.specs.Print.{doubled, head_line, point_line, points_text}
use Rattle.rvs_cgf.proofs.Texts.{points_more}
use Rattle.rvs_cgf.proofs.print.push_points.Goals as goal

pub loop-point-preserved : goal.loop-point-preserved
loop-point-preserved c =
    let ps = c.args.points.now in
    let i = c.loop-point.point-index in
    let point = c.point-item.result in
    let text = c.loop-point.text in
    let head = head_line c.loop-point.before point.kind in
    let key = doubled point.key in
    let below : i < length ps = omega (arith, c.loop-point-test.true) in
    ap (λ t. t ++ points_text (Some point.kind) (map point_view (drop (i + 1) ps)))
    (c.in_ok-push_str-2.ensures.added
    ∙ ap (λ t. t ++ codes "': 0\n") (c.in_ok-push_doubled.ensures
    ∙ ap (λ t. c.push_str.new.self ++ doubled t) c.as_str.ensures
    ∙ ap (λ t. t ++ key) (c.in_ok-push_str.ensures.added
    ∙ ap (λ t. t ++ codes "    '") c.in_ok-push_head_line.ensures))
    ∙ append_assoc ((text ++ head) ++ codes "    '") key (codes "': 0\n")
    ∙ append_assoc (text ++ head) (codes "    '") (key ++ codes "': 0\n")
    ∙ append_assoc text head (point_line point.key))
    ∙ ap (λ p. (text ++ (head_line c.loop-point.before p.kind ++ point_line p.key))
    ++ points_text (Some p.kind) (map point_view (drop (i + 1) ps))) c.point-item.is
    ∙ points_more text c.loop-point.before ps i point below
    ∙ c.loop-point.invariant
