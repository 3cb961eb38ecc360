use Rattle.std.proofs.Common.{Some, None, [], ◌∷◌, sym, ap, ◌∙◌, map, option_map, append-nil}
use Rattle.std.proofs.lemmas.List.{map-append}
use Rattle.rvs_points.specs.PointView.{point_view}
use Rattle.rvs_demo.proofs.Points.{points_more}
use Rattle.rvs_demo.proofs.label.add_points.Goals as goal
use Rattle.rvs_demo.proofs.label.add_points.Goals.{in-None, in-Some+in_ok-push-in-Some}

pub loop-key-preserved : goal.loop-key-preserved
loop-key-preserved c =
    elim c.match-branch-2.branch [
      | in-None w ↦
          points_more c.args.kind c.args.keys.now c.loop-key.key-index _
          (map point_view c.args.points.now.items) (map point_view c.loop-key.points.items)
          (map point_view c.match-branch-2.points.items) None
          c.loop-key-test.true c.loop-key.invariant
          (sym (ap (option_map point_view) w.in-None.is) ∙ c.in_ok-point.ensures)
          (ap (λ v. map point_view v.items) w.points-is
          ∙ sym (append-nil (map point_view c.loop-key.points.items)))
      | in-Some+in_ok-push-in-Some w ↦
          points_more c.args.kind c.args.keys.now c.loop-key.key-index _
          (map point_view c.args.points.now.items) (map point_view c.loop-key.points.items)
          (map point_view c.match-branch-2.points.items)
          (Some (point_view w.in-Some.point)) c.loop-key-test.true c.loop-key.invariant
          (sym (ap (option_map point_view) w.in-Some.is) ∙ c.in_ok-point.ensures)
          (ap (λ v. map point_view v.items) w.points-is
          ∙ ap (map point_view) w.in_ok-push-in-Some.ensures.items
          ∙ map-append point_view c.loop-key.points.items (w.in-Some.point ∷ []))
    ]
