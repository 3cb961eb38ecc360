use Rattle.std.proofs.Common.{◌++◌, ap, ◌∙◌, map, true}
use Rattle.rvs_points.specs.PointView.{point_view, skipped_view}
use Rattle.rvs_demo.specs.Label.{label, points}
use Rattle.rvs_demo.proofs.label.label.Goals as goal

pub returns : goal.returns
unfolding label
returns c =
    let name = c.from.ensures ∙ (rw c.in_ok-name.ensures.both.0 at c.from_str.ensures).ok in
    let ops = c.from-2.ensures ∙ ap (λ p. p.0.items) c.in_ok-name.ensures.both.1
    ∙ (rw c.in_ok-ops.ensures.both.0 at c.to_vec-ops.ensures).items_if_clones_equal (λ x y e. e) in
    let added = rw c.in_ok-points.ensures.both.0 at c.add_all.ensures in
    let all =
    ap (map point_view) (c.from-3.ensures ∙ ap (λ p. p.1.items) c.in_ok-name.ensures.both.1
    ∙ ap (λ v. v.items) (c.in_ok-ops.ensures.both.1 ∙ c.in_ok-points.ensures.both.1))
    ∙ added ∙ ap (λ l. map point_view l ++ points) c.new-points.ensures.items in
    λ i. record {
      name = name i;
      selected = true;
      ops = ops i;
      points = all i;
      skipped = map skipped_view (c.new.ensures i);
    }
