use Rattle.std.proofs.Common.{rules, ◌≡◌, ◌++◌, List, ℕ, true, sym, ap, ◌∙◌}
use Rattle.std.proofs.Common.{append_assoc, flat_map, length, map}
use Rattle.std.specs.Prelude.{if◌then◌else◌}
use Rattle.std.proofs.lemmas.List.{length-map}
use Rattle.std.proofs.lemmas.Result.{on_ok_weaker}
use Rattle.rvs_points.specs.Points.{Label}
use Rattle.rvs_points.specs.PointView.{label_view, point_view, skipped_view}
use Rattle.rvs_points.specs.declared.group.Point.{Point}
use Rattle.rvs_count.specs.Report.{hit_line, label_text, points_text, skipped_line}
use Rattle.rvs_count.specs.Report.{unselected_line}
use Rattle.rvs_count.proofs.report.push_label.Goals as goal

said : (counts : List ℕ) (l : Label) → l.selected ≡ true
    → hit_line l.name counts (length l.points)
    ++ (points_text counts l.points ++ flat_map skipped_line l.skipped)
    ≡ label_text counts l
said counts l is =
    ap (λ b. if b then hit_line l.name counts (length l.points)
    ++ (points_text counts l.points ++ flat_map skipped_line l.skipped)
    else unselected_line l.name) (sym is)

pub returns : goal.returns
returns c =
    let l = label_view c.args.label.now in
    let counts = c.args.counts.now in
    let line = hit_line l.name counts (length l.points) in
    let points = points_text counts l.points in
    let skipped = flat_map skipped_line l.skipped in
    let long : length c.as_slice-points.result.now ≡ length l.points =
    ap (λ (ps : List Point). length ps) c.as_slice-points.ensures
    ∙ sym (length-map c.args.label.now.points point_view) in
    let spelled : c.as_str.result.now
    ≡ hit_line c.as_str-name.result.now counts (length c.as_slice-points.result.now) =
    search rules in
    let first : c.push_str.new.self ≡ c.args.text.now ++ line =
    c.in_ok-push_str.ensures.added
    ∙ ap (λ t. c.args.text.now ++ t)
    (spelled ∙ (λ k. hit_line (c.as_str-name.ensures k) counts (long k))) in
    let second : c.push_points.new.text ≡ (c.args.text.now ++ line) ++ points =
    c.in_ok-push_points.ensures
    ∙ (λ k. first k ++ points_text counts (map point_view (c.as_slice-points.ensures k))) in
    on_ok_weaker c.push_skipped.result (λ added. added
    ∙ (λ k. second k ++ flat_map skipped_line (map skipped_view (c.as_slice.ensures k)))
    ∙ append_assoc (c.args.text.now ++ line) points skipped
    ∙ append_assoc c.args.text.now line (points ++ skipped)
    ∙ ap (λ t. c.args.text.now ++ t) (said counts l c.if-not-label.false)) c.push_skipped.ensures
