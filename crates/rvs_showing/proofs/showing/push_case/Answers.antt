use Rattle.std.proofs.Common.{◌≡◌, ◌++◌, List, Option, Some, None, slice_get, option_map, sym}
use Rattle.std.proofs.Common.{ap, ◌∙◌, append-nil}
use Rattle.std.specs.Option.{option_copied}
use Rattle.std.proofs.lemmas.Result.{on_ok_weaker}
use Rattle.rvs_base.specs.Lines.{cut_lines}
use Rattle.rvs_points.specs.PointView.{point_view}
use Rattle.rvs_points.specs.declared.group.Point.{Point}
use Rattle.rvs_page.specs.declared.shown.Case.{Case}
use Rattle.rvs_showing.specs.Showing.{shown_case}
use Rattle.rvs_showing.proofs.Shows.{point_got}
use Rattle.rvs_showing.proofs.showing.push_case.Goals as goal

pub returns-in-None : goal.returns-in-None
returns-in-None c =
    let ps = c.args.label.now.points in
    let k = c.args.claim.point in
    let at : slice_get ps k ≡ None =
    ap (λ (xs : List Point). slice_get xs k) (sym c.as_slice.ensures)
    ∙ point_got c.as_slice.result.now k c.get.result c.get.ensures.lookup
    ∙ ap option_copied c.in-None.is in
    sym (ap (λ (o : Option Point). c.args.shown.now ++ shown_case c.args.found.now
    c.args.claim.case (cut_lines c.args.code.now) (option_map point_view o)) at
    ∙ append-nil c.args.shown.now)

pub returns-in_ok-shown_case-in-Some : goal.returns-in_ok-shown_case-in-Some
returns-in_ok-shown_case-in-Some c =
    let ps = c.args.label.now.points in
    let k = c.args.claim.point in
    let at : slice_get ps k ≡ Some c.in-Some.point.now =
    ap (λ (xs : List Point). slice_get xs k) (sym c.as_slice.ensures)
    ∙ point_got c.as_slice.result.now k c.get.result c.get.ensures.lookup
    ∙ ap option_copied c.in-Some.is in
    let made = ap (λ (t : List Case). c.args.shown.now ++ t)
    (sym c.in_ok-shown_case-in-Some.ensures) in
    let placed = sym (ap (λ (o : Option Point). c.args.shown.now ++ shown_case c.args.found.now
    c.args.claim.case (cut_lines c.args.code.now) (option_map point_view o)) at) in
    on_ok_weaker c.push.result (λ e. e ∙ made ∙ placed) c.push.ensures.added
