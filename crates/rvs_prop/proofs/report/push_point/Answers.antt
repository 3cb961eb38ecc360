use Rattle.std.proofs.Common.{rules, ◌≡◌, ◌++◌, List, ℕ, Bool, true, false, codes, sym, ap, ◌∙◌}
use Rattle.std.specs.Prelude.{if◌then◌else◌}
use Rattle.std.specs.Fmt.{decimal}
use Rattle.std.proofs.lemmas.Result.{on_ok_weaker}
use Rattle.rvs_points.specs.Points.{Point}
use Rattle.rvs_points.specs.PointView.{point_view}
use Rattle.rvs_prop.specs.Report.{is_measured, measured_line, point_line, unmeasured_line}
use Rattle.rvs_prop.proofs.report.push_point.Goals as goal

abbrev named-by : List ℕ → List ℕ → List ℕ
named-by kind key = kind ++ (codes " " ++ (key ++ codes "\n"))

abbrev numbers : ℕ → ℕ → List ℕ → List ℕ
numbers reached hits named =
    decimal reached ++ (codes " of " ++ (decimal hits ++ (codes " " ++ named)))

line-of : (reached hits : ℕ) (p : Point) (b : Bool) → is_measured p.meaning ≡ b
    → (if b then measured_line reached hits p else unmeasured_line p) ≡ point_line reached hits p
line-of reached hits p b is =
    ap (λ b. if b then measured_line reached hits p else unmeasured_line p) (sym is)

pub returns-then-is_measured : goal.returns-then-is_measured
returns-then-is_measured c =
    let p = point_view c.args.point.now in
    let spelled : c.as_str.result.now
    ≡ numbers c.args.reached c.args.hits (named-by c.name-kind.result.now c.as_str-key.result.now) =
    search rules in
    let line : c.as_str.result.now ≡ point_line c.args.reached c.args.hits p =
    spelled
    ∙ (λ k. numbers c.args.reached c.args.hits (named-by (c.name-kind.ensures k)
    (c.as_str-key.ensures k)))
    ∙ line-of c.args.reached c.args.hits p true
    (sym c.is_measured.ensures ∙ c.if-is_measured.true)
    in
    on_ok_weaker c.push_str.result (λ added. added ∙ ap (λ l. c.args.text.now ++ l) line)
    c.push_str.ensures.added

pub returns : goal.returns
returns c =
    let p = point_view c.args.point.now in
    let spelled : c.as_str-2.result.now
    ≡ codes "unmeasured " ++ named-by c.name-kind.result.now c.as_str-key.result.now =
    search rules in
    let line : c.as_str-2.result.now ≡ point_line c.args.reached c.args.hits p =
    spelled
    ∙ (λ k. codes "unmeasured " ++ named-by (c.name-kind.ensures k) (c.as_str-key.ensures k))
    ∙ line-of c.args.reached c.args.hits p false
    (sym c.is_measured.ensures ∙ c.if-is_measured.false)
    in
    on_ok_weaker c.push_str-2.result (λ added. added ∙ ap (λ l. c.args.text.now ++ l) line)
    c.push_str-2.ensures.added
