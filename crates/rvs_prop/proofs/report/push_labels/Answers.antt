use Rattle.std.proofs.Common.{◌≡◌, ◌++◌, ◌+◌, ℕ, List, [], ap, ◌∙◌, append_assoc, append-nil, arith}
use Rattle.std.proofs.Common.{codes, drop, map, rules, sym}
use Rattle.std.proofs.lemmas.List.{drop_all}
use Rattle.std.proofs.lemmas.Result.{on_ok_weaker}
use Rattle.rvs_points.specs.PointView.{label_view}
use Rattle.rvs_points.specs.declared.group.Label.{Label}
use Rattle.rvs_prop.specs.Report.{all_measured, labels_text, sum_text, total_line}
use Rattle.rvs_prop.proofs.report.push_labels.Goals as goal

-- the labels that are left are none
all_said : (text first all : List ℕ) (rest other : List ℕ) (left : List Label) → left ≡ []
    → text ++ labels_text rest other (map label_view left) ≡ first ++ all → text ≡ first ++ all
all_said text first all rest other left none same =
    sym (ap (λ (ls : List Label). text ++ labels_text rest other (map label_view ls)) none
    ∙ append-nil text)
    ∙ same

all_counted : (points all : ℕ) (left : List Label) → left ≡ []
    → points + all_measured (map label_view left) ≡ all → points ≡ all
all_counted points all left none same =
    let rest = ap (λ (ls : List Label). all_measured (map label_view ls)) none in
    omega (arith, rest, same)

pub returns : goal.returns
returns c =
    let labels = map label_view c.args.labels.now in
    let said = labels_text c.args.reached.now c.args.hits.now labels in
    let none = drop_all c.loop-label.label-index c.args.labels.now c.loop-label-test.false in
    let left = drop c.loop-label.label-index c.args.labels.now in
    let text = all_said c.loop-label.text c.args.text.now said c.loop-label.rest.now
    c.loop-label.other.now left none c.loop-label.invariant.same in
    let points = all_counted c.loop-label.points (all_measured labels) left none
    c.loop-label.invariant.points in
    let spelled : c.as_str.result.now
    ≡ codes "total " ++ sum_text c.hit_count-hit.result c.loop-label.points = search rules in
    let line : c.as_str.result.now ≡ total_line c.args.reached.now (all_measured labels) =
    spelled ∙ (λ k. codes "total " ++ sum_text (c.hit_count-hit.ensures k) (points k)) in
    on_ok_weaker c.push_str.result (λ added. added
    ∙ (λ k. text k ++ line k)
    ∙ append_assoc c.args.text.now said (total_line c.args.reached.now (all_measured labels)))
    c.push_str.ensures.added
