use Rattle.std.proofs.Common.{◌≡◌, ◌++◌, ◌∷◌, ℕ, List, [], append_assoc, append-nil, ap, ◌∙◌}
use Rattle.std.proofs.Common.{Bool, true, false, length, replicate, refl, sym, arith}
use Rattle.std.specs.Prelude.{if◌then◌else◌}
use Rattle.std.proofs.lemmas.List.{length-map, replicate_more}
use Rattle.rvs_insn.specs.declared.op.Op.{Op}
use Rattle.rvs_points.specs.Points.{Label, Point}
use Rattle.rvs_points.specs.PointView.{label_view}
use Rattle.rvs_count.specs.Report.{width}
use Rattle.rvs_index.specs.Counting.{aims_of_label, aims_of_points}
use Rattle.rvs_count.proofs.blank.add_label_zeros.Goals as goal

-- a label has a count for each of its points that are aimed at
widths : (selected : Bool) (ops : List Op) (points : List Point)
    → (if selected then length points else 0)
    ≡ length (if selected then aims_of_points ops points else [])
widths true ops points = sym (length-map points (λ p. record { ops = ops; point = p }))
widths false ops points = refl

width_is : (l : Label) → width l ≡ length (aims_of_label l)
width_is l = widths l.selected l.ops l.points

pub loop-init : goal.loop-init
loop-init c = sym (append-nil c.args.counts.now.items)

pub loop-preserved : goal.loop-preserved
loop-preserved c =
    let before = c.args.counts.now.items in
    let counter = c.loop.counter in
    c.in_ok-push.ensures.items ∙ ap (λ (l : List ℕ). l ++ 0 ∷ []) c.loop.invariant
    ∙ append_assoc before (replicate {A = ℕ} counter 0) (0 ∷ [])
    ∙ ap (λ (l : List ℕ). before ++ l) (replicate_more counter 0)

pub returns : goal.returns
returns c =
    let l = label_view c.args.label.now in
    let counter : c.loop.counter ≡ c.width-end.result =
    omega (arith, c.loop-test.false, c.loop.auto.counter-end) in
    c.loop.invariant
    ∙ ap (λ (n : ℕ). c.args.counts.now.items ++ replicate {A = ℕ} n 0)
    (counter ∙ c.width-end.ensures ∙ width_is l)
