use Rattle.std.proofs.Common.{sym, ◌∙◌}
use Rattle.rvs_points.specs.PointView.{meaning_view, point_view}
use Rattle.rvs_solver.proofs.Answer.{nothing_hits}
use Rattle.rvs_solver.proofs.Meant.{least_choice}
use Rattle.rvs_solver.proofs.OneWord.{one_word_each, first_is_kept}
use Rattle.rvs_solver.proofs.solving.solve_choice.Goals as goal

pub returns-in-Some-clause-least : goal.returns-in-Some-clause-least
returns-in-Some-clause-least g c =
    least_choice c.args.spec.now c.args.ops.now (point_view c.args.point.now) c.in-Some.choice
    (sym c.in-Some.is ∙ c.in_ok-choice.ensures.first)

pub returns-in-Some-clause-words : goal.returns-in-Some-clause-words
returns-in-Some-clause-words g c =
    one_word_each c.in-Some.choice (first_is_kept c.args.spec.now c.args.ops.now
    c.args.point.now.kind (meaning_view c.args.point.now.meaning) c.in-Some.choice
    (sym c.in_ok-choice.ensures.first ∙ c.in-Some.is))

pub returns-in-None-clause-none : goal.returns-in-None-clause-none
returns-in-None-clause-none g c =
    nothing_hits c.args.spec.now c.args.ops.now c.args.point.now.kind
    (meaning_view c.args.point.now.meaning) (sym c.in_ok-choice.ensures.first ∙ c.in-None.is)
