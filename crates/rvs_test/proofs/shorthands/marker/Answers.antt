use Rattle.std.proofs.Common.{◌∙◌, ℕ, Option, sym, ap}
use Rattle.std.specs.Prelude.{unwrap_or}
use Rattle.rvs_test_text.specs.TestText.{is_mark, other_helper}
use Rattle.rvs_test.proofs.Helpers.{first-low}
use Rattle.rvs_test.proofs.shorthands.marker.Goals as goal

pub returns-in-Some-clause-value : goal.returns-in-Some-clause-value
returns-in-Some-clause-value c =
    ap (λ (o : Option ℕ). unwrap_or o 0) (sym c.in-Some.is ∙ c.first_mark.ensures)
    ∙ ap (other_helper c.args.choice.now) c.pointer.ensures.value

pub returns-in-None-clause-value : goal.returns-in-None-clause-value
returns-in-None-clause-value c =
    ap (λ (o : Option ℕ). unwrap_or o 0) (sym c.in-None.is ∙ c.first_mark.ensures)
    ∙ ap (other_helper c.args.choice.now) c.pointer.ensures.value

pub returns-in-Some-clause-low : goal.returns-in-Some-clause-low
returns-in-Some-clause-low c =
    first-low (is_mark c.args.choice.now c.pointer.result) _
    (sym c.first_mark.ensures ∙ c.in-Some.is)
