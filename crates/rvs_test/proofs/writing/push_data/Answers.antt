use Rattle.std.proofs.Common.{◌≡◌, ◌++◌, ◌∷◌, [], ◌∙◌, ap}
use Rattle.rvs_test_text.specs.declared.statement.Name.TheVariants.{EndSignature}
use Rattle.rvs_test_text.specs.declared.statement.Statement.TheVariants.{Label}
use Rattle.rvs_test_text.specs.TestText.{text_of, data_part}
use Rattle.rvs_test.proofs.Grows.{then_ok, data_there}
use Rattle.rvs_test.proofs.writing.push_data.Goals as goal

pub returns : goal.returns
returns c =
    then_ok c.push_statements-2.result
    (c.push_statements-2.new.out ≡ c.push_slots.new.out ++ text_of (Label EndSignature ∷ []))
    (c.push_statements-2.new.out ≡ c.args.out.now ++ text_of (data_part c.args.count))
    (λ h. data_there c.args.count c.args.out.now c.push_statements.new.out c.push_slots.new.out
    c.push_statements-2.new.out
    (c.in_ok-push_statements.ensures ∙ ap (λ x. c.args.out.now ++ text_of x) c.fixed_data.ensures)
    c.in_ok-push_slots.ensures h)
    c.push_statements-2.ensures
