use Rattle.std.proofs.Common.{◌≡◌, ◌++◌, ◌∙◌, ap}
use Rattle.rvs_test_text.specs.TestText.{text_of, clear, begin, code_part}
use Rattle.rvs_test.proofs.Grows.{then_ok, code_there}
use Rattle.rvs_test.proofs.writing.push_code.Goals as goal

pub returns : goal.returns
returns c =
    then_ok c.push_statements-2.result
    (c.push_statements-2.new.out ≡ c.push_cases.new.out ++ text_of c.halt.result)
    (c.push_statements-2.new.out ≡ c.args.out.now
    ++ text_of (begin ++ code_part c.args.spec.now c.args.cases.now))
    (λ h. code_there c.args.spec.now c.args.cases.now c.args.out.now c.push_statements.new.out
    c.push_clear.new.out c.push_cases.new.out c.push_statements-2.new.out
    (c.in_ok-push_statements.ensures ∙ ap (λ x. c.args.out.now ++ text_of x) c.begin.ensures)
    (c.in_ok-push_clear.ensures
    ∙ ap (λ n. c.push_statements.new.out ++ text_of (clear 1 n)) c.requires.registers)
    c.in_ok-push_cases.ensures
    (h ∙ ap (λ x. c.push_cases.new.out ++ text_of x) c.halt.ensures))
    c.push_statements-2.ensures
