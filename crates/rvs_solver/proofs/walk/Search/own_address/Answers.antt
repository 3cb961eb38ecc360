use Rattle.std.proofs.Common.{rules, ◌∙◌, sym}
use Rattle.rvs_solver.specs.Walk.{search_view, is_true_at}
use Rattle.rvs_solver.proofs.Turns.{address_found, address_passed}
use Rattle.rvs_solver.proofs.walk.Search.own_address.Goals as goal

pub returns-then-is_true-clause-value : goal.returns-then-is_true-clause-value
returns-then-is_true-clause-value g c =
    let s = search_view c.args.self.now in
    address_found (is_true_at s.formula) s.same c.in-Some.same c.args.operand.now
    c.with_numbers-choice.result c.in-Some.is (search rules)
    (sym c.is_true.ensures.value ∙ c.if-is_true.true)

pub returns-else-is_true-clause-value : goal.returns-else-is_true-clause-value
returns-else-is_true-clause-value g c =
    let s = search_view c.args.self.now in
    address_passed (is_true_at s.formula) s.same c.in-Some.same c.args.operand.now
    c.with_numbers-choice.result c.in-Some.is (search rules)
    (sym c.is_true.ensures.value ∙ c.if-is_true.false)
