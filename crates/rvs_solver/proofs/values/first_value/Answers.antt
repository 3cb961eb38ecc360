use Rattle.std.proofs.Common.{rules, ◌∙◌, arith}
use Rattle.rvs_expr.specs.TypedView.{view}
use Rattle.rvs_solver.specs.Walk.{search_view}
use Rattle.rvs_solver.proofs.Calls.{passing_call, found_call, cost_call}
use Rattle.rvs_solver.proofs.values.first_value.Goals as goal

pub first-found-requires : goal.first-found-requires
first-found-requires g c =
    passing_call c.args.spec.now c.args.op (view c.args.expr.now)
    (search_view c.in_ok-search.search) c.to_try.result.now c.requires c.in_ok-search.ensures
    (search rules)

pub returns-clause-first : goal.returns-clause-first
returns-clause-first g c =
    c.first-found.ensures.first
    ∙ found_call c.args.spec.now c.args.op (view c.args.expr.now)
    (search_view c.in_ok-search.search) c.to_try.result.now c.requires c.in_ok-search.ensures
    (search rules)

pub returns-clause-cost : goal.returns-clause-cost
returns-clause-cost g c =
    omega (
      arith,
      c.first-found.ensures.cost,
      cost_call c.args.spec.now c.args.op (view c.args.expr.now)
          (search_view c.in_ok-search.search) c.to_try.result.now c.in_ok-search.ensures
          (search rules),
    )
