use Rattle.std.proofs.Common.{◌∙◌, sym, ap}
use Rattle.std.proofs.lemmas.Result.{err_from_is_err_and}
use Rattle.rvs_tree.specs.ValueView.{value_view}
use Rattle.rvs_yaml.specs.Checks.{◌>>=◌}
use Rattle.rvs_yaml.specs.Front.{ends}
use Rattle.rvs_yaml.specs.StepParts.{closed_value}
use Rattle.rvs_yaml.specs.StackView.{done_view, stack_view}
use Rattle.rvs_yaml.proofs.Giving.{fails_first}
use Rattle.rvs_yaml.proofs.Lookups.{stack-push}
use Rattle.rvs_yaml.proofs.closing.closed_blocks.Goals as goal

pub loop-outer-preserved : goal.loop-outer-preserved
loop-outer-preserved c =
    let rest = stack_view c.pop.new.self.items in
    let v = value_view c.loop-outer.value in
    sym (ap (λ m. m >>= λ w. ends w rest) c.in_ok-value.ensures.given)
    ∙ sym (ap (ends v)
    (ap stack_view c.in-Some.ensures.items ∙ stack-push c.pop.new.self.items c.in-Some.outer))
    ∙ c.loop-outer.invariant

pub returns-in_err-value : goal.returns-in_err-value
returns-in_err-value c =
    let outer = c.in-Some.outer in
    let rest = stack_view c.pop.new.self.items in
    let v = value_view c.loop-outer.value in
    let p = err_from_is_err_and c.from_residual.result c.from_residual.ensures.1 in
    rw (p.1, p.2) (fails_first _ (closed_value (done_view outer.block.done) outer.block.line v)
    (λ w. ends w rest) _
    (sym (ap (ends v) (ap stack_view c.in-Some.ensures.items
    ∙ stack-push c.pop.new.self.items outer))
    ∙ c.loop-outer.invariant)
    c.in_err-value.ensures.given)
