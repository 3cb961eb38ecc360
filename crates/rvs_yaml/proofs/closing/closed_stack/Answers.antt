use Rattle.std.proofs.Common.{◌≡◌, ◌∙◌, sym, ap, subst}
use Rattle.std.proofs.lemmas.Result.{err_from_is_err_and}
use Rattle.rvs_tree.specs.ValueView.{value_view}
use Rattle.rvs_yaml.specs.Checks.{◌>>=◌}
use Rattle.rvs_yaml.specs.Front.{own_value, ends, front_value}
use Rattle.rvs_yaml.specs.Gives.{Gives}
use Rattle.rvs_yaml.specs.StepParts.{closed_value}
use Rattle.rvs_yaml.specs.StackView.{done_view, open_view, stack_view}
use Rattle.rvs_yaml.proofs.Giving.{fails_first, gives_same}
use Rattle.rvs_yaml.proofs.Lookups.{stack-push}
use Rattle.rvs_yaml.proofs.closing.closed_stack.Goals as goal

pub returns-in_err-value-in-Ok : goal.returns-in_err-value-in-Ok
returns-in_err-value-in-Ok c =
    let top = c.in-Some.top in
    let rest = stack_view c.pop.new.self.items in
    let d = done_view top.block.done in
    let line = top.block.line in
    let v = value_view c.in-Ok.own in
    let own : v ≡ own_value (open_view top) = c.in-Ok.ensures in
    let e : (closed_value d line v >>= λ w. ends w rest)
    ≡ front_value (stack_view c.args.blocks.items) =
    ap (λ u. closed_value d line u >>= λ w. ends w rest) own
    ∙ sym (ap front_value (ap stack_view c.in-Some.ensures.items
    ∙ stack-push c.pop.new.self.items top)) in
    let p = err_from_is_err_and c.from_residual-in_err-value-in-Ok.result
    c.from_residual-in_err-value-in-Ok.ensures.1 in
    rw (p.1, p.2) (fails_first _ (closed_value d line v) (λ w. ends w rest) _ e
    (subst (λ r. Gives value_view r (closed_value d line v))
    c.in_err-value-in-Ok.ensures.none c.closed_value.ensures.given))

pub returns-in_ok-value-in-Ok : goal.returns-in_ok-value-in-Ok
returns-in_ok-value-in-Ok c =
    let top = c.in-Some.top in
    let made = c.in_ok-value-in-Ok in
    let rest = stack_view c.pop.new.self.items in
    let d = done_view top.block.done in
    let line = top.block.line in
    let v = value_view c.in-Ok.own in
    let own : v ≡ own_value (open_view top) = c.in-Ok.ensures in
    let closed = subst (λ r. Gives value_view r (closed_value d line v))
    made.ensures.both.0 c.closed_value.ensures.given in
    let e : ends (value_view made.value) (stack_view made.blocks.items)
    ≡ front_value (stack_view c.args.blocks.items) =
    ap (λ bs. ends (value_view made.value) (stack_view bs.items)) made.ensures.both.1
    ∙ sym (ap (λ m. m >>= λ w. ends w rest) closed)
    ∙ ap (λ u. closed_value d line u >>= λ w. ends w rest) own
    ∙ sym (ap front_value (ap stack_view c.in-Some.ensures.items
    ∙ stack-push c.pop.new.self.items top)) in
    gives_same _ _ _ _ e c.closed_blocks.ensures
