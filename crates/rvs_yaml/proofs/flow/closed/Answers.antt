use Rattle.std.proofs.Common.{◌≡◌, ◌∙◌, Err, Ok, Some, refl, sym, ap}
use Rattle.std.proofs.lemmas.Result.{err_from_is_err_and}
use Rattle.rvs_tree.specs.ValueView.{value_view}
use Rattle.rvs_yaml.specs.Checks.{◌>>◌, succeeds}
use Rattle.rvs_yaml.specs.Flow.{ends_with}
use Rattle.rvs_yaml.specs.FlowParts.{closed}
use Rattle.rvs_yaml.specs.FlowSteps.{closed_by, into}
use Rattle.rvs_yaml.specs.FlowView.{place_view, levels_view}
use Rattle.rvs_yaml_text.specs.WordView.{bracket_view}
use Rattle.rvs_yaml.proofs.Deciding.{fails_so, failed, has_value, gave, closed-into}
use Rattle.rvs_yaml.proofs.Giving.{fails_with, fails_first, gives_same}
use Rattle.rvs_yaml.proofs.flow.closed.Goals as goal

pub returns-in_err-value-in-Ok : goal.returns-in_err-value-in-Ok
returns-in_err-value-in-Ok c =
    let a = c.args in
    let b = bracket_view a.level.bracket in
    let place = place_view a.level.place in
    let outer = levels_view a.outer.items in
    let last = bracket_view a.bracket in
    let well : succeeds (closed a.poor a.line a.good b place outer last) ≡ Ok tt =
    sym (ap (λ ls. succeeds (closed a.poor a.line a.good b place (levels_view ls) last))
    c.as_slice.ensures.value) ∙ c.in-Ok.ensures a.poor a.line a.good in
    let q = has_value (closed a.poor a.line a.good b place outer last) well in
    let p = err_from_is_err_and c.from_residual.result c.from_residual.ensures.1 in
    record {
      given = rw (p.1, p.2) (fails_first _ (closed_by a.poor a.line place)
          (λ v. ends_with b (Some last) >> into (v, a.good) outer) _ refl
          c.in_err-value-in-Ok.ensures.given);
      refused = gave _ _ q.0 q.1;
    }

pub returns-in_ok-value-in-Ok : goal.returns-in_ok-value-in-Ok
returns-in_ok-value-in-Ok c =
    let a = c.args in
    let b = bracket_view a.level.bracket in
    let place = place_view a.level.place in
    let outer = levels_view a.outer.items in
    let last = bracket_view a.bracket in
    let well : succeeds (closed a.poor a.line a.good b place outer last) ≡ Ok tt =
    sym (ap (λ ls. succeeds (closed a.poor a.line a.good b place (levels_view ls) last))
    c.as_slice.ensures.value) ∙ c.in-Ok.ensures a.poor a.line a.good in
    let e = closed-into a.poor a.line a.good b place outer last
    (value_view c.in_ok-value-in-Ok.value) c.in_ok-value-in-Ok.ensures.given well in
    record {
      given = gives_same _ _ _ _ (sym e) c.into.ensures.given;
      refused = λ kind h. c.into.ensures.refused kind (sym e ∙ h);
    }

pub returns-in-Err : goal.returns-in-Err
returns-in-Err c =
    let a = c.args in
    let b = bracket_view a.level.bracket in
    let place = place_view a.level.place in
    let last = bracket_view a.bracket in
    let e : closed a.poor a.line a.good b place (levels_view a.outer.items) last
    ≡ Err c.in-Err.kind =
    fails_so (closed a.poor a.line a.good b place (levels_view a.outer.items) last) c.in-Err.kind
    (sym (ap (λ ls. succeeds (closed a.poor a.line a.good b place (levels_view ls) last))
    c.as_slice.ensures.value) ∙ c.in-Err.ensures a.poor a.line a.good) in
    record {
      given = fails_with _ _ e;
      refused = failed _ _ _ refl e;
    }
