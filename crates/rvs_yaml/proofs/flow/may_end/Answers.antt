use Rattle.std.proofs.Common.{ap, sym, subst}
use Rattle.std.proofs.lemmas.Result.{err_from_is_err_and}
use Rattle.rvs_yaml.specs.Checks.{Checked, succeeds}
use Rattle.rvs_yaml.specs.Gives.{Agrees}
use Rattle.rvs_yaml.specs.FlowView.{place_view, levels_view}
use Rattle.rvs_yaml_text.specs.WordView.{bracket_view}
use Rattle.rvs_yaml.proofs.Deciding.{closed-not, closed-bracket, closed-tail}
use Rattle.rvs_yaml.proofs.flow.may_end.Goals as goal

pub returns-in_err-may_close : goal.returns-in_err-may_close
returns-in_err-may_close c =
    let a = c.args in
    let l = a.level.now in
    let p = err_from_is_err_and c.from_residual.result c.from_residual.ensures.1 in
    rw (p.1, p.2) (λ poor line good. ap succeeds (closed-not poor line good
    (bracket_view l.bracket) (place_view l.place) (levels_view a.outer.now)
    (bracket_view a.bracket) _ (c.in_err-may_close.ensures line)))

pub returns-in_err-ends_with : goal.returns-in_err-ends_with
returns-in_err-ends_with c =
    let a = c.args in
    let l = a.level.now in
    let p = err_from_is_err_and c.from_residual-in_err-ends_with.result
    c.from_residual-in_err-ends_with.ensures.1 in
    rw (p.1, p.2) (λ poor line good. ap succeeds (closed-bracket poor line good
    (bracket_view l.bracket) (place_view l.place) (levels_view a.outer.now)
    (bracket_view a.bracket) _ (c.in_ok-may_close.ensures line) c.in_err-ends_with.ensures))

pub returns : goal.returns
returns c = λ poor line good.
    let a = c.args in
    let l = a.level.now in
    let q = closed-tail poor line good (bracket_view l.bracket) (place_view l.place)
    (levels_view a.outer.now) (bracket_view a.bracket) (c.in_ok-may_close.ensures line)
    c.in_ok-ends_with.ensures in
    subst (λ (m : Checked (Unit {0})). Agrees (λ u. u) c.may_go_on.result m) (sym q.1)
    (c.may_go_on.ensures q.0 good)
