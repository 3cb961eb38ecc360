use Rattle.std.proofs.Common.{◌&&◌, ◌∙◌, Ok, ap, sym}
use Rattle.rvs_yaml.specs.Checks.{Checked}
use Rattle.std.proofs.lemmas.Result.{err_from_is_err_and}
use Rattle.rvs_yaml.specs.Flow.{fits}
use Rattle.rvs_yaml.specs.FlowSteps.{Reading, open_in, moved}
use Rattle.rvs_yaml.specs.FlowView.{place_view, levels_view}
use Rattle.rvs_yaml_text.specs.WordView.{bracket_view}
use Rattle.rvs_yaml.proofs.Deciding.{gave, fails_before, fails_earlier}
use Rattle.rvs_yaml.proofs.flow.moved.Goals as goal

pub returns-in_err-place-clause-refused : goal.returns-in_err-place-clause-refused
returns-in_err-place-clause-refused c =
    let a = c.args in
    let p = err_from_is_err_and c.from_residual.result c.from_residual.ensures.1 in
    rw (p.1, p.2) (fails_earlier _ _ _ (fails_before _
    (λ next. open_in (a.good && fits next) (bracket_view a.level.bracket) next
    (levels_view a.outer.items))) c.in_err-place.ensures.refused)

pub returns : goal.returns
returns c =
    let a = c.args in
    let b = bracket_view a.level.bracket in
    let outer = levels_view a.outer.items in
    let place = place_view c.in_ok-place.place in
    let e = ap (moved a.good b outer) c.in_ok-place.ensures.given
    ∙ ap (λ g. let r : Checked Reading = Ok (open_in g b place outer) in r)
    (sym c.still_good-good.ensures) in
    record { given = e; refused = gave _ _ _ e }
