use Rattle.std.proofs.Common.{◌≡◌, ◌∙◌, ◌∷◌, ◌++◌, [], Ok, sym, ap, map, reverse, rules, List}
use Rattle.std.specs.Prelude.{◌&&◌}
use Rattle.std.proofs.lemmas.List.{reverse-append}
use Rattle.std.proofs.lemmas.Result.{err_from_is_err_and}
use Rattle.rvs_tree.proofs.Sums.{map-append}
use Rattle.rvs_tree.specs.ValueView.{value_view}
use Rattle.rvs_yaml.specs.Checks.{Checked, ◌>>=◌}
use Rattle.rvs_yaml.specs.Flow.{with_value, fits}
use Rattle.rvs_yaml.specs.FlowSteps.{Reading, open_in, into}
use Rattle.rvs_yaml.specs.FlowView.{place_view, level_view, levels_view}
use Rattle.rvs_yaml.specs.declared.reading.Level.{Level}
use Rattle.rvs_yaml_text.specs.WordView.{bracket_view}
use Rattle.rvs_yaml.proofs.Deciding.{gave, fails_before, fails_earlier}
use Rattle.rvs_yaml.proofs.Giving.{fails_first}
use Rattle.rvs_yaml.proofs.flow.into.Goals as goal

levels-push : (ls : List Level) (l : Level)
    → levels_view (ls ++ l ∷ []) ≡ level_view l ∷ levels_view ls
levels-push ls l = ap reverse (map-append level_view ls (l ∷ []))
    ∙ reverse-append (map level_view ls) (level_view l ∷ [])

pub returns-in_default : goal.returns-in_default
returns-in_default c =
    let none : c.args.outer.items ≡ [] = search rules in
    let e = ap (λ ls. into (value_view c.args.value, c.args.good) (levels_view ls)) none in
    record { given = e; refused = gave _ _ _ e }

pub returns-in_err-place : goal.returns-in_err-place
returns-in_err-place c =
    let a = c.args in
    let v = value_view a.value in
    let l = c.in-Some.level in
    let rest = levels_view c.pop.new.self.items in
    let e = ap (λ ls. into (v, a.good) ls)
    (ap levels_view c.in-Some.ensures.items ∙ levels-push c.pop.new.self.items l) in
    let p = err_from_is_err_and c.from_residual.result c.from_residual.ensures.1 in
    record {
      given = rw (p.1, p.2) (fails_first _ (with_value (place_view l.place) v)
          (λ next. Ok (open_in (a.good && fits next) (bracket_view l.bracket) next rest)) _ (sym e)
          c.in_err-place.ensures.given);
      refused = rw (p.1, p.2) (fails_earlier _ _ _ (λ kind h. fails_before
          (with_value (place_view l.place) v)
          (λ next. open_in (a.good && fits next) (bracket_view l.bracket) next rest) kind
          (sym e ∙ h)) c.in_err-place.ensures.refused);
    }

pub returns : goal.returns
returns c =
    let a = c.args in
    let v = value_view a.value in
    let l = c.in-Some.level in
    let place = place_view c.in_ok-place.place in
    let rest = levels_view c.pop.new.self.items in
    let e = ap (λ ls. into (v, a.good) ls)
    (ap levels_view c.in-Some.ensures.items ∙ levels-push c.pop.new.self.items l)
    ∙ ap (λ m. m >>= λ next. let r : Checked Reading =
    Ok (open_in (a.good && fits next) (bracket_view l.bracket) next rest) in r)
    c.in_ok-place.ensures.given
    ∙ ap (λ g. let r : Checked Reading = Ok (open_in g (bracket_view l.bracket) place rest) in r)
    (sym c.still_good-good.ensures) in
    record { given = e; refused = gave _ _ _ e }
