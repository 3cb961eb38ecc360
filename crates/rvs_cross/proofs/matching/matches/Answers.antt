use Rattle.std.proofs.Common.{map, ap, sym, ◌∙◌}
use Rattle.rvs_cross.specs.declared.cross.Variable.TheVariants.{First, Second, Third}
use Rattle.rvs_cross.specs.Bare.{bare_view}
use Rattle.rvs_cross.specs.CrossView.{place_view, cross_view}
use Rattle.rvs_cross.specs.Windows.{Values, all_fit}
use Rattle.rvs_cross.specs.Assigned.{assigned}
use Rattle.rvs_cross.proofs.Turns.{some_of}
use Rattle.rvs_cross.proofs.Binding.{found_match, values_from}
use Rattle.rvs_cross.proofs.Single.{AreLow, Kept, single_match, unbound_match}
use Rattle.rvs_cross.proofs.matching.matches.Goals as goal

pub returns-then-not-cross-clause-value : goal.returns-then-not-cross-clause-value
returns-then-not-cross-clause-value g c =
    let ps = cross_view c.args.cross.now in
    let is = c.args.window.now in
    let list = ap (map place_view) c.as_slice-places.ensures in
    let v : Values = record {
      first = c.found-first.result;
      second = c.found-second.result;
      third = c.found-third.result;
    } in
    found_match ps is v c.all_fit.result
    (values_from ps is c.found-first.result c.found-second.result c.found-third.result
    (c.found-first.ensures.value ∙ ap (λ qs. assigned First qs is) list)
    (c.found-second.ensures.value ∙ ap (λ qs. assigned Second qs is) list)
    (c.found-third.ensures.value ∙ ap (λ qs. assigned Third qs is) list))
    c.found-first.ensures.register c.found-second.ensures.register c.found-third.ensures.register
    (c.all_fit.ensures.value ∙ ap (λ qs. all_fit v qs (some_of is)) list)

pub returns-then-not-all_bound-clause-value : goal.returns-then-not-all_bound-clause-value
returns-then-not-all_bound-clause-value g c =
    let ps = cross_view c.args.cross.now in
    let is = c.args.window.now in
    let list = ap (map place_view) c.as_slice-places.ensures in
    let v : Values = record {
      first = c.found-first.result;
      second = c.found-second.result;
      third = c.found-third.result;
    } in
    let low : AreLow v = record {
      first = c.found-first.ensures.register;
      second = c.found-second.ensures.register;
      third = c.found-third.ensures.register;
    } in
    let used = c.args.cross.now.used in
    let kept : Kept c.args.cross.now.list used.first used.second used.third = record {
      first = c.args.cross.now.first;
      second = c.args.cross.now.second;
      third = c.args.cross.now.third;
    } in
    unbound_match c.args.cross.now.list is v used.first used.second used.third
    (values_from ps is c.found-first.result c.found-second.result c.found-third.result
    (c.found-first.ensures.value ∙ ap (λ qs. assigned First qs is) list)
    (c.found-second.ensures.value ∙ ap (λ qs. assigned Second qs is) list)
    (c.found-third.ensures.value ∙ ap (λ qs. assigned Third qs is) list))
    low kept (sym c.all_bound.ensures ∙ c.if-not-all_bound.true)

pub returns-clause-value : goal.returns-clause-value
returns-clause-value g c =
    let ps = cross_view c.args.cross.now in
    let is = c.args.window.now in
    let list = ap (map place_view) c.as_slice-places.ensures in
    let v : Values = record {
      first = c.found-first.result;
      second = c.found-second.result;
      third = c.found-third.result;
    } in
    let low : AreLow v = record {
      first = c.found-first.ensures.register;
      second = c.found-second.ensures.register;
      third = c.found-third.ensures.register;
    } in
    let used = c.args.cross.now.used in
    let kept : Kept c.args.cross.now.list used.first used.second used.third = record {
      first = c.args.cross.now.first;
      second = c.args.cross.now.second;
      third = c.args.cross.now.third;
    } in
    single_match c.args.cross.now.list is v used.first used.second used.third c.all_bare.result
    (values_from ps is c.found-first.result c.found-second.result c.found-third.result
    (c.found-first.ensures.value ∙ ap (λ qs. assigned First qs is) list)
    (c.found-second.ensures.value ∙ ap (λ qs. assigned Second qs is) list)
    (c.found-third.ensures.value ∙ ap (λ qs. assigned Third qs is) list))
    low kept (sym c.all_bound.ensures ∙ c.if-not-all_bound.false)
    (sym c.args.cross.now.alone ∙ c.if-not-cross.false)
    (c.all_bare.ensures.value
    ∙ ap (λ l. all_fit v (map bare_view l) (some_of is)) c.as_slice-places.ensures)
