use Rattle.std.proofs.Common.{◌∷◌, [], ◌∙◌, ap, sym, map, drop, length, length-append, ◌+◌}
use Rattle.std.proofs.lemmas.List.{map-append}
use Rattle.rvs_cross.specs.Parse.{places}
use Rattle.rvs_cross.specs.CrossView.{place_view}
use Rattle.rvs_cross.proofs.Rows.{with_front, texts, places_more, places_fail}
use Rattle.rvs_cross.proofs.building.fill.Goals as goal

pub loop-i-preserved : goal.loop-i-preserved
loop-i-preserved c =
    let vars = c.args.variables.now in
    let a = c.args.mnemonics.now in
    let b = c.args.assignments.now in
    let d = c.args.conditions.now in
    let i = c.loop-i.i in
    let rest =
    places vars (texts (drop (i + 1) a)) (texts (drop (i + 1) b)) (texts (drop (i + 1) d)) in
    record {
      long = ap length c.in_ok-push-in-Ok.ensures.added
          ∙ length-append c.loop-i.list (c.in-Ok.place ∷ [])
          ∙ ap (λ n. n + 1) c.loop-i.invariant.long;
      same = ap (λ ps. with_front (map place_view ps) rest) c.in_ok-push-in-Ok.ensures.added
          ∙ ap (λ ps. with_front ps rest)
          (map-append place_view c.loop-i.list (c.in-Ok.place ∷ []))
          ∙ places_more vars a b d i _ (map place_view c.loop-i.list)
          (place_view c.in-Ok.place) c.loop-i-test.true c.requires.sets
          c.requires.conditions c.in-Ok.ensures
          ∙ c.loop-i.invariant.same;
    }

pub returns-in-Err : goal.returns-in-Err
returns-in-Err c = record {
  places = λ r e. sym c.loop-i.invariant.same
      ∙ places_fail c.args.variables.now c.args.mnemonics.now c.args.assignments.now
      c.args.conditions.now c.loop-i.i _ (map place_view c.loop-i.list) r c.loop-i-test.true
      c.requires.sets c.requires.conditions (c.in-Err.ensures r e);
  length = tt;
}
