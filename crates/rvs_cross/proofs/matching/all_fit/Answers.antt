use Rattle.std.proofs.Common.{map, arith}
use Rattle.rvs_cross.specs.CrossView.{place_view}
use Rattle.rvs_cross.specs.Windows.{all_fit}
use Rattle.rvs_cross.proofs.Turns.{some_of, fit_turn, fit_fails, fit_end}
use Rattle.rvs_cross.proofs.matching.all_fit.Goals as goal

pub returns-then-not-fits-clause-value : goal.returns-then-not-fits-clause-value
returns-then-not-fits-clause-value g c =
    fit_fails place_view c.args.values.now c.args.places.now c.args.window.now c.loop-k.k
    c.index-places-k.result c.index-window-k.result
    (all_fit c.args.values.now (map place_view c.args.places.now) (some_of c.args.window.now))
    c.fits.result c.loop-k-test.true c.requires c.index-places-k.is c.index-window-k.is
    c.loop-k.invariant.fit c.fits.ensures.value c.if-not-fits.true

pub loop-k-preserved : goal.loop-k-preserved
loop-k-preserved g c = record {
  fit = fit_turn place_view c.args.values.now c.args.places.now c.args.window.now c.loop-k.k
      c.index-places-k.result c.index-window-k.result
      (all_fit c.args.values.now (map place_view c.args.places.now) (some_of c.args.window.now))
      c.fits.result c.loop-k-test.true c.requires c.index-places-k.is c.index-window-k.is
      c.loop-k.invariant.fit c.fits.ensures.value c.if-not-fits.false;
  cost = omega (arith, c.loop-k.invariant.cost, c.fits.ensures.cost);
}

pub returns-clause-value : goal.returns-clause-value
returns-clause-value g c =
    fit_end place_view c.args.values.now c.args.places.now c.args.window.now c.loop-k.k
    (all_fit c.args.values.now (map place_view c.args.places.now) (some_of c.args.window.now))
    c.loop-k-test.false c.requires c.loop-k.invariant.fit
