use Rattle.std.proofs.Common.{map, arith}
use Rattle.rvs_cross.specs.Bare.{bare_view}
use Rattle.rvs_cross.specs.Windows.{all_fit}
use Rattle.rvs_cross.proofs.Turns.{some_of, fit_turn, fit_fails, fit_end}
use Rattle.rvs_cross.proofs.matching.all_bare.Goals as goal

pub returns-then-not-fits_bare-clause-value : goal.returns-then-not-fits_bare-clause-value
returns-then-not-fits_bare-clause-value g c =
    fit_fails bare_view c.args.values.now c.args.places.now c.args.window.now c.loop-k.k
    c.index-places-k.result c.index-window-k.result
    (all_fit c.args.values.now (map bare_view c.args.places.now) (some_of c.args.window.now))
    c.fits_bare.result c.loop-k-test.true c.requires c.index-places-k.is c.index-window-k.is
    c.loop-k.invariant.fit c.fits_bare.ensures.value c.if-not-fits_bare.true

pub loop-k-preserved : goal.loop-k-preserved
loop-k-preserved g c = record {
  fit = fit_turn bare_view c.args.values.now c.args.places.now c.args.window.now c.loop-k.k
      c.index-places-k.result c.index-window-k.result
      (all_fit c.args.values.now (map bare_view c.args.places.now) (some_of c.args.window.now))
      c.fits_bare.result c.loop-k-test.true c.requires c.index-places-k.is c.index-window-k.is
      c.loop-k.invariant.fit c.fits_bare.ensures.value c.if-not-fits_bare.false;
  cost = omega (arith, c.loop-k.invariant.cost, c.fits_bare.ensures.cost);
}

pub returns-clause-value : goal.returns-clause-value
returns-clause-value g c =
    fit_end bare_view c.args.values.now c.args.places.now c.args.window.now c.loop-k.k
    (all_fit c.args.values.now (map bare_view c.args.places.now) (some_of c.args.window.now))
    c.loop-k-test.false c.requires c.loop-k.invariant.fit
