use Rattle.std.proofs.Common.{[], ◌∷◌, ◌∙◌, ◌++◌, ◌≡◌, Bool, true, false, cond, ap, codes, refl}
use Rattle.rvs_page.proofs.Telling.{more-told, all-told}
use Rattle.rvs_page.specs.Pieces.{told}
use Rattle.rvs_page.specs.Points.{no_hits, skipped_row}
use Rattle.rvs_page.specs.declared.pieces.Piece.TheVariants.{Html}
use Rattle.rvs_page.proofs.points.push_each_skipped.Goals as goal

no-hits : (b : Bool) → cond b (codes "<td></td></tr>\n") (codes "</tr>\n") ≡ no_hits b
no-hits true = refl
no-hits false = refl

pub loop-one-preserved : goal.loop-one-preserved
unfolding skipped_row
loop-one-preserved c =
    more-told (skipped_row c.args.counted) c.loop-one.page.items c.args.skipped.now _
    c.loop-one-test.true c.one-item.is
    (c.in_ok-push_pieces.ensures ∙ ap (λ ps. c.loop-one.page.items ++ told ps)
    (λ i. c.html.ensures i ∷ c.text.ensures i ∷ c.html-in-loop-one.ensures i
    ∷ c.text-in-loop-one.ensures i ∷ c.html-in-loop-one-2.ensures i
    ∷ (c.either.ensures ∙ ap Html (no-hits c.args.counted)) i ∷ []))
    c.loop-one.invariant

pub returns : goal.returns
returns c =
    all-told (skipped_row c.args.counted) c.loop-one.page.items c.args.skipped.now
    c.loop-one-test.false c.loop-one.invariant
