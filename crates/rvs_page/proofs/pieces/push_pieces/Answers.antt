use Rattle.rvs_page.proofs.Telling.{more-told, all-told}
use Rattle.rvs_page.specs.Pieces.{piece_text, told}
use Rattle.rvs_page.proofs.pieces.push_pieces.Goals as goal

pub loop-piece-preserved : goal.loop-piece-preserved
unfolding told
loop-piece-preserved c =
    more-told piece_text c.loop-piece.page.items c.args.pieces.now _ c.loop-piece-test.true
    c.piece-item.is c.in_ok-push_piece.ensures c.loop-piece.invariant

pub returns : goal.returns
unfolding told
returns c =
    all-told piece_text c.loop-piece.page.items c.args.pieces.now c.loop-piece-test.false
    c.loop-piece.invariant
