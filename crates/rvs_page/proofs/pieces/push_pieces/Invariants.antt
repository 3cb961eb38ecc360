use Rattle.std.proofs.Common.{◌≡◌, ◌++◌, drop}
use Rattle.std.specs.List.{flat_map}
use Rattle.rvs_page.specs.Pieces.{piece_text}
use Rattle.rvs_page.proofs.pieces.push_pieces.Given as goal

abbrev pub invariant-loop-piece : goal.invariant-loop-piece
invariant-loop-piece l =
    l.page.items ++ flat_map piece_text (drop l.piece-index l.pieces)
    ≡ l.initial.page.items ++ flat_map piece_text l.pieces
