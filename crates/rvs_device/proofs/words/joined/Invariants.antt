use Rattle.std.proofs.Common.{◌≡◌, ◌++◌, map, drop, string_bytes}
use Rattle.std.specs.List.{flat_map}
use Rattle.rvs_device.specs.Command.{joined, replaced}
use Rattle.rvs_device.specs.FillingView.{view}
use Rattle.rvs_device.proofs.words.joined.Given as goal

abbrev pub invariant-loop-piece : goal.invariant-loop-piece
invariant-loop-piece l =
    string_bytes l.text
    ++ flat_map (replaced (view l.filling)) (map (λ p. p.now) (drop l.piece-index l.rest))
    ≡ joined (view l.filling) (map (λ p. p.now) l.pieces)
