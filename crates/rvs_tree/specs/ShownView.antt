-- What keys with depths stand for.
use Rattle.std.specs.Prelude.{ℕ, List, map, string_bytes}
use Rattle.rvs_tree.specs.declared.key_depth.KeyDepth.{KeyDepth}

abbrev pub depths_view : List KeyDepth → List (List ℕ × ℕ)
depths_view ds = map (λ d. (string_bytes d.key, d.depth)) ds
