-- Pieces put behind each other, one after the other.
use Rattle.std.proofs.Common.{◌≡◌, ℕ, ◌+◌, ◌<◌, List, ◌++◌, length, map, drop, get_or}
use Rattle.std.proofs.Common.{append_assoc, arith}
use Rattle.std.specs.List.{flat_map}
use Rattle.std.proofs.lemmas.List.{drop_more}

pub one_more : {A : Type 0} (f : List ℕ → List ℕ) (g : A → List ℕ) (ps : List A) (i : ℕ) (d : A)
    (old new whole : List ℕ) → i < length ps → new ≡ old ++ f (g (get_or ps i d))
    → old ++ flat_map f (map g (drop i ps)) ≡ whole
    → new ++ flat_map f (map g (drop (i + 1) ps)) ≡ whole
one_more f g ps i d old new whole h e so_far = grind (arith, append_assoc, drop_more)
