-- Lists of numbers that are less than another.
use Rattle.std.proofs.Common.{ℕ, zero, suc, ◌<◌}
use Rattle.std.proofs.Common.{List, [], ◌∷◌}
use Rattle.std.specs.Prelude.{replicate, slice_index}
use Rattle.std.specs.Prelude.{slice_set}

-- each element is less than n
abbrev pub Below : ℕ → List ℕ → Type 0
Below n xs = (k : ℕ) → slice_index xs k < n

pub set_below : (n : ℕ) (xs : List ℕ) (i v : ℕ) → Below n xs → v < n → Below n (slice_set xs i v)
set_below n [] i v h g k = h k
set_below n (x ∷ xs) zero v h g zero = g
set_below n (x ∷ xs) zero v h g (suc k) = h (suc k)
set_below n (x ∷ xs) (suc i) v h g zero = h zero
set_below n (x ∷ xs) (suc i) v h g (suc k) = set_below n xs i v (λ j. h (suc j)) g k

pub zeros_below : (n m : ℕ) → 0 < n → Below n (replicate m 0)
zeros_below n zero h k = h
zeros_below n (suc m) h zero = h
zeros_below n (suc m) h (suc k) = zeros_below n m h k
