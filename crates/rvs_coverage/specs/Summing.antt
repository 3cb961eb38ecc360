-- The numbers of several logs together.
use Rattle.std.specs.Prelude.{ℕ, ◌+◌, min, nat_lt, if◌then◌else◌, List, [], ◌∷◌, length}
use Rattle.std.specs.Prelude.{slice_index, slice_set}

-- a number stands at 2^64 - 1 where it would be greater
abbrev pub sum_up_to_most : ℕ → ℕ → ℕ
sum_up_to_most a b = min (a + b) 18_446_744_073_709_551_615

-- each number with the one in its place of the others, where there is one
abbrev pub plus_each : List ℕ → List ℕ → List ℕ
plus_each [] others = []
plus_each (n ∷ ns) [] = n ∷ ns
plus_each (n ∷ ns) (m ∷ ms) = sum_up_to_most n m ∷ plus_each ns ms

-- with a number more in one place, where there is one
abbrev pub added_at : ℕ → ℕ → List ℕ → List ℕ
added_at at n ns =
    if nat_lt at (length ns) then slice_set ns at (sum_up_to_most (slice_index ns at) n) else ns

-- the sum of a number over several things
abbrev pub over : {X : Type 0} → (X → ℕ) → List X → ℕ
over f [] = 0
over f (x ∷ xs) = f x + over f xs

-- the same in code, onto so much
abbrev pub summed : {X : Type 0} → (X → ℕ) → ℕ → List X → ℕ
summed f n [] = n
summed f n (x ∷ xs) = summed f (sum_up_to_most n (f x)) xs

-- the sum of numbers, in code
abbrev pub total_of : List ℕ → ℕ
total_of ns = summed (λ n. n) 0 ns
