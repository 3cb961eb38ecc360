-- Immediates fit 32 bits.
use Rattle.std.proofs.Common.{◌≡◌, Bool, true, List, [], ◌∷◌, ◌++◌, refl, arith, rules}
use Rattle.std.specs.Prelude.{ℤ, pos, negsuc, nat_lt, unsigned_abs, fold, flat_map, All}
use Rattle.std.specs.Prelude.{if◌then◌else◌}
use Rattle.std.proofs.lemmas.Bool.{ltb-true}
use Rattle.std.proofs.lemmas.Int.{ints}
use Rattle.rvs_solver.specs.Truth.{IsShort}
use Rattle.rvs_solver.specs.Datasets.{around, is_between, is_there, with_number, dataset}
use Rattle.rvs_solver.specs.Datasets.{short_numbers}
use Rattle.rvs_solver.specs.Datasets.{upper_numbers, shifts, offsets}
use Rattle.rvs_solver.proofs.Search.{Each}
use Rattle.rvs_solver.proofs.Product.{all_of, each_of, each_append}
use Rattle.rvs_solver.proofs.Operands.{all_from_each}

is_short : ℤ → Bool
is_short z = nat_lt (unsigned_abs z) 1048577

short_is : (z : ℤ) → is_short z ≡ true → IsShort z
unfolding is_short
short_is z h = let below = ltb-true (unsigned_abs z) 1048577 h in omega (arith, below)

between_is : (low high z : ℤ) → IsShort low → IsShort high → is_between low high z ≡ true
    → IsShort z
unfolding is_between
between_is low high z a b h = grind (arith, ints)

joined_here : (t u : Bool) (kept : List ℤ) (z : ℤ) → (t ≡ true → IsShort z) → Each IsShort kept
    → Each IsShort (if t then (if u then kept else (kept ++ z ∷ [])) else kept)
joined_here t u kept z k h = search (rules, each_append)

joined_short : (low high : ℤ) → IsShort low → IsShort high → (kept : List ℤ) (z : ℤ)
    → Each IsShort kept → Each IsShort (with_number low high kept z)
unfolding with_number
joined_short low high a b kept z h =
    joined_here (is_between low high z) (is_there kept z) kept z (between_is low high z a b) h

folded_short : (low high : ℤ) → IsShort low → IsShort high → (zs kept : List ℤ) → Each IsShort kept
    → Each IsShort (fold (with_number low high) kept zs)
folded_short low high a b [] kept h = h
folded_short low high a b (z ∷ zs) kept h =
    folded_short low high a b zs (with_number low high kept z) (joined_short low high a b kept z h)

dataset_short : (low high : ℤ) (fixed constants : List ℤ) → is_short low ≡ true
    → is_short high ≡ true → all_of is_short fixed ≡ true
    → All IsShort (dataset fixed low high constants)
unfolding dataset
dataset_short low high fixed constants a b h =
    all_from_each IsShort (fold (with_number low high) fixed (flat_map around constants))
    (folded_short low high (short_is low a) (short_is high b) (flat_map around constants) fixed
    (each_of is_short IsShort short_is fixed h))

pub offsets_short : (constants : List ℤ) → All IsShort (offsets constants)
unfolding all_of is_short
offsets_short constants = dataset_short (negsuc 2047) (pos 2047) short_numbers constants refl refl
    refl

pub uppers_short : (constants : List ℤ)
    → All IsShort (dataset upper_numbers (pos 0) (pos 1048575) constants)
unfolding all_of is_short
uppers_short constants = dataset_short (pos 0) (pos 1048575) upper_numbers constants refl refl refl

pub shifts_short : All IsShort shifts
unfolding all_of is_short
shifts_short = all_from_each IsShort shifts (each_of is_short IsShort short_is shifts refl)
