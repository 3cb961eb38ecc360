-- A multiple of 67 changes no remainder by 67.
use Rattle.std.proofs.Common.{◌≡◌, ℤ, pos, ◌%◌, ◌≤◌, arith}
use Rattle.std.specs.Prelude.{◌+ℤ◌, unsigned_abs}
use Rattle.rvs_index.specs.Buckets.{residue}

pub lifted : (z : ℤ) → unsigned_abs z ≤ 4496293888
    → unsigned_abs (z +ℤ pos 4496293888) % 67 ≡ residue z
lifted z h = grind arith
