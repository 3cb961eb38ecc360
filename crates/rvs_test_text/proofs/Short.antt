-- The data of a test, short enough for its region.
use Rattle.std.proofs.Common.{◌≡◌, ℕ, ◌+◌, ◌^◌, ◌<◌, ◌≤◌, subst}
use Rattle.rvs_insn.specs.Memory.{Memory, HasRoom, data_limit}

-- so many bytes of data are in their region, and each of them, and what is behind, has an address
pub record IsShort (m : Memory) (n : ℕ) : Type 0 where
  pub room : HasRoom m
  pub most : n ≤ data_limit m
  pub low : m.data_base + n < 2 ^ 32

pub same_short : (m : Memory) (n k : ℕ) → n ≡ k → IsShort m n → IsShort m k
same_short m n k e h = subst (IsShort m) e h
