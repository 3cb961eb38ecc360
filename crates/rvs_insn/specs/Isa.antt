-- What a core has.
use Rattle.std.specs.Prelude.{ℕ, Bool}
use Rattle.rvs_insn.specs.Memory.{Memory}

-- its base (E or I), its extensions, whether misaligned data may be accessed, the bits of its
-- addresses, and where its memory lies
pub record Isa : Type 0 where
  pub e : Bool
  pub m : Bool
  pub a : Bool
  pub zicsr : Bool
  pub zifencei : Bool
  pub misaligned : Bool
  pub address_bits : ℕ
  pub memory : Memory
