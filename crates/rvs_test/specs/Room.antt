-- What the regions of a core hold.
use Rattle.std.specs.Prelude.{ℕ, ◌+◌, ◌*◌, ◌^◌, nat_le, nat_lt, Bool, ◌&&◌}
use Rattle.rvs_insn.specs.Memory.{Memory, text_limit, data_limit}

-- so many bytes of code, and the data of so many cases, behind which there is an address
abbrev pub hold : Memory → ℕ → ℕ → Bool
hold m code cases =
    nat_le code (text_limit m)
    && nat_le (32 + 8 * cases) (data_limit m)
    && nat_lt (m.data_base + (32 + 8 * cases)) (2 ^ 32)
