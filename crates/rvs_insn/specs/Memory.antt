-- Where the memory of a core lies.
use Rattle.std.specs.Prelude.{◌≡◌, ◌≢◌, ◌<◌, ℕ, ◌-◌, ◌%◌, ◌^◌, ◌==◌, ◌&&◌, not, nat_le, Bool}
use Rattle.std.specs.Prelude.{min, if◌then◌else◌, Option, Some, None}

-- where text and data begin
pub record Memory : Type 0 where
  pub text_base : ℕ
  pub data_base : ℕ

-- where they begin on a core that doesn't say it
abbrev pub usual_memory : Memory
usual_memory = record { text_base = 0x8000_0000; data_base = 0x8100_0000 }

-- Each begins at a page, the two at different ones.
pub record HasRoom (m : Memory) : Type 0 where
  pub text_page : m.text_base % 4096 ≡ 0
  pub data_page : m.data_base % 4096 ≡ 0
  pub apart : m.text_base ≢ m.data_base
  pub text_low : m.text_base < 2 ^ 32
  pub data_low : m.data_base < 2 ^ 32

-- the same as a test of addresses below 2^32
abbrev pub has_room : Memory → Bool
has_room m = m.text_base % 4096 == 0 && m.data_base % 4096 == 0 && not (m.text_base == m.data_base)

-- the memory where it has room
abbrev pub if_room : Memory → Option Memory
if_room m = if has_room m then Some m else None

-- how many bytes lie from an address up to another that isn't before it, else up to 2^32
abbrev pub room : ℕ → ℕ → ℕ
room from other = if nat_le from other then other - from else 2 ^ 32 - from

-- how many bytes text and data may have: 16 MiB and 1 MiB, and no more than there is room
abbrev pub text_limit : Memory → ℕ
text_limit m = min (2 ^ 24) (room m.text_base m.data_base)

abbrev pub data_limit : Memory → ℕ
data_limit m = min (2 ^ 20) (room m.data_base m.text_base)
