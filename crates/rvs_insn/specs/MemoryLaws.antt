-- What holds of the regions of every core.
use Rattle.std.specs.Prelude.{◌≡◌, ◌≢◌, ◌<◌, ◌≤◌, ℕ, ◌+◌, ◌-◌, ◌^◌}
use Rattle.rvs_insn.specs.Memory.{Memory, usual_memory, HasRoom, text_limit, data_limit}

-- no address is one of the text and of the data
abbrev pub RegionsAreApart : Type 0
RegionsAreApart = (m : Memory) (a b : ℕ) → a < text_limit m → b < data_limit m
    → m.text_base + a ≢ m.data_base + b

-- none is 2^32 or above
abbrev pub RegionsEnd : Type 0
RegionsEnd = (m : Memory) → HasRoom m
    → (m.text_base + text_limit m ≤ 2 ^ 32) × (m.data_base + data_limit m ≤ 2 ^ 32)

-- text at 0 and data at 65,536
abbrev pub low_memory : Memory
low_memory = record { text_base = 0; data_base = 0x1_0000 }

-- text behind the data, in the last page
abbrev pub last_page : Memory
last_page = record { text_base = 0xffff_f000; data_base = 0xfff0_0000 }

-- the most bytes of text and of data at some places
abbrev pub SomeLimits : Type 0
SomeLimits =
    (text_limit usual_memory ≡ 2 ^ 24) × (data_limit usual_memory ≡ 2 ^ 20)
    × (text_limit low_memory ≡ 2 ^ 16) × (data_limit low_memory ≡ 2 ^ 20)
    × (text_limit last_page ≡ 2 ^ 12) × (data_limit last_page ≡ 2 ^ 20 - 2 ^ 12)
