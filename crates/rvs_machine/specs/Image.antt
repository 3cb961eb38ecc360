-- A program in memory.
use Rattle.std.specs.Prelude.{◌≡◌, ◌≤◌, ◌<◌, ℕ, ◌+◌, ◌%◌, ◌^◌, ◌==◌, ◌&&◌, nat_le, nat_lt, Bool}
use Rattle.std.specs.Prelude.{if◌then◌else◌}
use Rattle.std.specs.Prelude.{Option, Some, None, List, length}
use Rattle.rvs_insn.specs.Memory.{Memory, text_limit, data_limit}
use Rattle.rvs_machine.specs.declared.symbol.Symbol.{Symbol}

-- where memory lies, the bytes of text and data, the address whose word halts a run, the bounds of
-- the signature, and
-- the symbols
pub record ImageValue : Type 0 where
  pub memory : Memory
  pub text : List ℕ
  pub data_bytes : List ℕ
  pub tohost : ℕ
  pub sig_begin : ℕ
  pub sig_end : ℕ
  pub symbols : List Symbol

-- the regions are in order
pub record IsImage (i : ImageValue) : Type 0 where
  pub text_words : length i.text % 4 ≡ 0
  pub text_short : length i.text ≤ text_limit i.memory
  pub data_short : length i.data_bytes ≤ data_limit i.memory
  pub tohost_word : i.tohost % 4 ≡ 0
  pub tohost_low : i.memory.data_base ≤ i.tohost
  pub tohost_high : i.tohost + 4 ≤ i.memory.data_base + length i.data_bytes
  pub begin_word : i.sig_begin % 4 ≡ 0
  pub begin_low : i.memory.data_base ≤ i.sig_begin
  pub ordered : i.sig_begin ≤ i.sig_end
  pub end_word : i.sig_end % 4 ≡ 0
  pub end_high : i.sig_end ≤ i.memory.data_base + length i.data_bytes
  pub end_small : i.sig_end < 2 ^ 32

-- the same as a test
abbrev pub is_text_length : Memory → ℕ → Bool
is_text_length memory n = n % 4 == 0 && nat_le n (text_limit memory)

abbrev pub is_tohost : Memory → ℕ → ℕ → Bool
is_tohost memory size at =
    at % 4 == 0 && nat_le memory.data_base at && nat_le (at + 4) (memory.data_base + size)

abbrev pub is_signature : Memory → ℕ → ℕ → ℕ → Bool
is_signature memory size first last =
    first % 4 == 0 && last % 4 == 0 && nat_le memory.data_base first && nat_le first last
    && nat_le last (memory.data_base + size) && nat_lt last (2 ^ 32)

abbrev pub is_image : ImageValue → Bool
is_image i =
    is_text_length i.memory (length i.text)
    && nat_le (length i.data_bytes) (data_limit i.memory)
    && is_tohost i.memory (length i.data_bytes) i.tohost
    && is_signature i.memory (length i.data_bytes) i.sig_begin i.sig_end

-- the image where the regions are in order
abbrev pub if_image : ImageValue → Option ImageValue
if_image i = if is_image i then Some i else None
