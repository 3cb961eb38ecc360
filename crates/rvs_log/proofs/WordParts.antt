-- What is read is a byte or a word, and so is what is written.
use Rattle.std.proofs.Common.{ℕ, zero, suc, ◌+◌, ◌*◌, ◌/◌, ◌%◌, ◌^◌, ◌<◌, Bool}
use Rattle.std.proofs.Common.{cond, List, Option, Some, None, arith}
use Rattle.std.proofs.Common.{rules}
use Rattle.std.specs.Prelude.{slice_set}
use Rattle.rvs_insn.specs.Fields.{IsRegister}
use Rattle.rvs_insn.specs.Memory.{Memory}
use Rattle.rvs_machine.specs.Machine.{byte_at, above, load_bytes}
use Rattle.rvs_machine.specs.Machine.{store_bytes, extended, word_at, fetch, read_reg}
use Rattle.rvs_machine.specs.Machine.{write_reg, commit_of}
use Rattle.rvs_machine.proofs.Results.{HasValue}
use Rattle.rvs_log.proofs.Below.{Below, set_below}
use Rattle.rvs_log.specs.Written.{IsSmall}

-- ---- what is read is a byte or a word
abbrev pub AtMost : ℕ → Option ℕ → Type 0
AtMost n None = Unit {0}
AtMost n (Some v) = v < n

pub some_or_none : (n : ℕ) (b : Bool) (v : ℕ) → v < n → AtMost n (cond b (Some v) None)
some_or_none n b v h = grind arith

pub either_place : (n : ℕ) (b : Bool) (x y : Option ℕ) → AtMost n x → AtMost n y
    → AtMost n (cond b x y)
either_place n b x y g h = grind arith

pub byte_low : (m : Memory) (text ram : List ℕ) (addr : ℕ) → Below 256 text → Below 256 ram
    → AtMost 256 (byte_at m text ram addr)
byte_low m text ram addr g h = grind (arith, either_place, some_or_none)

pub above_low : (n : ℕ) (a b : Option ℕ) → AtMost 256 a → AtMost n b → AtMost (256 * n) (above a b)
above_low n a b g h = grind arith

-- 256 to this power
abbrev pub limit : ℕ → ℕ
limit zero = 1
limit (suc n) = 256 * limit n

pub bytes_low : (m : Memory) (n : ℕ) (text ram : List ℕ) (addr : ℕ) → Below 256 text → Below 256 ram
    → AtMost (limit n) (load_bytes m n text ram addr)
bytes_low m zero text ram addr g h = omega arith
bytes_low m (suc n) text ram addr g h =
    grind (arith, above_low, byte_low, (bytes_low m n text ram (addr + 1) g h))

pub either_low : (b : Bool) (x y : ℕ) → x < 2 ^ 32 → y < 2 ^ 32 → cond b x y < 2 ^ 32
either_low b x y p q = grind arith

pub one_low : (sign : Bool) (v : ℕ) → v < 256 → extended sign 1 v < 2 ^ 32
one_low sign v h = grind (arith, either_low)

pub two_low : (sign : Bool) (v : ℕ) → v < 65536 → extended sign 2 v < 2 ^ 32
two_low sign v h = grind (arith, either_low)

pub four_low : (sign : Bool) (v : ℕ) → v < 4294967296 → extended sign 4 v < 2 ^ 32
four_low sign v h = grind (arith, either_low)

pub word_low : (text : List ℕ) (i : ℕ) → Below 256 text → word_at text i < 2 ^ 32
word_low text i h = omega (arith, h i, h (i + 1), h (i + 2), h (i + 3))

pub fetch_low : (m : Memory) (text : List ℕ) (pc : ℕ) → Below 256 text
    → AtMost (2 ^ 32) (fetch m text pc)
fetch_low m text pc h = grind (arith, some_or_none, word_low)

pub read_low : (regs : List ℕ) (o : Option ℕ) → Below (2 ^ 32) regs → read_reg regs o < 2 ^ 32
read_low regs o h = grind arith

-- ---- what is written is a byte or a word
pub store_low : (n : ℕ) (ram : List ℕ) (at value : ℕ) → Below 256 ram
    → Below 256 (store_bytes n ram at value)
store_low zero ram at value h = h
store_low (suc n) ram at value h =
    store_low n (slice_set ram at (value % 2 ^ 8)) (at + 1) (value / 2 ^ 8)
    (set_below 256 ram at (value % 2 ^ 8) h (omega arith))

pub write_low : (regs : List ℕ) (rd value : Option ℕ) → IsSmall (commit_of rd value)
    → Below (2 ^ 32) regs → Below (2 ^ 32) (write_reg regs rd value)
write_low regs rd value g h = search (rules, set_below)

pub commit_low : (rd value : Option ℕ) → HasValue rd value → IsRegister rd
    → IsSmall (commit_of rd value)
commit_low rd value g h = grind arith

pub some_low : (rd : Option ℕ) (v : ℕ) → v < 2 ^ 32 → IsRegister rd
    → IsSmall (commit_of rd (Some v))
some_low rd v g h = grind arith
