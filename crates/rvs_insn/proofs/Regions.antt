-- Where the regions of a core end.
use Rattle.std.proofs.Common.{◌≡◌, ◌+◌, ◌%◌, ◌^◌, ◌≤◌, refl, arith}
use Rattle.std.proofs.lemmas.Bool.Decides.{nat_tests}
use Rattle.rvs_insn.specs.Memory.{Memory, HasRoom, text_limit, data_limit}
use Rattle.rvs_insn.specs.MemoryLaws.{RegionsAreApart, RegionsEnd, SomeLimits}

pub text_most : (m : Memory) → text_limit m ≤ 2 ^ 24
text_most m = grind (arith, nat_tests)

pub data_most : (m : Memory) → data_limit m ≤ 2 ^ 20
data_most m = grind (arith, nat_tests)

pub text_before : (m : Memory) → m.text_base ≤ m.data_base
    → m.text_base + text_limit m ≤ m.data_base
text_before m h = grind (arith, nat_tests)

pub data_before : (m : Memory) → m.data_base ≤ m.text_base
    → m.data_base + data_limit m ≤ m.text_base
data_before m h = grind (arith, nat_tests)

pub regions_end : RegionsEnd
regions_end m r = grind arith

pub regions_are_apart : RegionsAreApart
regions_are_apart m a b h k = grind (arith, nat_tests)

pub some_limits : SomeLimits
some_limits = (refl, refl, refl, refl, refl, refl)

-- ---- in words

pub data_word : (m : Memory) → HasRoom m → m.data_base % 4 ≡ 0
data_word m r = let e = r.data_page in omega arith
