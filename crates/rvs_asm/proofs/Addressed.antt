-- Where the bytes from an address on lie, in the text, in the data or in neither.
use Rattle.std.proofs.Common.{◌≡◌, ◌≤◌, ◌<◌, ℕ, ◌+◌, Bool, true, false, List}
use Rattle.std.proofs.Common.{arith, ◌*◌, ◌^◌, length}
use Rattle.std.specs.Prelude.{nat_le, nat_lt, ◌&&◌}
use Rattle.std.proofs.lemmas.Bool.{leb-true, ltb-true}
use Rattle.std.proofs.lemmas.Bool.Decides.{nat_tests}
use Rattle.rvs_insn.specs.Memory.{Memory, HasRoom, text_limit, data_limit}
use Rattle.rvs_insn.proofs.Regions.{regions_are_apart, text_most, data_most}
use Rattle.rvs_asm_text.specs.declared.bodies.Body.TheVariants.{Values}
use Rattle.rvs_asm.specs.declared.location.Location.{Location}
use Rattle.rvs_asm.specs.Locations.{IsLocation, address, next}
use Rattle.rvs_asm.specs.Mending.{with_bits, in_region, in_section}

-- the bytes from an address on are in this section, at this offset
abbrev pub Here : Memory → Bool → ℕ → ℕ → ℕ → Type 0
Here m text at off len = (k bits : ℕ) (bytes : List ℕ) → k + 4 ≤ len
    → in_section m text (at + k) bits bytes ≡ with_bits bytes (off + k) bits

-- they aren't in this section
abbrev pub There : Memory → Bool → ℕ → ℕ → Type 0
There m text at len = (k bits : ℕ) (bytes : List ℕ) → k + 4 ≤ len
    → in_section m text (at + k) bits bytes ≡ bytes

inside : (base limit at : ℕ) → base ≤ at → at < base + limit
    → (nat_le base at && nat_lt at (base + limit)) ≡ true
inside base limit at low high = grind (arith, nat_tests)

outside : (base limit at : ℕ) → (base ≤ at → at < base + limit → ⊥)
    → (nat_le base at && nat_lt at (base + limit)) ≡ false
outside base limit at never = grind (arith, leb-true, ltb-true)

region_here : (base limit off len : ℕ) → off + len ≤ limit → (k bits : ℕ) (bytes : List ℕ)
    → k + 4 ≤ len
    → in_region base limit (base + off + k) bits bytes ≡ with_bits bytes (off + k) bits
region_here base limit off len h k bits bytes e = grind (arith, inside)

pub text_here : (m : Memory) (off len : ℕ) → off + len ≤ text_limit m
    → Here m true (m.text_base + off) off len
text_here m off len h = region_here m.text_base (text_limit m) off len h

pub data_here : (m : Memory) (off len : ℕ) → off + len ≤ data_limit m
    → Here m false (m.data_base + off) off len
data_here m off len h = region_here m.data_base (data_limit m) off len h

pub text_there : (m : Memory) (off len : ℕ) → off + len ≤ text_limit m
    → There m false (m.text_base + off) len
text_there m off len h = grind (arith, outside, regions_are_apart)

pub data_there : (m : Memory) (off len : ℕ) → off + len ≤ data_limit m
    → There m true (m.data_base + off) len
data_there m off len h = grind (arith, outside, regions_are_apart)

pub no_more : (n : ℕ) → n ≡ n + 0
no_more n = omega arith

pub here_first : (memory : Memory) (text : Bool) (at off len bits : ℕ) (bytes : List ℕ)
    → Here memory text at off len → 4 ≤ len
    → in_section memory text at bits bytes ≡ with_bits bytes off bits
here_first memory text at off len bits bytes h e = grind (arith, no_more)

pub there_first : (memory : Memory) (text : Bool) (at len bits : ℕ) (bytes : List ℕ)
    → There memory text at len → 4 ≤ len
    → in_section memory text at bits bytes ≡ bytes
there_first memory text at len bits bytes h e = grind (arith, no_more)

-- ---- how far values reach
pub values_fit : (p : Location) (size : ℕ) (args : List (List ℕ)) → HasRoom p.memory
    → IsLocation p → IsLocation (next p (Values size args))
    → address p + length args * size < 2 ^ 33
values_fit p size args room here there = grind (arith, text_most, data_most)
