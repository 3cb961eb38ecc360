-- What a hart says, from its entries.
use Rattle.std.proofs.Common.{ℕ, ◌≡◌, refl, Bool, List, Ok}
use Rattle.rvs_tree.specs.Data.{Data}
use Rattle.rvs_insn.specs.Memory.{Memory, usual_memory}
use Rattle.rvs_isa.specs.declared.isa_text.Extensions.{Extensions}
use Rattle.rvs_isa.specs.Check.{hart_entries, isa_entry, xlen_entry, address_bits, misaligned}
use Rattle.rvs_isa.specs.Check.{misa_entry, memory_entry, tells_memory, core_of, checked_hart}
use Rattle.rvs_isa.specs.Unread.{unread}

pub hart_says : (hart : List ℕ) (root : Data) (x : Extensions) (bits : ℕ) (aligned : Bool)
    (memory : Memory) (tells : Bool) (paths : List (List ℕ))
    → hart_entries hart root ≡ Ok tt → isa_entry hart root ≡ Ok x → xlen_entry hart root ≡ Ok tt
    → address_bits hart root ≡ Ok bits → misaligned hart root ≡ Ok aligned
    → misa_entry hart (core_of x bits aligned usual_memory) root ≡ Ok tt
    → memory_entry hart root ≡ Ok memory → tells ≡ tells_memory hart root
    → paths ≡ unread hart root
    → checked_hart hart root
    ≡ Ok (record { spec = core_of x bits aligned memory; tells_memory = tells; unread = paths })
hart_says hart root x bits aligned memory tells paths a b c d e f g h i =
    rw (h, i, a, b, c, d, e, f, g) refl
