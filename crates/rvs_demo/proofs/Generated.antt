-- One more of the instructions that are drawn.
use Rattle.std.proofs.Common.{◌≡◌, ℕ, ◌+◌, ◌-◌, ◌<◌, ◌/◌, List, ◌++◌}
use Rattle.std.proofs.Common.{append_assoc, arith}
use Rattle.std.proofs.lemmas.List.Concat.{flat_map-cons}
use Rattle.std.specs.Int.{w32, to_le_bytes}
use Rattle.rvs_insn.specs.Fields.{Fields}
use Rattle.rvs_insn.specs.Word.{word_of}
use Rattle.rvs_demo.specs.Program.{code, drawn, generated, next_seed}

abbrev bytes_of : Fields → List ℕ
bytes_of i = to_le_bytes w32 (word_of i)

split : (n i s : ℕ) → i < n
    → code (generated (n - i) s)
    ≡ bytes_of (drawn (next_seed s / 256)) ++ code (generated (n - (i + 1)) (next_seed s))
split n i s less = grind (arith, flat_map-cons)

pub generated_next : (old now new all : List ℕ) (n i s next : ℕ) → i < n
    → old ++ all ≡ now ++ code (generated (n - i) s) → next ≡ next_seed s
    → new ≡ now ++ bytes_of (drawn (next / 256))
    → old ++ all ≡ new ++ code (generated (n - (i + 1)) next)
generated_next old now new all n i s next less inv is pushed = grind (arith, split, append_assoc)
