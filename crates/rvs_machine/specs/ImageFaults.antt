-- Which line of an image file is told as faulty: the first with which no file goes on.
use Rattle.std.specs.Prelude.{◌≡◌, ◌≢◌, ◌<◌, ℕ, zero, suc, Option, Some, None, Err, List, [], ◌∷◌}
use Rattle.rvs_insn.specs.Memory.{Memory}
use Rattle.rvs_machine.specs.declared.reading.ImageRefusal.{ImageRefusal}
use Rattle.rvs_machine.specs.FileLines.{first_line, after_feed}
use Rattle.rvs_machine.specs.ImageText.{image_of_bytes}

-- the first n lines of a file, and its end where it has fewer
abbrev pub first_lines : ℕ → List ℕ → List (Option (List ℕ))
first_lines zero bytes = []
first_lines (suc n) [] = None ∷ []
first_lines (suc n) (c ∷ cs) = Some (first_line (c ∷ cs)) ∷ first_lines n (after_feed (c ∷ cs))

-- No line of a file is faulty. Its regions may be out of order.
abbrev pub IsFaultless : Memory → List ℕ → Type 0
IsFaultless memory bytes = (e : ImageRefusal) → image_of_bytes memory bytes ≡ Err e → e.line ≡ 0

-- The first n lines of a file are those of one without a faulty line.
abbrev pub Begins : Memory → ℕ → List ℕ → Type 0
Begins memory n bytes =
    (other : List ℕ) × (first_lines n other ≡ first_lines n bytes) × IsFaultless memory other

-- With this line no file goes on, and with each front of the lines before it some does.
pub record IsFirstFault (memory : Memory) (line : ℕ) (bytes : List ℕ) : Type 0 where
  pub stops : Begins memory line bytes → ⊥
  pub goes_on : (n : ℕ) → n < line → Begins memory n bytes

-- The line of a refusal is the first faulty one.
abbrev pub FaultsAreFirst : Type 0
FaultsAreFirst =
    (memory : Memory) (bytes : List ℕ) (e : ImageRefusal) → image_of_bytes memory bytes ≡ Err e
    → e.line ≢ 0 → IsFirstFault memory e.line bytes
