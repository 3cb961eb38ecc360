-- Repeated bytes.
use Rattle.std.proofs.Common.{◌≡◌, ℕ, zero, suc, ◌+◌, List, ◌++◌, ap, ◌∙◌, append_assoc}
use Rattle.std.proofs.Common.{append-nil, add-one, arith}
use Rattle.rvs_asm.specs.Bytes.{repeated}

repeated-suc : (n : ℕ) (bytes : List ℕ) → repeated (suc n) bytes ≡ repeated n bytes ++ bytes
repeated-suc zero bytes = append-nil bytes
repeated-suc (suc n) bytes = grind (arith, append_assoc, (repeated-suc n bytes))

pub repeated_more : (n : ℕ) (bytes : List ℕ) → repeated (n + 1) bytes ≡ repeated n bytes ++ bytes
repeated_more n bytes = ap (λ k. repeated k bytes) (add-one n) ∙ repeated-suc n bytes

-- what was repeated n times is repeated once more
pub grown : (out out' old : List ℕ) (n : ℕ) (bytes : List ℕ) → out ≡ old ++ repeated n bytes
    → out' ≡ out ++ bytes → out' ≡ old ++ repeated (n + 1) bytes
grown out out' old n bytes e h = grind (arith, append_assoc, repeated_more)
