-- Bytes that are text are read as one.
use Rattle.std.proofs.Common.{List, ℕ, Result, MatchResult, IsOk, arith}
use Rattle.std.specs.Str.{IsUtf8}

-- what `from_utf8` says
pub is_read : {A E : Type 0} (text : List ℕ) (P : A → Type 0) (Q : E → Type 0) (r : Result A E)
    → MatchResult r P (λ e. (IsUtf8 text → ⊥) × Q e) → IsUtf8 text → IsOk r
is_read text h = grind arith
