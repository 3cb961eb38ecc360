-- What may not be there.
use Rattle.std.specs.Prelude.{Option, Some, None}

-- goes on with a value, where it is there
infixl 10 ◌>>=◌
abbrev pub ◌>>=◌ : {A B : Type 0} → Option A → (A → Option B) → Option B
None >>= f = None
(Some x) >>= f = f x
