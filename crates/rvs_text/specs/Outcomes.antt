-- What reading comes to: what is read, or why it is refused.
use Rattle.std.specs.Prelude.{Bool, true, false, Result, Ok, Err}

-- goes on with what is read
infixl 10 ◌>>=◌
abbrev pub ◌>>=◌ : {A B E : Type 0} → Result A E → (A → Result B E) → Result B E
(Ok x) >>= f = f x
(Err e) >>= f = Err e

-- goes on where nothing is refused
infixl 10 ◌>>◌
abbrev pub ◌>>◌ : {A B E : Type 0} → Result A E → Result B E → Result B E
(Ok x) >> next = next
(Err e) >> next = Err e

-- the test holds, or this refusal is
abbrev pub holds : {E : Type 0} → Bool → E → Result (Unit {0}) E
holds true refusal = Ok tt
holds false refusal = Err refusal
