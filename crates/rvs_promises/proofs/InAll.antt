-- What holds of a value that may not be there.
use Rattle.std.proofs.Common.{◌≡◌, Bool, if◌then◌else◌, Option, Some, None}
use Rattle.std.proofs.Common.{option_and_then, arith}
use Rattle.std.specs.Option.{option_or}
use Rattle.rvs_text.specs.Options.{◌>>=◌}

pub record InAll {A : Type 0} (P : A → Type 0) (o : Option A) : Type 0 where
  pub holds : (a : A) → o ≡ Some a → P a

pub none-in : {A : Type 0} {P : A → Type 0} → InAll P None
none-in = record { holds = λ a e. absurd cc }

pub some-in : {A : Type 0} {P : A → Type 0} (a : A) → P a → InAll P (Some a)
some-in {A} {P} a p = grind arith

pub then-in : {A B : Type 0} {P : B → Type 0} (o : Option A) (f : A → Option B)
    → ((a : A) → o ≡ Some a → InAll P (f a)) → InAll P (o >>= f)
then-in h = grind arith

pub chain-in : {A B : Type 0} {P : B → Type 0} (f : A → Option B) (o : Option A)
    → ((a : A) → InAll P (f a)) → InAll P (option_and_then f o)
chain-in f = grind arith

pub either-in : {A : Type 0} {P : A → Type 0} (b : Bool) (x y : Option A) → InAll P x → InAll P y
    → InAll P (if b then x else y)
either-in h x = grind arith

pub first-in : {A : Type 0} {P : A → Type 0} (x y : Option A) → InAll P x → InAll P y
    → InAll P (option_or x y)
first-in h y = grind arith
