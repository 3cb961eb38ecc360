-- What follows of a result, where there is one.
use Rattle.std.specs.Prelude.{Result, Ok, Err, IfOk}

pub IfOk-map : {A E : Type 0} {P Q : A → Type 0} (r : Result A E) → ((a : A) → P a → Q a)
    → IfOk r P → IfOk r Q
IfOk-map (Ok a) f p = f a p
IfOk-map (Err e) f p = tt
