-- Tests joined by `and`, `or` and `not`.
use Rattle.std.proofs.Common.{◌≡◌, Bool, true, false, refl, arith}
use Rattle.std.proofs.lemmas.Bool.{or_from}
use Rattle.std.specs.Prelude.{◌&&◌, ◌||◌, not}

-- ---- and

pub and-false : (p q : Bool) → (p && q) ≡ false → p ≡ true → q ≡ false
and-false p q h e = grind arith

-- ---- or

-- the same where the second stands alone in a list
pub or-last : (p q : Bool) → p ≡ false → q ≡ false → (p || (q || false)) ≡ false
or-last p q h k = or_from p (q || false) h (or_from q false k refl)

pub or-true : (p q : Bool) → (p || not q) ≡ true → p ≡ false → q ≡ false
or-true p q h e = grind arith

-- ---- not
pub not-true : (p : Bool) → not p ≡ true → p ≡ false
not-true p h = grind arith
