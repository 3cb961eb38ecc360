-- Roots.
use Rattle.std.proofs.Common.{◌≡◌, ℕ, zero, suc, ◌+◌, ◌*◌, ◌<◌, ◌≤◌, Bool, true, false, refl, subst}
use Rattle.std.proofs.Common.{arith}
use Rattle.std.specs.Prelude.{nat_le, if◌then◌else◌}
use Rattle.std.proofs.lemmas.Bool.Decides.{nat_tests}
use Rattle.rvs_abstract.specs.Values.{root}

-- r is the greatest number whose square is at most n
pub record IsRoot (n r : ℕ) : Type 0 where
  pub below : r * r ≤ n
  pub above : n < suc r * suc r

at-most : (x y : ℕ) → nat_le x y ≡ true → x ≤ y
at-most x y e = grind (arith, nat_tests)

beyond : (x y : ℕ) → nat_le x y ≡ false → y < x
beyond x y e = grind (arith, nat_tests)

next-is : (n r : ℕ) (b : Bool) → IsRoot n r → nat_le (suc r * suc r) (suc n) ≡ b
    → IsRoot (suc n) (if b then suc r else r)
next-is n r b h e = grind arith

pub is-root : (n : ℕ) → IsRoot n (root n)
is-root zero = record { below = omega arith; above = omega arith }
is-root (suc n) = grind (arith, next-is, (is-root n))

least-by : (n r s : ℕ) (b : Bool) → nat_le r s ≡ b → r * r ≤ n → n < suc s * suc s → r ≤ s
least-by n r s b e h k = grind arith

least : (n r s : ℕ) → r * r ≤ n → n < suc s * suc s → r ≤ s
least n r s h k = least-by n r s (nat_le r s) refl h k

-- no other number is that
pub root_is : (n r : ℕ) → r * r ≤ n → n < (r + 1) * (r + 1) → r ≡ root n
root_is n r h k =
    let one : r + 1 ≡ suc r = omega arith in
    let above : n < suc r * suc r = subst (λ (m : ℕ). n < m * m) one k in
    omega (
      arith,
      least n r (root n) h (is-root n).above,
      least n (root n) r (is-root n).below above,
    )

next-small : (n r : ℕ) (b : Bool) → r ≤ n → (if b then suc r else r) ≤ suc n
next-small n r b h = grind arith

pub root-small : (n : ℕ) → root n ≤ n
root-small zero = omega arith
root-small (suc n) = grind (arith, next-small, (root-small n))
