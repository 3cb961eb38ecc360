-- A write at the front of a text.
use Rattle.std.proofs.Common.{◌≡◌, ℕ, Bool, true, false, cond, List, [], ◌∷◌, Some, None}
use Rattle.std.proofs.Common.{refl, sym, ap, ◌∙◌, subst, arith}
use Rattle.std.proofs.lemmas.Bool.Decides.{nat_tests}
use Rattle.std.specs.Prelude.{◌==◌}
use Rattle.std.specs.Option.{option_or}
use Rattle.rvs_machine.specs.Written.{Write}
use Rattle.rvs_log.specs.Grammar.{after_byte, first_write, write_at}

at_space : (bs : List ℕ) (w : Write) → write_at bs ≡ Some w → first_write true (32 ∷ bs) ≡ Some w
unfolding write_at
at_space [] w e = cc
at_space (b ∷ bs) w e = ap (λ o. option_or o (first_write (b == 32) bs)) e

-- behind one space
pub after_space : (text after : List ℕ) (w : Write) → Some after ≡ after_byte 32 text
    → Some w ≡ write_at after → Some w ≡ first_write true text
after_space [] after w e g = cc
after_space (b ∷ bs) after w e g = turn (b == 32) refl e
  where
    equal : (a b : ℕ) → (a == b) ≡ true → a ≡ b
    equal a b h = grind (arith, nat_tests)

    turn : (t : Bool) → (b == 32) ≡ t → Some after ≡ cond t (Some bs) None
        → Some w ≡ first_write true (b ∷ bs)
    turn true h e =
        let same : after ≡ bs = cc in
        subst (λ n. Some w ≡ first_write true (n ∷ bs)) (sym (equal b 32 h))
        (sym (at_space bs w (ap write_at (sym same) ∙ sym g)))
    turn false h e = cc
