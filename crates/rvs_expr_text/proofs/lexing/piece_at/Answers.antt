use Rattle.std.proofs.Common.{◌≡◌, ◌<◌, ◌∷◌, ◌∙◌, ℕ, Bool, true, false, List, refl, ap, sym, subst}
use Rattle.std.proofs.Common.{arith}
use Rattle.std.specs.Prelude.{if◌then◌else◌}
use Rattle.rvs_text.specs.Bytes.{is_digit}
use Rattle.rvs_expr_text.specs.Tokens.{Piece, front, has_base, is_end, is_in, number_at}
use Rattle.rvs_expr_text.specs.declared.lexing.Class.{Class}
use Rattle.rvs_expr_text.specs.declared.lexing.Class.TheVariants.{Decimal, Hexadecimal, Binary}
use Rattle.rvs_expr_text.proofs.lexing.piece_at.Goals as goal

front-some : (k : Class) (c : ℕ) (cs : List ℕ) → is_in k c ≡ true → 0 < front k (c ∷ cs)
front-some k c cs e = rw e (omega arith)

either-some : (b : Bool) (p q : Piece) → 0 < p.1 → 0 < q.1 → 0 < (if b then p else q).1
either-some true p q h k = h
either-some false p q h k = k

number-some : (c : ℕ) (cs : List ℕ) → is_digit c ≡ true → 0 < (number_at (c ∷ cs)).1
number-some c cs e =
    either-some (has_base 120 Hexadecimal (c ∷ cs)) _ _ (omega arith)
    (either-some (has_base 98 Binary (c ∷ cs)) _ _ (omega arith) (front-some Decimal c cs e))

either-going : (b : Bool) (p q : Piece) → is_end p.0 ≡ false → is_end q.0 ≡ false
    → is_end (if b then p else q).0 ≡ false
either-going true p q h k = h
either-going false p q h k = k

number-going : (text : List ℕ) → is_end (number_at text).0 ≡ false
number-going text =
    either-going (has_base 120 Hexadecimal text) _ _ refl
    (either-going (has_base 98 Binary text) _ _ refl refl)

pub returns-then-is_digit-clause-some : goal.returns-then-is_digit-clause-some
returns-then-is_digit-clause-some c =
    let text = c.requires.first in
    let digit = sym c.is_digit.ensures ∙ c.if-is_digit.true in
    subst (λ (p : Piece). 0 < p.1)
    (sym (c.number_at.ensures.piece ∙ ap number_at text.1)) (number-some c.args.first text.0 digit)

pub returns-then-is_digit-clause-lexeme : goal.returns-then-is_digit-clause-lexeme
returns-then-is_digit-clause-lexeme c =
    ap (λ (p : Piece). is_end p.0) c.number_at.ensures.piece ∙ number-going c.args.text.now
