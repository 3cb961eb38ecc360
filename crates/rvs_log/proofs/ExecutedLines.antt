-- The line of an executed instruction, taken without its bytes.
use Rattle.std.proofs.Common.{◌≡◌, ℕ, ◌+◌, ◌≤◌, true, false, cond, ◌&&◌, List, [], ◌∷◌, ◌++◌}
use Rattle.std.proofs.Common.{Some, None, refl, ap, ◌∙◌, length, arith, append_assoc}
use Rattle.std.proofs.Common.{append-nil, length-append}
use Rattle.std.proofs.lemmas.Bool.Decides.{nat_tests}
use Rattle.std.specs.Prelude.{◌==◌, nat_le}
use Rattle.rvs_machine.specs.declared.event.Executed.{Executed}
use Rattle.rvs_log.specs.Grammar.{Reading, reading_of}
use Rattle.rvs_log.specs.Written.{line_of, HasWords}
use Rattle.rvs_log.specs.Lines.{held, held_more, held_says, longest}
use Rattle.rvs_log.proofs.Logs.{ok, plain, both, neither, plain_join, return_plain, line_plain}
use Rattle.rvs_log.proofs.Logs.{line_short}
use Rattle.rvs_log.specs.Cutting.{held_after}
use Rattle.rvs_log.specs.Streams.{told_all}

short : (n : ℕ) → n ≤ longest → nat_le n longest ≡ true
short n h = grind (arith, nat_tests)

held_short : (bytes : List ℕ) → length bytes ≤ longest → held bytes ≡ Some bytes
held_short bytes h = ap (λ c. cond c (Some bytes) None) (short (length bytes) h)

-- one byte more that is no line feed
no_end : {X : Type 0} (b : ℕ) (x y : X) → ok b ≡ true
    → (elim (b == 10) as (λ _. X) [ true ↦ x | false ↦ y ]) ≡ y
no_end {X = X} b x y o = grind (arith, neither)

-- a line that ends, whose bytes are neither line feeds nor carriage returns
plain_ends : {T : Type 0} (step : T → Reading → T) (t : T) (front l : List ℕ)
    → plain front ≡ true → plain l ≡ true → length front + length l ≤ longest
    → (told_all step t (Some front) (l ++ 10 ∷ []) ≡ step t (reading_of (front ++ l)))
    × (held_after (Some front) (l ++ 10 ∷ []) ≡ Some [])
plain_ends step t front [] f p h = grind (arith, return_plain, append-nil)
plain_ends {T = T} step t front (b ∷ l) f p h =
    let q = both (ok b) (plain l) p in
    let more = front ++ b ∷ [] in
    let one : plain (b ∷ []) ≡ true = ap (λ c. c && true) q.0 in
    let here : length more ≤ longest = omega (arith, h, length-append front (b ∷ [])) in
    let fits : length more + length l ≤ longest =
    omega (arith, h, length-append front (b ∷ [])) in
    let rest = plain_ends step t more l (plain_join front (b ∷ []) f one) q.1 fits in
    let end = l ++ 10 ∷ [] in (
      no_end b (told_all step (step t (held_says (Some front))) (Some []) end)
          (told_all step t (held_more (Some front) (b ∷ [])) end) q.0
          ∙ ap (λ w. told_all step t w end) (held_short more here) ∙ rest.0
          ∙ ap (λ x. step t (reading_of x)) (append_assoc front (b ∷ []) l),
      no_end b (held_after (Some []) end) (held_after (held_more (Some front) (b ∷ [])) end) q.0
          ∙ ap (λ w. held_after w end) (held_short more here) ∙ rest.1,
    )

-- the line of an executed instruction
pub executed_line : {T : Type 0} (step : T → Reading → T) (t : T) (e : Executed) → HasWords e
    → told_all step t (Some []) (line_of e ++ 10 ∷ []) ≡ step t (reading_of (line_of e))
executed_line step t e h = grind (arith, plain_ends, line_plain, line_short)

pub executed_held : (e : Executed) → HasWords e
    → held_after (Some []) (line_of e ++ 10 ∷ []) ≡ Some []
executed_held e h = (plain_ends (λ t r. t) e [] (line_of e) refl (line_plain e h.commit)
    (omega (arith, line_short e h.commit))).1
