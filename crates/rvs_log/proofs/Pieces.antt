-- The lines of a log that comes in pieces.
use Rattle.std.proofs.Common.{◌≡◌, ℕ, zero, suc, ◌+◌, ◌≤◌, Bool, true, false, cond, List, [], ◌∷◌}
use Rattle.std.proofs.Common.{◌++◌, Option, Some, None, refl, sym, ap, length, take, drop}
use Rattle.std.proofs.Common.{arith, append_assoc, append-nil, length-append, rules}
use Rattle.std.proofs.lemmas.Bool.Decides.{nat_tests}
use Rattle.std.specs.Prelude.{◌==◌, nat_le}
use Rattle.rvs_log.specs.Grammar.{Reading, Nothing, reading_of, after_core}
use Rattle.rvs_log.specs.Grammar.{after_brackets, write_line}
use Rattle.rvs_log.specs.Cutting.{held_after, last_of, lines_after, lines_held}
use Rattle.rvs_log.specs.Lines.{whole_from, tail_from, line_says, held, held_more, held_says}
use Rattle.rvs_log.specs.Entries.{Heard, hear, heard, entry_in, entries_in}
use Rattle.rvs_log.specs.Taken.{waiting_len}

-- ---- lines
abbrev pub ended_if : Bool → List ℕ → List (List ℕ)
ended_if true line = line ∷ []
ended_if false line = []

abbrev pub tail_if : Bool → List ℕ → ℕ → List ℕ
tail_if true front c = []
tail_if false front c = front ++ c ∷ []

pub whole_snoc : (front bs : List ℕ) (c : ℕ)
    → whole_from front (bs ++ c ∷ [])
    ≡ whole_from front bs ++ ended_if (c == 10) (tail_from front bs)
whole_snoc front [] c = grind arith
whole_snoc front (b ∷ bs) c =
    grind (arith, (whole_snoc [] bs c), (whole_snoc (front ++ b ∷ []) bs c))

pub tail_snoc : (front bs : List ℕ) (c : ℕ)
    → tail_from front (bs ++ c ∷ []) ≡ tail_if (c == 10) (tail_from front bs) c
tail_snoc front [] c = grind arith
tail_snoc front (b ∷ bs) c = grind (arith, (tail_snoc [] bs c), (tail_snoc (front ++ b ∷ []) bs c))

-- ---- bytes that wait
held_long : (t more : List ℕ) → nat_le (length t) 4096 ≡ false → None ≡ held (t ++ more)
held_long t more h =
    sym (ap (λ b. cond b (Some (t ++ more)) None)
    (longer (length t) (length more) (length (t ++ more)) h (lengths t more)))
  where
    lengths : (t more : List ℕ) → length (t ++ more) ≡ length t + length more
    lengths [] more = omega arith
    lengths (x ∷ t) more = omega (arith, lengths t more)

    longer : (a b c : ℕ) → nat_le a 4096 ≡ false → c ≡ a + b → nat_le c 4096 ≡ false
    longer a b c h e = grind (arith, nat_tests)

pub held_more_held : (t more : List ℕ) → held_more (held t) more ≡ held (t ++ more)
held_more_held t more = search (rules, append-nil, held_long)

pub held_reads : (t : List ℕ) → held_says (held t) ≡ line_says t
held_reads t = grind arith

pub waiting_grows : (w : Option (List ℕ)) (more : List ℕ)
    → waiting_len (held_more w more) ≤ waiting_len w + length more
waiting_grows w [] = omega arith
waiting_grows None (b ∷ bs) = omega arith
waiting_grows (Some bytes) (b ∷ bs) =
    turn (nat_le (length (bytes ++ b ∷ bs)) 4096) (lengths bytes (b ∷ bs))
  where
    lengths : (t more : List ℕ) → length (t ++ more) ≡ length t + length more
    lengths [] more = omega arith
    lengths (x ∷ t) more = omega (arith, lengths t more)

    turn : (t : Bool) → length (bytes ++ b ∷ bs) ≡ length bytes + length (b ∷ bs)
        → waiting_len (cond t (Some (bytes ++ b ∷ bs)) None) ≤ length bytes + length (b ∷ bs)
    turn true e = omega arith
    turn false e = omega arith

-- ---- instructions
pub entries_snoc : (h : Heard) (rs : List Reading) (r : Reading)
    → entries_in h (rs ++ r ∷ []) ≡ entries_in h rs ++ entry_in (heard h rs) r
entries_snoc h [] r = append-nil (entry_in h r)
entries_snoc h (q ∷ rs) r = simp (append_assoc, (entries_snoc (hear h q) rs r))

pub heard_snoc : (h : Heard) (rs : List Reading) (r : Reading)
    → heard h (rs ++ r ∷ []) ≡ hear (heard h rs) r
heard_snoc h [] r = refl
heard_snoc h (q ∷ rs) r = heard_snoc (hear h q) rs r

-- ---- pieces
pub cut_at : (used : ℕ) (piece : List ℕ) → take used piece ++ drop used piece ≡ piece
cut_at zero [] = refl
cut_at zero (x ∷ xs) = refl
cut_at (suc n) [] = refl
cut_at (suc n) (x ∷ xs) = ap (λ l. x ∷ l) (cut_at n xs)

-- each line has a byte of its own
lines_few : (w : Option (List ℕ)) → length (lines_held w) ≤ 1
lines_few w = grind arith

pub lines_shrink : (w : Option (List ℕ)) (p : List ℕ)
    → waiting_len (held_after w p) + length (lines_after w p) ≤ waiting_len w + length p
lines_shrink w [] = omega arith
lines_shrink w (b ∷ bs) =
    turn (b == 10) (lines_shrink (Some []) bs) (lines_shrink (held_more w (b ∷ [])) bs)
  where
    turn : (c : Bool)
        → waiting_len (held_after (Some []) bs) + length (lines_after (Some []) bs)
        ≤ waiting_len (Some []) + length bs
        → waiting_len (held_after (held_more w (b ∷ [])) bs)
        + length (lines_after (held_more w (b ∷ [])) bs) ≤ waiting_len (held_more w (b ∷ []))
        + length bs
        → waiting_len (elim c as (λ _. Option (List ℕ)) [
          | true ↦ held_after (Some []) bs
          | false ↦ held_after (held_more w (b ∷ [])) bs
        ])
        + length (elim c as (λ _. List (List ℕ)) [
          | true ↦ lines_held w ++ lines_after (Some []) bs
          | false ↦ lines_after (held_more w (b ∷ [])) bs
        ]) ≤ waiting_len w + length (b ∷ bs)
    turn true p q =
        omega (arith, p, lines_few w, length-append (lines_held w) (lines_after (Some []) bs))
    turn false p q = omega (arith, q, waiting_grows w (b ∷ []))

-- a line ends in some bytes, not in none
pub some_used : (w : Option (List ℕ)) (rest line : List ℕ) (used : ℕ)
    → lines_after w (take used rest) ≡ line ∷ [] → 1 ≤ used
some_used w rest line used l = grind arith

pub rest_low : (w w' : Option (List ℕ)) (rest : List ℕ) (used : ℕ)
    → w' ≡ held_after w (take used rest) → waiting_len w' ≤ waiting_len w + length rest
rest_low w w' rest used h =
    omega (
      arith,
      ap waiting_len h,
      lines_shrink w (take used rest),
      ap (λ p. length p) (cut_at used rest),
      length-append (take used rest) (drop used rest),
    )

-- ---- the last line
pub no_line : reading_of [] ≡ Nothing
unfolding reading_of after_core after_brackets write_line
no_line = refl

pub some_waits : (w : Option (List ℕ)) (line : List ℕ) → last_of w ≡ Some line → 1 ≤ waiting_len w
some_waits w line h = grind arith
