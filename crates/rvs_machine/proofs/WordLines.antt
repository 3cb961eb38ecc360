-- So many lines of a word each, one after the other.
use Rattle.std.proofs.Common.{◌≡◌, ℕ, suc, ◌+◌, ◌-◌, ◌<◌, List, [], ◌++◌, Result, Ok, Err, refl, ap}
use Rattle.std.proofs.Common.{sym, ◌∙◌, arith, append_assoc}
use Rattle.std.specs.Int.{w32, to_le_bytes}
use Rattle.rvs_machine.specs.declared.reading.ImageRefusal.{ImageRefusal}
use Rattle.rvs_machine.specs.FileLines.{Rest}
use Rattle.rvs_text.specs.Outcomes.{◌>>=◌}
use Rattle.rvs_machine.specs.ImageText.{word_line, word_lines, put_before}

put_twice : (a b : List ℕ) (r : Result (List ℕ × Rest) ImageRefusal)
    → put_before a (put_before b r) ≡ put_before (a ++ b) r
put_twice a b (Err e) = refl
put_twice a b (Ok p) = ap (λ l. Ok (l, p.1)) (sym (append_assoc a b p.0))

first_of_more : (count i : ℕ) → i < count → (out : List ℕ) (r : Rest) → put_before out (word_lines
    (count - i) r) ≡ put_before out (word_line [] r
    >>= (λ p. put_before (to_le_bytes w32 p.0) (word_lines (count - (i + 1)) p.1)))
first_of_more count i h out r =
    let e : count - i ≡ suc (count - (i + 1)) = omega arith in
    ap (λ n. put_before out (word_lines n r)) e

pub words_go : (count i : ℕ) → i < count → (out : List ℕ) (r rest : Rest) (word : ℕ)
    → word_line [] r ≡ Ok (word, rest) → put_before out (word_lines (count - i) r)
    ≡ put_before (out ++ to_le_bytes w32 word) (word_lines (count - (i + 1)) rest)
words_go count i h out r rest word e =
    first_of_more count i h out r
    ∙ ap (λ x. put_before out
    (x >>= (λ p. put_before (to_le_bytes w32 p.0) (word_lines (count - (i + 1)) p.1)))) e
    ∙ put_twice out (to_le_bytes w32 word) (word_lines (count - (i + 1)) rest)

pub words_stop : (count i : ℕ) → i < count → (out : List ℕ) (r : Rest) (fault : ImageRefusal)
    → word_line [] r ≡ Err fault → put_before out (word_lines (count - i) r) ≡ Err fault
words_stop count i h out r fault e =
    first_of_more count i h out r
    ∙ ap (λ x. put_before out
    (x >>= (λ p. put_before (to_le_bytes w32 p.0) (word_lines (count - (i + 1)) p.1)))) e
