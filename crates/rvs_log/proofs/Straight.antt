-- Lines as they are mostly written.
use Rattle.std.proofs.Common.{◌≡◌, ℕ, ◌+◌, ◌*◌, ◌/◌, ◌%◌, ◌^◌, ◌<◌, ◌≤◌, Bool, true, false}
use Rattle.std.proofs.Common.{List}
use Rattle.std.proofs.Common.{[], ◌∷◌, ◌++◌}
use Rattle.std.proofs.Common.{Some, None, refl, sym, ap, ◌∙◌, subst, arith, length}
use Rattle.std.proofs.lemmas.Bool.Decides.{nat_tests}
use Rattle.std.specs.Prelude.{codes, nat_lt}
use Rattle.rvs_machine.specs.Written.{Write}
use Rattle.rvs_text.specs.Bytes.{is_digit}
use Rattle.rvs_log.specs.Grammar.{after_brackets, after_byte, after_core, after_some}
use Rattle.rvs_log.specs.Grammar.{at_end, blank, write_line}
use Rattle.rvs_log.specs.Grammar.{first_write}
use Rattle.rvs_log.specs.Grammar.{hex_at, hex_run, pc_and_word, register_at}
use Rattle.rvs_log.specs.Grammar.{spaced, write_at}
use Rattle.rvs_log.proofs.Digits.{word_ended}
use Rattle.rvs_log.specs.Parts.{brackets_and_words, core_and_words}
use Rattle.rvs_log.specs.Written.{padded}
use Rattle.rvs_log.proofs.Ascii.{padded_one, padded_two}
use Rattle.rvs_log.proofs.Fronts.{after_space}
use Rattle.rvs_log.proofs.Numbers.{register_one, register_two}

-- a text begins with what something follows
led_by_byte : (t : ℕ) (bs r : List ℕ) → Some r ≡ after_byte t bs → bs ≡ t ∷ r
led_by_byte t bs r e = grind arith

-- the front of a line of a commit log, and an address and a word behind it
pub line_is : (line rest : List ℕ) (found : ℕ × ℕ × List ℕ)
    → line ≡ codes "core   0: 3 0x" ++ rest → pc_and_word (codes "0x" ++ rest) ≡ Some found
    → core_and_words line ≡ Some found
unfolding after_core
line_is line rest found front words = ap core_and_words front ∙ words

-- eight digits are a word where no digit follows
pub eight_spelled : (a b : List ℕ) (v : ℕ) → hex_run 0 a ≡ hex_run v b
    → 8 + length b ≡ length a → v < 2 ^ 32 → hex_run v b ≡ (v, b)
    → hex_at (codes "0x" ++ a) ≡ Some (v, b)
unfolding hex_at
eight_spelled a b v run sum low ends =
    sym (word_ended a b v 8 (run ∙ ends) sum (omega arith) low)

-- an address behind its mark, a space and a word in brackets
pub words_are : (a b c d e f : List ℕ) (pc word : ℕ)
    → (hex_run pc b ≡ (pc, b) → hex_at (codes "0x" ++ a) ≡ Some (pc, b))
    → b ≡ codes " (0x" ++ c
    → (hex_run word d ≡ (word, d) → hex_at (codes "0x" ++ c) ≡ Some (word, d))
    → Some e ≡ after_byte 41 d → Some f ≡ at_end e
    → pc_and_word (codes "0x" ++ a) ≡ Some (pc, word, f)
unfolding pc_and_word
words_are a b c d e f pc word first bracket second close end =
    let back : d ≡ 41 ∷ e = led_by_byte 41 d e close in
    let address : hex_at (48 ∷ 120 ∷ a) ≡ Some (pc, b) =
    first (subst (λ bs. hex_run pc bs ≡ (pc, bs)) (sym bracket) refl) in
    let spaces : spaced b ≡ Some (40 ∷ 48 ∷ 120 ∷ c) = ap spaced bracket in
    let inside : hex_at (48 ∷ 120 ∷ c) ≡ Some (word, d) =
    second (subst (λ bs. hex_run word bs ≡ (word, bs)) (sym back) refl) in
    rw (address, spaces, inside, sym close, sym end) refl

pub marked_is : (text rest : List ℕ) (found : ℕ × ℕ × List ℕ) → text ≡ codes "0x" ++ rest
    → pc_and_word (codes "0x" ++ rest) ≡ Some found → pc_and_word text ≡ Some found
marked_is text rest found front words = ap pc_and_word front ∙ words

-- digits end where a token does
token_ends : (d e : List ℕ) (v : ℕ) → Some e ≡ at_end d → hex_run v d ≡ (v, d)
token_ends d e v h = grind arith

-- a register in two places, and a word, written
written_is : (a d e : List ℕ) (reg value : ℕ) → reg < 32
    → hex_at (48 ∷ 120 ∷ a) ≡ Some (value, d) → Some e ≡ at_end d
    → write_at (120 ∷ (padded reg ++ (32 ∷ 48 ∷ 120 ∷ a)))
    ≡ Some (record { reg = reg; value = value })
unfolding write_at
written_is a d e reg value low word end = turn (nat_lt reg 10) refl
  where
    turn : (t : Bool) → nat_lt reg 10 ≡ t
        → write_at (120 ∷ (padded reg ++ (32 ∷ 48 ∷ 120 ∷ a)))
        ≡ Some (record { reg = reg; value = value })
    turn true h =
        let l : reg < 10 = grind (arith, nat_tests) in
        rw (padded_one reg l, register_one reg (32 ∷ 48 ∷ 120 ∷ a) l, word, sym end) refl
    turn false h =
        let l : 10 ≤ reg = grind (arith, nat_tests) in
        let same : 10 * (reg / 10) + reg % 10 ≡ reg = omega arith in
        rw (
          padded_two reg l low,
          register_two (reg / 10) (reg % 10) (32 ∷ 48 ∷ 120 ∷ a)
              (omega arith) (omega arith) (omega arith) (omega arith),
          same,
          word,
          sym end,
        ) refl

-- a space, a register and a word, and the end of a token
pub write_is : (text a d e : List ℕ) (tens ones reg value : ℕ)
    → text ≡ codes " x" ++ (tens ∷ ones ∷ [] ++ (codes " 0x" ++ a))
    → tens ∷ ones ∷ [] ≡ padded reg → reg < 32
    → (hex_run value d ≡ (value, d) → hex_at (codes "0x" ++ a) ≡ Some (value, d))
    → Some e ≡ at_end d → first_write true text ≡ Some (record { reg = reg; value = value })
write_is text a d e tens ones reg value front name low word end =
    let spelled : hex_at (48 ∷ 120 ∷ a) ≡ Some (value, d) = word (token_ends d e value end) in
    let w : Write = record { reg = reg; value = value } in
    let begins : text ≡ 32 ∷ 120 ∷ (padded reg ++ (32 ∷ 48 ∷ 120 ∷ a)) =
    front ∙ ap (λ p. 32 ∷ 120 ∷ (p ++ (32 ∷ 48 ∷ 120 ∷ a))) name in
    sym (after_space text (120 ∷ (padded reg ++ (32 ∷ 48 ∷ 120 ∷ a))) w
    (ap (after_byte 32) (sym begins)) (sym (written_is a d e reg value low spelled end)))

-- a register, an arrow and a word, and nothing behind them
pub commit_is : (line a b c d : List ℕ) (reg value : ℕ) → Some a ≡ after_byte 120 line
    → Some (reg, b) ≡ register_at a → b ≡ codes " <- 0x" ++ c
    → (hex_run value d ≡ (value, d) → hex_at (codes "0x" ++ c) ≡ Some (value, d)) → d ≡ []
    → write_line line ≡ Some (record { reg = reg; value = value })
unfolding write_line
commit_is line a b c d reg value first register arrow word end =
    let spelled : hex_at (48 ∷ 120 ∷ c) ≡ Some (value, d) =
    word (subst (λ bs. hex_run value bs ≡ (value, bs)) (sym end) refl) in
    let spaces : spaced b ≡ Some (60 ∷ 45 ∷ 32 ∷ 48 ∷ 120 ∷ c) = ap spaced arrow in
    let nothing : blank d ≡ Some [] = ap blank end in
    rw (sym first, sym register, spaces, spelled, nothing) refl

-- a number, machine mode, and an address and a word
pub sail_is : (line a b rest : List ℕ) (found : ℕ × ℕ × List ℕ) → Some a ≡ after_byte 91 line
    → Some b ≡ after_some is_digit a → b ≡ codes "] [M]: 0x" ++ rest
    → pc_and_word (codes "0x" ++ rest) ≡ Some found → brackets_and_words line ≡ Some found
unfolding after_brackets
sail_is line a b rest found first number mode words =
    let close : after_byte 93 b ≡ Some (codes " [M]: 0x" ++ rest) = ap (after_byte 93) mode in
    rw (sym first, sym number, close) words

-- the access of a store has no register
store_front : (a : List ℕ) → first_write true (codes " mem 0x" ++ a) ≡ first_write false a
unfolding write_at
store_front a = refl

store_middle : (a : List ℕ) → first_write false (codes " 0x" ++ a) ≡ first_write false a
unfolding write_at
store_middle a = refl

pub store_is : (text a b c d : List ℕ) → text ≡ codes " mem 0x" ++ a
    → first_write false a ≡ first_write false b → b ≡ codes " 0x" ++ c
    → first_write false c ≡ first_write false d → d ≡ [] → first_write true text ≡ None
store_is text a b c d front address middle value end =
    ap (first_write true) front ∙ store_front a ∙ address ∙ ap (first_write false) middle
    ∙ store_middle c ∙ value ∙ ap (first_write false) end
