-- The log of a run has the run as its entries.
use Rattle.std.proofs.Common.{◌≡◌, ℕ, suc, ◌+◌, ◌<◌, ◌≤◌, Bool, true, false}
use Rattle.std.proofs.Common.{not, ◌&&◌, List, [], ◌∷◌, ◌++◌, Option, Some, None, refl, sym, ap}
use Rattle.std.proofs.Common.{◌∙◌, length, arith, append_assoc, append-nil, length-append, rules}
use Rattle.std.proofs.lemmas.Bool.Decides.{nat_tests}
use Rattle.std.proofs.lemmas.Bool.{and_from}
use Rattle.std.specs.Prelude.{◌==◌, map, codes, All}
use Rattle.rvs_base.specs.Lines.{without_return}
use Rattle.rvs_base.specs.Number.{hex_digit_of, hex_digit_at, hex_word_of}
use Rattle.rvs_machine.specs.Written.{Write}
use Rattle.rvs_machine.specs.declared.event.Executed.{Executed}
use Rattle.rvs_log.specs.Grammar.{Says}
use Rattle.rvs_log.specs.Lines.{whole_from, tail_from, tail_of, line_says}
use Rattle.rvs_machine.specs.Traces.{ReadsAt, Follows}
use Rattle.rvs_log.specs.Entries.{Heard, hear, entry_at, entry_in, entries_in}
use Rattle.rvs_log.specs.Written.{padded, commit_text, line_of, IsSmall, HasWords}
use Rattle.rvs_log.specs.Logs.{log_of, as_entry, LogsReadBack, LinesDiffer}
use Rattle.rvs_log.proofs.Ascii.{hex_length, padded_one, padded_two}
use Rattle.rvs_log.proofs.Back.{reads_back}

-- neither a line feed nor a carriage return
abbrev pub ok : ℕ → Bool
ok b = not (b == 10) && not (b == 13)

abbrev pub plain : List ℕ → Bool
plain [] = true
plain (b ∷ bs) = ok b && plain bs

pub both : (a b : Bool) → (a && b) ≡ true → (a ≡ true) × (b ≡ true)
both a b h = grind arith

pub neither : (a b : Bool) → (not a && not b) ≡ true → (a ≡ false) × (b ≡ false)
neither a b h = grind arith

pub plain_join : (a b : List ℕ) → plain a ≡ true → plain b ≡ true → plain (a ++ b) ≡ true
plain_join [] b g h = h
plain_join (x ∷ a) b g h = grind (arith, nat_tests, (plain_join a b (both (ok x) (plain a) g).1 h))

-- ---- plain lines
whole_plain : (front l rest : List ℕ) → plain l ≡ true
    → whole_from front (l ++ 10 ∷ rest) ≡ (front ++ l) ∷ whole_from [] rest
whole_plain front [] rest h = ap (λ f. f ∷ whole_from [] rest) (sym (append-nil front))
whole_plain front (b ∷ l) rest h =
    let p = both (ok b) (plain l) h in
    ap (λ t. elim t as (λ _. List (List ℕ)) [
      | true ↦ front ∷ whole_from [] (l ++ 10 ∷ rest)
      | false ↦ whole_from (front ++ b ∷ []) (l ++ 10 ∷ rest)
    ]) (neither (b == 10) (b == 13) p.0).0
    ∙ whole_plain (front ++ b ∷ []) l rest p.1
    ∙ ap (λ f. f ∷ whole_from [] rest) (append_assoc front (b ∷ []) l)

tail_plain : (front l rest : List ℕ) → plain l ≡ true
    → tail_from front (l ++ 10 ∷ rest) ≡ tail_from [] rest
tail_plain front [] rest h = refl
tail_plain front (b ∷ l) rest h =
    let p = both (ok b) (plain l) h in
    ap (λ t. elim t as (λ _. List ℕ) [
      | true ↦ tail_from [] (l ++ 10 ∷ rest)
      | false ↦ tail_from (front ++ b ∷ []) (l ++ 10 ∷ rest)
    ]) (neither (b == 10) (b == 13) p.0).0
    ∙ tail_plain (front ++ b ∷ []) l rest p.1

pub return_plain : (l : List ℕ) → plain l ≡ true → without_return l ≡ l
return_plain [] h = refl
return_plain (b ∷ []) h = grind (arith, neither, both)
return_plain (b ∷ c ∷ l) h = simp (both, (return_plain (c ∷ l) (both (ok b) (plain (c ∷ l)) h).1))

-- ---- the parts of a line
low_ok : (d : ℕ) → ok (48 + d) ≡ true
low_ok d = grind (arith, and_from)

high_ok : (d : ℕ) → ok (87 + d) ≡ true
high_ok d = grind (arith, and_from)

digit_ok : (d : ℕ) → ok (hex_digit_of d) ≡ true
digit_ok d = grind (arith, low_ok, high_ok)

digits_plain : (w : ℕ) (places : List ℕ) → plain (map (hex_digit_at w) places) ≡ true
digits_plain w [] = refl
digits_plain w (p ∷ ps) = simp (and_from, digit_ok, (digits_plain w ps))

word_plain : (w : ℕ) → plain (hex_word_of w) ≡ true
unfolding hex_word_of
word_plain w = digits_plain w (7 ∷ 6 ∷ 5 ∷ 4 ∷ 3 ∷ 2 ∷ 1 ∷ 0 ∷ [])

padded_plain : (r : ℕ) → r < 32 → plain (padded r) ≡ true
padded_plain r h = grind (arith, padded_one, and_from, low_ok, padded_two)

padded_length : (r : ℕ) → r < 32 → length (padded r) ≡ 2
padded_length r h = grind (arith, padded_one, padded_two)

commit_plain : (w : Option Write) → IsSmall w → plain (commit_text w) ≡ true
commit_plain None h = refl
commit_plain (Some w) h =
    plain_join (codes " x") (padded w.reg ++ (codes " 0x" ++ hex_word_of w.value)) refl (plain_join
    (padded w.reg) (codes " 0x" ++ hex_word_of w.value) (padded_plain w.reg h.0)
    (plain_join (codes " 0x") (hex_word_of w.value) refl (word_plain w.value)))

-- how long the text of a commit is
abbrev pub commit_size : Option Write → ℕ
commit_size None = 0
commit_size (Some w) = 15

commit_length : (w : Option Write) → IsSmall w → length (commit_text w) ≡ commit_size w
commit_length w h = search (rules, length-append, padded_length, hex_length)

pub line_plain : (e : Executed) → IsSmall e.commit → plain (line_of e) ≡ true
line_plain e h =
    plain_join (codes "core   0: 3 0x") (hex_word_of e.pc
    ++ (codes " (0x" ++ (hex_word_of e.word ++ (codes ")" ++ commit_text e.commit)))) refl
    (plain_join (hex_word_of e.pc)
    (codes " (0x" ++ (hex_word_of e.word ++ (codes ")" ++ commit_text e.commit)))
    (word_plain e.pc)
    (plain_join (codes " (0x") (hex_word_of e.word ++ (codes ")" ++ commit_text e.commit)) refl
    (plain_join (hex_word_of e.word) (codes ")" ++ commit_text e.commit) (word_plain e.word)
    (plain_join (codes ")") (commit_text e.commit) refl (commit_plain e.commit h)))))

pub line_length : (e : Executed) → IsSmall e.commit
    → length (line_of e) ≡ 35 + commit_size e.commit
line_length e h = grind (arith, length-append, hex_length, commit_length)

short_commit : (w : Option Write) → commit_size w ≤ 15
short_commit w = grind arith

pub line_short : (e : Executed) → IsSmall e.commit → length (line_of e) ≤ 50
line_short e h = omega (arith, line_length e h, short_commit e.commit)

-- ---- the line, and the log
line_reads : (e : Executed) → HasWords e → line_says (line_of e) ≡ Says e.pc e.word e.commit
line_reads e h = grind (arith, line_short, return_plain, line_plain, reads_back)

entry_is : (words : List ℕ) (e : Executed) → ReadsAt words e
    → entry_at words e.pc e.word ≡ as_entry e
entry_is words e h = grind arith

abbrev Each : List Executed → Type 0
Each [] = Unit {0}
Each (e ∷ es) = HasWords e × Each es

each : (es : List Executed) → All HasWords es → Each es
each [] h = tt
each (e ∷ es) h = (h 0 e (omega arith), each es (λ k d l. h (suc k) d (omega arith)))

log_next : (e : Executed) (es : List Executed) → log_of (e ∷ es) ≡ line_of e ++ 10 ∷ log_of es
log_next e es = append_assoc (line_of e) (10 ∷ []) (log_of es)

trace_reads : (es : List Executed) (h : Heard) → Each es → Follows h.words es
    → entries_in h (map line_says (whole_from [] (log_of es))) ≡ map as_entry es
trace_reads [] h w t = refl
trace_reads (e ∷ es) h w t =
    ap (λ l. entries_in h (map line_says (whole_from [] l))) (log_next e es)
    ∙ ap (λ ls. entries_in h (map line_says ls))
    (whole_plain [] (line_of e) (log_of es) (line_plain e w.0.commit))
    ∙ ap (λ r. entry_in h r ++ entries_in (hear h r) (map line_says (whole_from [] (log_of es))))
    (line_reads e w.0)
    ∙ ap (λ x. x ∷ entries_in (hear h (Says e.pc e.word e.commit))
    (map line_says (whole_from [] (log_of es)))) (entry_is h.words e t.0)
    ∙ ap (λ l. as_entry e ∷ l) (trace_reads es (hear h (Says e.pc e.word e.commit)) w.1 t.1)

no_tail : (es : List Executed) → Each es → tail_of (log_of es) ≡ []
no_tail [] w = refl
no_tail (e ∷ es) w = search (rules, log_next, tail_plain, line_plain, (no_tail es w.1))

pub logs_read_back : LogsReadBack
logs_read_back es w t = simp (no_tail, each, append-nil, trace_reads)

pub lines_differ : LinesDiffer
lines_differ a b g h e = grind (arith, reads_back)
