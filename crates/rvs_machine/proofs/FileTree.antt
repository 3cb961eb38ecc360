-- The reading of an image file as a tree, in which each line says what goes on.
use Rattle.std.proofs.Common.{◌≡◌, ℕ, zero, suc, ◌+◌, ◌-◌, Bool, true, false, List, [], ◌∷◌, ◌++◌}
use Rattle.std.proofs.Common.{Option, Some, None, Result, Ok, Err, if◌then◌else◌, refl, ap, sym}
use Rattle.std.proofs.Common.{◌∙◌, arith, bytes_eq, codes}
use Rattle.std.specs.Prelude.{nat_le, option_and_then}
use Rattle.std.specs.Int.{w32, to_le_bytes}
use Rattle.rvs_machine.specs.declared.reading.ImageKind.{ImageKind}
use Rattle.rvs_machine.specs.declared.reading.ImageKind.TheVariants.{BadLine, TooLarge}
use Rattle.rvs_machine.specs.declared.reading.ImageRefusal.{ImageRefusal}
use Rattle.rvs_machine.specs.declared.reading.Addresses.{Addresses}
use Rattle.rvs_insn.specs.Memory.{Memory}
use Rattle.rvs_machine.specs.Image.{ImageValue}
use Rattle.rvs_machine.specs.FileLines.{Rest, first_line, after_feed}
use Rattle.rvs_machine.specs.ImageText.{refusal, word_in, count_in, after_name, header, word_with}
use Rattle.rvs_text.specs.Outcomes.{◌>>=◌}
use Rattle.rvs_machine.specs.ImageText.{word_line, count_with, count_line, put_before}
use Rattle.rvs_machine.specs.ImageText.{word_lines, section, address_lines, whole, image_of_bytes}
use Rattle.rvs_machine.specs.ImageText.{most_text, most_data}

pub data Tree (A : Type 0) : Type 0 where
  done : A → Tree A
  fail : ImageKind → Tree A
  more : (List ℕ → Tree A) → Tree A

abbrev pub Found : Type 0 → Type 0
Found A = Result (A × Rest) ImageRefusal

-- what a file comes to from a line on
abbrev pub run : {A : Type 0} → Tree A → List ℕ → ℕ → Found A
run (done a) bytes n = Ok (a, record { bytes = bytes; line = n })
run (fail kind) bytes n = Err (refusal (n - 1) kind)
run (more f) [] n = Err (refusal n BadLine)
run (more f) (c ∷ cs) n = run (f (first_line (c ∷ cs))) (after_feed (c ∷ cs)) (n + 1)

abbrev pub bind : {A B : Type 0} → Tree A → (A → Tree B) → Tree B
bind (done a) go = go a
bind (fail kind) go = fail kind
bind (more f) go = more (λ l. bind (f l) go)

abbrev pub onward : {A B : Type 0} → (A → Tree B) → A × Rest → Found B
onward go p = run (go p.0) p.1.bytes p.1.line

pub run-bind : {A B : Type 0} (t : Tree A) (go : A → Tree B) (bytes : List ℕ) (n : ℕ)
    → run (bind t go) bytes n ≡ (run t bytes n >>= onward go)
run-bind (done a) go bytes n = refl
run-bind (fail kind) go bytes n = refl
run-bind (more f) go [] n = refl
run-bind (more f) go (c ∷ cs) n =
    run-bind (f (first_line (c ∷ cs))) go (after_feed (c ∷ cs)) (n + 1)

-- a tree says what a reader reads
abbrev pub IsRun : {A : Type 0} → Tree A → (Rest → Found A) → Type 0
IsRun t reader = (bytes : List ℕ) (n : ℕ)
    → reader (record { bytes = bytes; line = n }) ≡ run t bytes n

go_same : {A B : Type 0} (x : Found A) (f g : A × Rest → Result B ImageRefusal)
    → ((p : A × Rest) → f p ≡ g p) → (x >>= f) ≡ (x >>= g)
go_same (Err e) f g h = refl
go_same (Ok p) f g h = h p

pub bound : {A B : Type 0} (t : Tree A) (reader : Rest → Found A) (go : A → Tree B)
    (later : A → Rest → Found B) → IsRun t reader → ((a : A) → IsRun (go a) (later a))
    → IsRun (bind t go) (λ r. reader r >>= (λ p. later p.0 p.1))
bound t reader go later h i bytes n =
    ap (λ x. x >>= (λ p. later p.0 p.1)) (h bytes n)
    ∙ go_same (run t bytes n) (λ p. later p.0 p.1) (onward go) (λ p. i p.0 p.1.bytes p.1.line)
    ∙ sym (run-bind t go bytes n)

line_before : (n : ℕ) → n ≡ n + 1 - 1
line_before n = omega arith

-- ---- lines
abbrev pub header_said : Bool → Tree (Unit {0})
header_said b = if b then done tt else fail BadLine

abbrev pub header_tree : Tree (Unit {0})
header_tree = more (λ l. header_said (bytes_eq l (codes "rvimage 1")))

abbrev pub only_rest : Unit {0} × Rest → Result Rest ImageRefusal
only_rest p = Ok p.1

header_is : (b : Bool) (bytes : List ℕ) (n : ℕ)
    → (if b then Ok (record { bytes = bytes; line = n + 1 }) else Err (refusal n BadLine))
    ≡ (run (header_said b) bytes (n + 1) >>= only_rest)
header_is true bytes n = refl
header_is false bytes n = ap (λ k. Err (refusal k BadLine)) (line_before n)

header_run : (bytes : List ℕ) (n : ℕ)
    → header (record { bytes = bytes; line = n }) ≡ (run header_tree bytes n >>= only_rest)
header_run [] n = refl
header_run (c ∷ cs) n =
    header_is (bytes_eq (first_line (c ∷ cs)) (codes "rvimage 1")) (after_feed (c ∷ cs)) n

abbrev pub word_said : Option ℕ → Tree ℕ
word_said None = fail BadLine
word_said (Some word) = done word

abbrev pub word_tree : List ℕ → Tree ℕ
word_tree name = more (λ l. word_said (option_and_then word_in (after_name name l)))

word_is : (o : Option ℕ) (bytes : List ℕ) (n : ℕ)
    → word_with n (record { bytes = bytes; line = n + 1 }) o ≡ run (word_said o) bytes (n + 1)
word_is None bytes n = ap (λ k. Err (refusal k BadLine)) (line_before n)
word_is (Some word) bytes n = refl

word_run : (name : List ℕ) → IsRun (word_tree name) (word_line name)
word_run name [] n = refl
word_run name (c ∷ cs) n = word_is (option_and_then word_in (after_name name (first_line (c ∷ cs))))
    (after_feed (c ∷ cs)) n

abbrev pub limited : Bool → ℕ → Tree ℕ
limited b count = if b then done count else fail TooLarge

abbrev pub count_said : ℕ → Option ℕ → Tree ℕ
count_said limit None = fail BadLine
count_said limit (Some count) = limited (nat_le count limit) count

abbrev pub count_tree : List ℕ → ℕ → Tree ℕ
count_tree name limit = more (λ l. count_said limit (option_and_then count_in (after_name name l)))

limited_is : (b : Bool) (count : ℕ) (bytes : List ℕ) (n : ℕ)
    → (if b then Ok (count, record { bytes = bytes; line = n + 1 }) else Err (refusal n TooLarge))
    ≡ run (limited b count) bytes (n + 1)
limited_is true count bytes n = refl
limited_is false count bytes n = ap (λ k. Err (refusal k TooLarge)) (line_before n)

count_is : (limit : ℕ) (o : Option ℕ) (bytes : List ℕ) (n : ℕ)
    → count_with n limit (record { bytes = bytes; line = n + 1 }) o
    ≡ run (count_said limit o) bytes (n + 1)
count_is limit None bytes n = ap (λ k. Err (refusal k BadLine)) (line_before n)
count_is limit (Some count) bytes n = limited_is (nat_le count limit) count bytes n

count_run : (name : List ℕ) (limit : ℕ) → IsRun (count_tree name limit) (count_line name limit)
count_run name limit [] n = refl
count_run name limit (c ∷ cs) n = count_is limit
    (option_and_then count_in (after_name name (first_line (c ∷ cs)))) (after_feed (c ∷ cs)) n

-- ---- lines together
abbrev pub words_tree : ℕ → Tree (List ℕ)
words_tree zero = done []
words_tree (suc n) =
    bind (word_tree []) (λ w. bind (words_tree n) (λ bytes. done (to_le_bytes w32 w ++ bytes)))

put_is : (first : List ℕ) (x : Found (List ℕ))
    → put_before first x ≡ (x >>= onward (λ bytes. done (first ++ bytes)))
put_is first (Err e) = refl
put_is first (Ok p) = refl

words_run : (count : ℕ) → IsRun (words_tree count) (word_lines count)
words_run zero bytes n = refl
words_run (suc count) bytes n =
    bound (word_tree []) (word_line [])
    (λ w. bind (words_tree count) (λ bs. done (to_le_bytes w32 w ++ bs)))
    (λ w r. put_before (to_le_bytes w32 w) (word_lines count r)) (word_run [])
    (λ w bs k. ap (put_before (to_le_bytes w32 w)) (words_run count bs k) ∙ put_is
    (to_le_bytes w32 w) (run (words_tree count) bs k)
    ∙ sym (run-bind (words_tree count) (λ cs. done (to_le_bytes w32 w ++ cs)) bs k)) bytes n

abbrev pub section_tree : List ℕ → ℕ → Tree (List ℕ)
section_tree name limit = bind (count_tree name limit) words_tree

section_run : (name : List ℕ) (limit : ℕ) → IsRun (section_tree name limit) (section name limit)
section_run name limit = bound (count_tree name limit) (count_line name limit) words_tree word_lines
    (count_run name limit) words_run

abbrev pub end_tree : ℕ → ℕ → Tree Addresses
end_tree tohost sig_begin = bind (word_tree (codes "end ")) (λ e. done (record {
  tohost = tohost;
  sig_begin = sig_begin;
  sig_end = e;
}))

abbrev pub begin_tree : ℕ → Tree Addresses
begin_tree tohost = bind (word_tree (codes "begin ")) (end_tree tohost)

abbrev pub address_tree : Tree Addresses
address_tree = bind (word_tree (codes "tohost ")) begin_tree

abbrev end_lines : ℕ → ℕ → Rest → Found Addresses
end_lines tohost sig_begin r = word_line (codes "end ") r >>= (λ e. Ok (
  record {
    tohost = tohost;
    sig_begin = sig_begin;
    sig_end = e.0;
  },
  e.1,
))

abbrev begin_lines : ℕ → Rest → Found Addresses
begin_lines tohost r = word_line (codes "begin ") r >>= (λ b. end_lines tohost b.0 b.1)

end_run : (tohost sig_begin : ℕ) → IsRun (end_tree tohost sig_begin) (end_lines tohost sig_begin)
end_run tohost sig_begin =
    bound (word_tree (codes "end ")) (word_line (codes "end ")) (λ e. done (record {
      tohost = tohost;
      sig_begin = sig_begin;
      sig_end = e;
    }))
    (λ e r. Ok (
      record {
        tohost = tohost;
        sig_begin = sig_begin;
        sig_end = e;
      },
      r,
    )) (word_run (codes "end ")) (λ e bytes n. refl)

begin_run : (tohost : ℕ) → IsRun (begin_tree tohost) (begin_lines tohost)
begin_run tohost = bound (word_tree (codes "begin ")) (word_line (codes "begin ")) (end_tree tohost)
    (end_lines tohost) (word_run (codes "begin ")) (end_run tohost)

address_run : IsRun address_tree address_lines
address_run = bound (word_tree (codes "tohost ")) (word_line (codes "tohost ")) begin_tree
    begin_lines (word_run (codes "tohost ")) begin_run

-- ---- the file
pub record Parts : Type 0 where
  pub text : List ℕ
  pub ram : List ℕ
  pub at : Addresses

abbrev pub addresses_tree : List ℕ → List ℕ → Tree Parts
addresses_tree text ram =
    bind address_tree (λ at. done (record { text = text; ram = ram; at = at }))

abbrev pub data_tree : Memory → List ℕ → Tree Parts
data_tree memory text = bind (section_tree (codes "data ") (most_data memory)) (addresses_tree text)

abbrev pub text_tree : Memory → Unit {0} → Tree Parts
text_tree memory u = bind (section_tree (codes "text ") (most_text memory)) (data_tree memory)

abbrev pub file_tree : Memory → Tree Parts
file_tree memory = bind header_tree (text_tree memory)

abbrev pub judged : Memory → Parts × Rest → Result ImageValue ImageRefusal
judged memory p = whole memory p.0.text p.0.ram p.0.at p.1

then_twice : {A B C : Type 0} (x : Found A) (f : A × Rest → Found B)
    (g : B × Rest → Result C ImageRefusal) → ((x >>= f) >>= g) ≡ (x >>= (λ p. f p >>= g))
then_twice (Err e) f g = refl
then_twice (Ok p) f g = refl

-- the same, where the last step is no tree's
sequel : {A B C : Type 0} (t : Tree A) (reader : Rest → Found A) (go : A → Tree B)
    (later : A → Rest → Result C ImageRefusal) (g : B × Rest → Result C ImageRefusal) → IsRun t
    reader
    → ((a : A) (bytes : List ℕ) (n : ℕ)
    → later a (record { bytes = bytes; line = n }) ≡ (run (go a) bytes n >>= g))
    → (bytes : List ℕ) (n : ℕ)
    → (reader (record { bytes = bytes; line = n }) >>= (λ p. later p.0 p.1))
    ≡ (run (bind t go) bytes n >>= g)
sequel t reader go later g h i bytes n =
    ap (λ x. x >>= (λ p. later p.0 p.1)) (h bytes n)
    ∙ go_same (run t bytes n) (λ p. later p.0 p.1) (λ p. onward go p >>= g)
    (λ p. i p.0 p.1.bytes p.1.line)
    ∙ sym (then_twice (run t bytes n) (onward go) g)
    ∙ ap (λ x. x >>= g) (sym (run-bind t go bytes n))

abbrev after_data : Memory → List ℕ → List ℕ → Rest → Result ImageValue ImageRefusal
after_data memory text ram r = address_lines r >>= (λ a. whole memory text ram a.0 a.1)

abbrev after_text : Memory → List ℕ → Rest → Result ImageValue ImageRefusal
after_text memory text r =
    section (codes "data ") (most_data memory) r >>= (λ d. after_data memory text d.0 d.1)

abbrev after_header : Memory → Rest → Result ImageValue ImageRefusal
after_header memory r =
    section (codes "text ") (most_text memory) r >>= (λ t. after_text memory t.0 t.1)

data_run : (memory : Memory) (text ram bytes : List ℕ) (n : ℕ)
    → after_data memory text ram (record { bytes = bytes; line = n })
    ≡ (run (addresses_tree text ram) bytes n >>= judged memory)
data_run memory text ram = sequel address_tree address_lines (λ at. done (record {
  text = text;
  ram = ram;
  at = at;
})) (λ at r. whole memory text ram at r) (judged memory) address_run (λ at bytes n. refl)

text_run : (memory : Memory) (text bytes : List ℕ) (n : ℕ)
    → after_text memory text (record { bytes = bytes; line = n })
    ≡ (run (data_tree memory text) bytes n >>= judged memory)
text_run memory text = sequel (section_tree (codes "data ") (most_data memory))
    (section (codes "data ") (most_data memory))
    (addresses_tree text) (after_data memory text) (judged memory)
    (section_run (codes "data ") (most_data memory))
    (data_run memory text)

behind_header : (memory : Memory) (bytes : List ℕ) (n : ℕ)
    → after_header memory (record { bytes = bytes; line = n })
    ≡ (run (text_tree memory tt) bytes n >>= judged memory)
behind_header memory = sequel (section_tree (codes "text ") (most_text memory))
    (section (codes "text ") (most_text memory)) (data_tree memory) (after_text memory)
    (judged memory)
    (section_run (codes "text ") (most_text memory)) (text_run memory)

header_first : (memory : Memory) (x : Found (Unit {0}))
    → ((x >>= only_rest) >>= after_header memory)
    ≡ ((x >>= onward (text_tree memory)) >>= judged memory)
header_first memory (Err e) = refl
header_first memory (Ok p) = behind_header memory p.1.bytes p.1.line

pub file_run : (memory : Memory) (bytes : List ℕ)
    → image_of_bytes memory bytes ≡ (run (file_tree memory) bytes 1 >>= judged memory)
unfolding image_of_bytes
file_run memory bytes =
    ap (λ x. x >>= after_header memory) (header_run bytes 1)
    ∙ header_first memory (run header_tree bytes 1)
    ∙ ap (λ x. x >>= judged memory) (sym (run-bind header_tree (text_tree memory) bytes 1))
