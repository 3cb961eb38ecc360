-- Header, segments, symbols and marks are read as they were written.
use Rattle.std.proofs.Common.{◌≡◌, ℕ, ◌^◌, ◌<◌, ◌≤◌, Bool, true}
use Rattle.std.proofs.Common.{cond}
use Rattle.std.proofs.Common.{Some, None, Ok, Err, List, [], ◌∷◌, ◌++◌, length, take, drop}
use Rattle.std.proofs.Common.{refl, ap, ◌∙◌}
use Rattle.std.proofs.Common.{arith, length-append}
use Rattle.std.specs.Prelude.{◌&&◌}
use Rattle.std.proofs.lemmas.Bool.{and_from, eq-eqb}
use Rattle.rvs_elf.specs.declared.writing.Layout.{Layout}
use Rattle.rvs_elf.specs.declared.header.Header.{Header}
use Rattle.rvs_elf.specs.declared.entries.Segment.{Segment}
use Rattle.rvs_elf.specs.declared.entries.Section.{Section}
use Rattle.rvs_elf.specs.declared.marks.Marks.{Marks}
use Rattle.rvs_elf.specs.declared.refusal.ElfRefusal.TheVariants as kind
use Rattle.rvs_text.specs.Outcomes.{◌>>=◌}
use Rattle.rvs_elf.specs.Parts.{part}
use Rattle.rvs_elf.specs.Written as written
use Rattle.rvs_elf.specs.Header.{is_elf, is_executable, header_of, fields_of}
use Rattle.rvs_elf.specs.Tables.{segment_of, section_of, all_entries}
use Rattle.rvs_elf.specs.Tables.{in_file, found, symbol_parts}
use Rattle.rvs_elf.specs.Names.{marks_of, needed}
use Rattle.rvs_elf.proofs.Joined.{le_test, number_of, word_back}

-- ---- the header

pub long : (l : Layout) (rest : List ℕ) → 116 ≤ length (written.headers l ++ rest)
unfolding written.headers
long l rest =
    let e : length (written.headers l) ≡ 116 = refl in
    omega (arith, length-append (written.headers l) rest)

pub begins : (l : Layout) (rest : List ℕ) → is_elf (written.headers l ++ rest) ≡ true
unfolding is_elf written.headers
begins l rest =
    let h = long l rest in
    and_from _ _ (le_test 52 (length (written.headers l ++ rest)) (omega (arith, h))) refl

pub suits : (l : Layout) (rest : List ℕ) → l.text_base < 2 ^ 32
    → is_executable (written.memory_of l) (written.headers l ++ rest) ≡ true
unfolding is_executable written.headers
suits l rest h =
    ap (λ (b : Bool). b && true && true)
    (eq-eqb (number_of l.text_base) l.text_base (word_back _ h))

unfoldable pub made : ℕ → Header
made at = record {
  segments_at = 52;
  segment_count = 2;
  sections_at = at;
  section_count = 6;
}

pub fields : (l : Layout) (rest : List ℕ) → l.sections_at < 2 ^ 32
    → fields_of (written.headers l ++ rest) ≡ made l.sections_at
unfolding written.headers made
fields l rest h = ap made (word_back l.sections_at h)

pub header_back : (l : Layout) (rest : List ℕ) → l.text_base < 2 ^ 32
    → l.sections_at < 2 ^ 32
    → header_of (written.memory_of l) (written.headers l ++ rest) ≡ Ok (made l.sections_at)
unfolding header_of
header_back l rest low h =
    let file = written.headers l ++ rest in
    ap (λ b. cond b (cond (is_executable (written.memory_of l) file) (Ok (fields_of file))
    (Err kind.WrongKind)) (Err kind.NotElf)) (begins l rest)
    ∙ ap (λ b. cond b (Ok (fields_of file)) (Err kind.WrongKind)) (suits l rest low)
    ∙ ap Ok (fields l rest h)

-- ---- the segments

-- the program header of a segment whose file bytes are all its bytes
unfoldable pub loading : ℕ → ℕ → ℕ → Segment
loading at address size = record {
  kind = 1;
  offset = at;
  file_size = size;
  address = address;
  memory_size = size;
}

unfoldable pub both : Layout → List Segment
both l = loading 116 l.text_base l.text_size ∷ loading l.data_at l.data_base
    l.data_size ∷ []

unfoldable pub table : Layout → List ℕ
table l = written.segments l

pub table_there : (l : Layout) (rest : List ℕ)
    → part 52 64 (written.headers l ++ rest) ≡ Some (table l)
unfolding written.headers table
table_there l rest =
    let h = long l rest in
    ap (λ b. cond b (Some (take 64 (drop 52 (written.headers l ++ rest)))) None)
    (le_test 116 (length (written.headers l ++ rest)) h)

pub record IsSmall (l : Layout) : Type 0 where
  pub text_base : l.text_base < 2 ^ 32
  pub data_base : l.data_base < 2 ^ 32
  pub text : l.text_size < 2 ^ 32
  pub ram : l.data_size < 2 ^ 32
  pub data_at : l.data_at < 2 ^ 32
  pub symbols_at : l.symbols_at < 2 ^ 32
  pub strings_at : l.strings_at < 2 ^ 32
  pub sections_at : l.sections_at < 2 ^ 32

pub table_says : (l : Layout) → IsSmall l → all_entries segment_of 32 (table l) ≡ both l
unfolding table both loading
table_says l h =
    let base = l.text_base in
    let ram_base = l.data_base in
    ap (λ b. loading 116 b (number_of l.text_size)
    ∷ loading (number_of l.data_at) (number_of ram_base) (number_of l.data_size) ∷ [])
    (word_back base h.text_base)
    ∙ ap (λ b. loading 116 base (number_of l.text_size)
    ∷ loading (number_of l.data_at) b (number_of l.data_size) ∷ []) (word_back ram_base h.data_base)
    ∙ ap (λ n. loading 116 base n ∷ loading (number_of l.data_at) ram_base
    (number_of l.data_size) ∷ []) (word_back l.text_size h.text)
    ∙ ap (λ n. loading 116 base l.text_size ∷ loading n ram_base
    (number_of l.data_size) ∷ []) (word_back l.data_at h.data_at)
    ∙ ap (λ n. loading 116 base l.text_size ∷ loading l.data_at ram_base n ∷ [])
    (word_back l.data_size h.ram)

-- ---- the symbols

unfoldable pub section : ℕ → ℕ → ℕ → Section
section kind at size = record { kind = kind; offset = at; size = size; link = 0 }

unfoldable pub symbol_table : ℕ → Section
symbol_table at = record { kind = 2; offset = at; size = 64; link = 4 }

unfoldable pub sections_from : ℕ → ℕ → ℕ → ℕ → ℕ → ℕ → List Section
sections_from text ram ram_size symbols strings names =
    section 0 0 0 ∷ section 1 116 text ∷ section 1 ram ram_size ∷ symbol_table symbols
    ∷ section 3 strings 38 ∷ section 3 names 39 ∷ []

pub table_of_sections : (l : Layout)
    → all_entries section_of 40 (written.sections l)
    ≡ sections_from (number_of l.text_size) (number_of l.data_at) (number_of l.data_size)
    (number_of l.symbols_at) (number_of l.strings_at) (number_of l.names_at)
unfolding written.sections sections_from section symbol_table
table_of_sections l = refl

pub found_table : (l : Layout) → IsSmall l
    → all_entries section_of 40 (written.sections l)
    ≡ sections_from l.text_size l.data_at l.data_size l.symbols_at l.strings_at
    (number_of l.names_at)
found_table l h =
    table_of_sections l
    ∙ ap (λ n. sections_from n (number_of l.data_at) (number_of l.data_size)
    (number_of l.symbols_at)
    (number_of l.strings_at) (number_of l.names_at)) (word_back l.text_size h.text)
    ∙ ap (λ n. sections_from l.text_size n (number_of l.data_size) (number_of l.symbols_at)
    (number_of l.strings_at) (number_of l.names_at)) (word_back l.data_at h.data_at)
    ∙ ap (λ n. sections_from l.text_size l.data_at n (number_of l.symbols_at)
    (number_of l.strings_at) (number_of l.names_at)) (word_back l.data_size h.ram)
    ∙ ap (λ n. sections_from l.text_size l.data_at l.data_size n
    (number_of l.strings_at) (number_of l.names_at)) (word_back l.symbols_at h.symbols_at)
    ∙ ap (λ n. sections_from l.text_size l.data_at l.data_size l.symbols_at n
    (number_of l.names_at))
    (word_back l.strings_at h.strings_at)

pub symbols_found : (bytes : List ℕ) (l : Layout) (symbols strings : List ℕ) (other : ℕ)
    → part l.symbols_at 64 bytes ≡ Some symbols → part l.strings_at 38 bytes ≡ Some strings
    → symbol_parts bytes (sections_from l.text_size l.data_at l.data_size l.symbols_at l.strings_at
    other)
    ≡ Ok (symbols, strings)
unfolding sections_from section symbol_table
symbols_found bytes l symbols strings other e f =
    ap (λ o. found o >>= (λ symbols. in_file l.strings_at 38 bytes
    >>= (λ strings. Ok (symbols, strings)))) e
    ∙ ap (λ o. found o >>= (λ strings. Ok (symbols, strings))) f

-- ---- the marks

unfoldable pub marks : ℕ → ℕ → ℕ → Marks
marks a b c = record { tohost = a; sig_begin = b; sig_end = c }

pub read_marks : (a b c : ℕ) → marks_of (written.symbols a b c) written.strings
    ≡ Ok (marks (number_of a) (number_of b) (number_of c))
unfolding written.symbols written.strings needed marks
read_marks a b c = refl

pub marks_back : (a b c : ℕ) → a < 2 ^ 32 → b < 2 ^ 32 → c < 2 ^ 32
    → marks_of (written.symbols a b c) written.strings ≡ Ok (marks a b c)
marks_back a b c h i j =
    read_marks a b c
    ∙ ap (λ n. Ok (marks n (number_of b) (number_of c))) (word_back a h)
    ∙ ap (λ n. Ok (marks a n (number_of c))) (word_back b i)
    ∙ ap (λ n. Ok (marks a b n)) (word_back c j)
