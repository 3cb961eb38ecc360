-- A written statement is read as its word and operands.
use Rattle.std.proofs.Common.{◌≡◌, ◌≢◌, ℕ, Bool, true, false, cond, List, [], ◌∷◌, ◌++◌, Some, None}
use Rattle.std.proofs.Common.{Ok, Err, refl, sym, ap, ◌∙◌, append-nil, arith, rules}
use Rattle.std.specs.Prelude.{◌==◌}
use Rattle.std.specs.List.{list_all}
use Rattle.rvs_asm_text.specs.declared.bodies.LineFault.TheVariants.{BadLine}
use Rattle.rvs_asm_text.specs.declared.bodies.Body.TheVariants.{Nothing}
use Rattle.rvs_base.specs.Lines.{before, after}
use Rattle.rvs_asm_text.specs.Text.{is_blank, is_text_byte, drop_blanks, keep_end, trim_end, trim}
use Rattle.rvs_asm_text.specs.Text.{first_word, after_word, parts, trim_all, operands, statement}
use Rattle.rvs_asm_text.specs.Text.{labelled, tokens}
use Rattle.rvs_asm_text.specs.Operands.{is_symbol}
use Rattle.rvs_asm_text.specs.Lines.{read_line, tokens_line, statement_of, line_with}
use Rattle.rvs_test_text.specs.Statements.{joined, written}
use Rattle.rvs_test_text.proofs.Chars.{All, is_clean, differs, IsWord, AreWords, clean_word}

-- a text without # and without :, of characters that may stand in a line
abbrev pub HasNone : List ℕ → Type 0
HasNone [] = Unit {0}
HasNone (c ∷ cs) = ((c == 35) ≡ false) × ((c == 58) ≡ false) × (is_text_byte c ≡ true) × HasNone cs

pub none_join : (xs ys : List ℕ) → HasNone xs → HasNone ys → HasNone (xs ++ ys)
none_join [] ys p q = q
none_join (x ∷ xs) ys p q = (p.0, p.1, p.2, none_join xs ys p.3 q)

pub none_clean : (xs : List ℕ) → All is_clean xs → HasNone xs
none_clean [] p = tt
none_clean (x ∷ xs) p = let d = differs x p.0 in (d.hash, d.colon, d.text, none_clean xs p.1)

none_joined : (t : List ℕ) (ts : List (List ℕ)) → IsWord t → AreWords ts → HasNone (joined t ts)
none_joined t [] h hs = none_clean t (clean_word t h)
none_joined t (u ∷ us) h hs =
    grind (arith, none_join, none_clean, clean_word, (none_joined u us hs.0 hs.1))

no_hash : (xs : List ℕ) → HasNone xs → before 35 xs ≡ xs
no_hash [] p = refl
no_hash (x ∷ xs) p = ap (λ b. cond b [] (x ∷ before 35 xs)) p.0 ∙ ap (λ l. x ∷ l) (no_hash xs p.3)

no_colon : (xs : List ℕ) → HasNone xs → after 58 xs ≡ None
no_colon [] p = refl
no_colon (x ∷ xs) p = ap (λ b. cond b (Some xs) (after 58 xs)) p.1 ∙ no_colon xs p.3

pub text_bytes : (xs : List ℕ) → HasNone xs → list_all is_text_byte xs ≡ true
text_bytes [] p = refl
text_bytes (x ∷ xs) p = rw (p.2, text_bytes xs p.3) refl

-- a text that ends in a clean word keeps its end
abbrev EndsWell : List ℕ → Type 0
EndsWell xs = (trim_end xs ≡ xs) × (xs ≢ [])

keep_more : (c : ℕ) (xs : List ℕ) → xs ≢ [] → keep_end c xs ≡ c ∷ xs
keep_more c xs ne = grind arith

not_empty : (c : ℕ) (xs : List ℕ) → (c ∷ xs) ≢ []
not_empty c xs e = cc

ends_more : (c : ℕ) (xs : List ℕ) → EndsWell xs → EndsWell (c ∷ xs)
ends_more c xs h = (ap (keep_end c) h.0 ∙ keep_more c xs h.1, not_empty c xs)

ends_join : (xs ys : List ℕ) → EndsWell ys → EndsWell (xs ++ ys)
ends_join [] ys h = h
ends_join (x ∷ xs) ys h = ends_more x (xs ++ ys) (ends_join xs ys h)

keep_one : (c : ℕ) → is_blank c ≡ false → keep_end c [] ≡ c ∷ []
keep_one c h = ap (λ b. cond b [] (c ∷ [])) h

pub ends_word : (t : List ℕ) → IsWord t → EndsWell t
ends_word [] h = absurd h
ends_word (c ∷ []) h = (keep_one c (differs c h.0).blank, not_empty c [])
ends_word (c ∷ d ∷ ds) h = ends_more c (d ∷ ds) (ends_word (d ∷ ds) h.1)

ends_joined : (t : List ℕ) (ts : List (List ℕ)) → IsWord t → AreWords ts → EndsWell (joined t ts)
ends_joined t [] h hs = ends_word t h
ends_joined t (u ∷ us) h hs = grind (arith, ends_join, ends_more, (ends_joined u us hs.0 hs.1))

-- the first word of a text
word_read : (w rest : List ℕ) → All is_clean w → first_word (w ++ 32 ∷ rest) ≡ w
word_read [] rest h = refl
word_read (c ∷ cs) rest h = rw ((differs c h.0).blank, word_read cs rest h.1) refl

word_left : (w rest : List ℕ) → All is_clean w → after_word (w ++ 32 ∷ rest) ≡ 32 ∷ rest
word_left [] rest h = refl
word_left (c ∷ cs) rest h = rw ((differs c h.0).blank, word_left cs rest h.1) refl

starts_word : (t rest : List ℕ) → IsWord t → drop_blanks (t ++ rest) ≡ t ++ rest
starts_word t rest h = grind arith

starts_joined : (t : List ℕ) (ts : List (List ℕ)) → IsWord t
    → drop_blanks (joined t ts) ≡ joined t ts
starts_joined t [] h = ap drop_blanks (sym (append-nil t)) ∙ starts_word t [] h ∙ append-nil t
starts_joined t (u ∷ us) h = starts_word t (44 ∷ 32 ∷ joined u us) h

-- parts
part_alone : (t : List ℕ) → All is_clean t → parts t ≡ t ∷ []
part_alone [] h = refl
part_alone (c ∷ cs) h = rw ((differs c h.0).comma, part_alone cs h.1) refl

part_first : (t rest : List ℕ) → All is_clean t → parts (t ++ 44 ∷ rest) ≡ t ∷ parts rest
part_first [] rest h = refl
part_first (c ∷ cs) rest h = rw ((differs c h.0).comma, part_first cs rest h.1) refl

pub trim_word : (t : List ℕ) → IsWord t → trim t ≡ t
trim_word t h = grind (arith, append-nil, starts_word, ends_word)

-- a blank before the text goes to its first part
blank_first : (t : List ℕ) (ts : List (List ℕ)) → IsWord t → AreWords ts
    → trim_all (parts (32 ∷ joined t ts)) ≡ t ∷ ts
blank_first t [] h hs = grind (arith, part_alone, clean_word, trim_word)
blank_first t (u ∷ us) h hs =
    grind (arith, part_first, clean_word, trim_word, (blank_first u us hs.0 hs.1))

parts_read : (t : List ℕ) (ts : List (List ℕ)) → IsWord t → AreWords ts
    → trim_all (parts (joined t ts)) ≡ t ∷ ts
parts_read t ts h hs = search (rules, part_alone, clean_word, trim_word, part_first, blank_first)

operands_are : (xs : List ℕ) → xs ≢ [] → operands xs ≡ trim_all (parts xs)
operands_are xs ne = grind arith

pub written_none : (word t : List ℕ) (ts : List (List ℕ)) → IsWord word → IsWord t → AreWords ts
    → HasNone (written word (t ∷ ts))
written_none word t ts hw h hs = grind (arith, none_join, none_clean, clean_word, none_joined)

-- A written statement is cut into its word and operands, without a label.
written_tokens : (word t : List ℕ) (ts : List (List ℕ)) → IsWord word → IsWord t → AreWords ts
    → tokens (written word (t ∷ ts)) ≡ record { label = None; word = word; args = t ∷ ts }
unfolding tokens
written_tokens word t ts hw h hs =
    let text = word ++ 32 ∷ joined t ts in
    let whole = written word (t ∷ ts) in
    let none = written_none word t ts hw h hs in
    let ends : EndsWell text =
    ends_join word (32 ∷ joined t ts) (ends_more 32 (joined t ts) (ends_joined t ts h hs)) in
    let trimmed : trim whole ≡ text =
    ap trim_end (starts_word word (32 ∷ joined t ts) hw) ∙ ends.0 in
    let args : operands (drop_blanks (32 ∷ joined t ts)) ≡ t ∷ ts =
    ap operands (starts_joined t ts h) ∙ operands_are (joined t ts) (ends_joined t ts h hs).1
    ∙ parts_read t ts h hs in
    ap (λ x. labelled x (after 58 x)) (no_hash whole none)
    ∙ ap (labelled whole) (no_colon whole none)
    ∙ ap (statement None) trimmed
    ∙ ap (λ x. record { label = None; word = x; args = operands (drop_blanks (after_word text)) })
    (word_read word (joined t ts) (clean_word word hw))
    ∙ ap (λ x. record { label = None; word = word; args = operands (drop_blanks x) })
    (word_left word (joined t ts) (clean_word word hw))
    ∙ ap (λ x. record { label = None; word = word; args = x }) args

-- A written statement is read by its word and operands.
pub written_read : (in_text : Bool) (word t : List ℕ) (ts : List (List ℕ)) → IsWord word → IsWord t
    → AreWords ts
    → read_line in_text (written word (t ∷ ts))
    ≡ line_with None (statement_of in_text word (t ∷ ts))
unfolding read_line
written_read in_text word t ts hw h hs =
    let whole = written word (t ∷ ts) in
    let none = written_none word t ts hw h hs in
    ap (λ x. cond (list_all is_text_byte x) (tokens_line in_text (tokens whole)) (Err BadLine))
    (no_hash whole none)
    ∙ ap (λ b. cond b (tokens_line in_text (tokens whole)) (Err BadLine)) (text_bytes whole none)
    ∙ ap (tokens_line in_text) (written_tokens word t ts hw h hs)

-- ---- a label on a line of its own
abbrev pub label_text : List ℕ → List ℕ
label_text s = s ++ 58 ∷ []

hash_free : (s : List ℕ) → All is_clean s → before 35 (label_text s) ≡ label_text s
hash_free [] h = refl
hash_free (c ∷ cs) h = grind (arith, cond, differs, (hash_free cs h.1))

before_read : (s : List ℕ) → All is_clean s → before 58 (label_text s) ≡ s
before_read [] h = refl
before_read (c ∷ cs) h = grind (arith, cond, differs, (before_read cs h.1))

after_read : (s : List ℕ) → All is_clean s → after 58 (label_text s) ≡ Some []
after_read [] h = refl
after_read (c ∷ cs) h = grind (arith, cond, Some, differs, (after_read cs h.1))

pub label_bytes : (s : List ℕ) → All is_clean s → list_all is_text_byte (label_text s) ≡ true
label_bytes [] h = refl
label_bytes (c ∷ cs) h = rw ((differs c h.0).text, label_bytes cs h.1) refl

label_tokens : (s : List ℕ) → IsWord s
    → tokens (label_text s) ≡ record { label = Some s; word = []; args = [] }
unfolding tokens
label_tokens s w =
    let c = clean_word s w in
    ap (λ x. labelled x (after 58 x)) (hash_free s c)
    ∙ ap (labelled (label_text s)) (after_read s c)
    ∙ ap (λ x. statement (Some (trim x)) []) (before_read s c)
    ∙ ap (λ x. statement (Some x) []) (trim_word s w)

pub label_read : (in_text : Bool) (s : List ℕ) → IsWord s → is_symbol s ≡ true
    → read_line in_text (label_text s) ≡ Ok (record { label = Some s; body = Nothing })
unfolding read_line
label_read in_text s w is =
    let c = clean_word s w in
    let whole = label_text s in
    ap (λ x. cond (list_all is_text_byte x) (tokens_line in_text (tokens whole)) (Err BadLine))
    (hash_free s c)
    ∙ ap (λ b. cond b (tokens_line in_text (tokens whole)) (Err BadLine)) (label_bytes s c)
    ∙ ap (tokens_line in_text) (label_tokens s w)
    ∙ ap (λ b. cond b (Ok (record { label = Some s; body = Nothing })) (Err BadLine)) is
