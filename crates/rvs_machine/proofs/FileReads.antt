-- The image file is read as what it says.
use Rattle.std.proofs.Common.{◌≡◌, ℕ, suc, ◌+◌, ◌/◌, ◌%◌, ◌^◌, ◌<◌, ◌≤◌, Bool, true, false, cond}
use Rattle.std.proofs.Common.{List, [], ◌∷◌, ◌++◌, length, Some, None, Result, Ok, Err, refl, ap}
use Rattle.std.proofs.Common.{◌∙◌, arith}
use Rattle.std.specs.Prelude.{◌==◌, nat_le, codes, option_and_then}
use Rattle.std.specs.Char.{digit_value}
use Rattle.std.specs.Fmt.{decimal}
use Rattle.std.specs.Int.{w32, to_le_bytes}
use Rattle.std.specs.Str.Parse.{AllDigits}
use Rattle.std.proofs.lemmas.Bool.{le-leb, leb-true}
use Rattle.std.proofs.lemmas.Bool.Decides.{nat_tests}
use Rattle.std.proofs.lemmas.Fmt.{decimal_is_IsNumeral, length-decimal-le}
use Rattle.rvs_base.specs.Number.{hex_digit_of, hex_word_of}
use Rattle.rvs_base.specs.Digits.{digits_of}
use Rattle.rvs_base.proofs.HexDigits.{length-hex_word_of}
use Rattle.rvs_machine.specs.declared.reading.ImageRefusal.{ImageRefusal}
use Rattle.rvs_machine.specs.declared.reading.ImageKind.TheVariants.{TooLarge}
use Rattle.rvs_machine.specs.declared.reading.Addresses.{Addresses}
use Rattle.rvs_insn.specs.Memory.{Memory}
use Rattle.rvs_insn.proofs.Regions.{text_most, data_most}
use Rattle.rvs_machine.specs.Image.{ImageValue}
use Rattle.rvs_machine.specs.FileLines.{Rest, has_feed, after_feed, taken_from}
use Rattle.rvs_base.specs.Lines.{before, without_return}
use Rattle.rvs_base.proofs.Readings.{hex_digit, digits_of-hex_word, digits_of-decimal}
use Rattle.rvs_machine.specs.ImageText.{refusal, word_in, count_in, after_name, word_with}
use Rattle.rvs_machine.specs.ImageText.{word_from, word_line, count_with, count_from, count_line}
use Rattle.rvs_text.specs.Outcomes.{◌>>=◌}
use Rattle.rvs_machine.specs.ImageText.{put_before, word_lines, section, header_with}
use Rattle.rvs_machine.specs.ImageText.{address_lines, whole, image_of_bytes}
use Rattle.rvs_machine.specs.ImageText.{most_text, most_data}
use Rattle.rvs_machine.specs.ImageFile.{line_of, words_of, section_of, bytes_of, AreWords}
use Rattle.rvs_machine.specs.ImageFile.{FilesReadBack}

-- characters that end no line
abbrev Plain : List ℕ → Type 0
Plain [] = Unit {0}
Plain (c ∷ cs) = (32 ≤ c) × Plain cs

plain_join : (xs ys : List ℕ) → Plain xs → Plain ys → Plain (xs ++ ys)
plain_join [] ys p q = q
plain_join (x ∷ xs) ys p q = (p.0, plain_join xs ys p.1 q)

no_feed : (c : ℕ) → 32 ≤ c → (c == 10) ≡ false
no_feed c h = grind (arith, nat_tests)

no_return : (c : ℕ) → 32 ≤ c → (c == 13) ≡ false
no_return c h = grind (arith, nat_tests)

record Cut (l rest : List ℕ) : Type 0 where
  has : has_feed (l ++ 10 ∷ rest) ≡ true
  front : before 10 (l ++ 10 ∷ rest) ≡ l
  back : after_feed (l ++ 10 ∷ rest) ≡ rest

cut : (l rest : List ℕ) → Plain l → Cut l rest
cut [] rest p = record { has = refl; front = refl; back = refl }
cut (c ∷ cs) rest p =
    let r = cut cs rest p.1 in
    let f = no_feed c p.0 in
    record { has = rw f r.has; front = rw f (ap (λ l. c ∷ l) r.front); back = rw f r.back }

kept : (l : List ℕ) → Plain l → without_return l ≡ l
kept [] p = refl
kept (c ∷ []) p = rw (no_return c p.0) refl
kept (c ∷ d ∷ ds) p = ap (λ l. c ∷ l) (kept (d ∷ ds) p.1)

taken_line : (l rest : List ℕ) (n : ℕ) → Plain l
    → taken_from (l ++ 10 ∷ rest) n ≡ Some (l, record { bytes = rest; line = n + 1 })
taken_line [] rest n p = refl
taken_line (c ∷ cs) rest n p =
    let r = cut (c ∷ cs) rest p in
    let whole = (c ∷ cs) ++ 10 ∷ rest in
    ap (λ b. Some (
      cond b (without_return (before 10 whole)) whole,
      record {
        bytes = after_feed whole;
        line = n + 1;
      },
    )) r.has
    ∙ ap (λ l. Some (without_return l, record { bytes = after_feed whole; line = n + 1 })) r.front
    ∙ ap (λ l. Some (l, record { bytes = after_feed whole; line = n + 1 })) (kept (c ∷ cs) p)
    ∙ ap (λ x. Some (c ∷ cs, record { bytes = x; line = n + 1 })) r.back

digit_above : (d : ℕ) → d < 16 → 32 ≤ hex_digit_of d
digit_above d h = let p = (hex_digit d h).plain in omega (arith, p)

hex_plain : (w : ℕ) → Plain (hex_word_of w)
unfolding hex_word_of
hex_plain w = (
  digit_above (w / 16 ^ 7 % 16) (omega arith),
  (
    digit_above (w / 16 ^ 6 % 16) (omega arith),
    (
      digit_above (w / 16 ^ 5 % 16) (omega arith),
      (
        digit_above (w / 16 ^ 4 % 16) (omega arith),
        (
          digit_above (w / 16 ^ 3 % 16) (omega arith),
          (
            digit_above (w / 16 ^ 2 % 16) (omega arith),
            (
              digit_above (w / 16 ^ 1 % 16) (omega arith),
              (digit_above (w / 16 ^ 0 % 16) (omega arith), tt),
            ),
          ),
        ),
      ),
    ),
  ),
)

word_read : (w : ℕ) → w < 2 ^ 32 → word_in (hex_word_of w) ≡ Some w
word_read w h =
    let eight : (length (hex_word_of w) == 8) ≡ true = ap (λ n. n == 8) (length-hex_word_of w) in
    ap (λ b. cond b (digits_of 16 (hex_word_of w)) None) eight ∙ digits_of-hex_word w h

-- counts
digit_plain : (c : ℕ) → digit_value c < 10 → 32 ≤ c
digit_plain c h = grind (arith, nat_tests)

digits_plain : (ds : List ℕ) → AllDigits 10 ds → Plain ds
digits_plain [] h = tt
digits_plain (d ∷ ds) h = (digit_plain d h.0, digits_plain ds h.1)

count_read : (n : ℕ) → n ≤ 4_194_304 → count_in (decimal n) ≡ Some n
count_read n h =
    let few : nat_le (length (decimal n)) 7 ≡ true = le-leb (length (decimal n)) 7
    (length-decimal-le 7 n (omega arith) (omega arith) (omega arith)) in
    ap (λ b. cond b (digits_of 10 (decimal n)) None) few ∙ digits_of-decimal n (omega arith)

-- lines
word_line_read : (name rest : List ℕ) (w n : ℕ) → Plain name
    → after_name name (name ++ hex_word_of w) ≡ Some (hex_word_of w) → w < 2 ^ 32
    → word_line name (record { bytes = line_of name (hex_word_of w) rest; line = n })
    ≡ Ok (w, record { bytes = rest; line = n + 1 })
word_line_read name rest w n p after h =
    let next : Rest = record { bytes = rest; line = n + 1 } in
    ap (word_from n name) (taken_line (name ++ hex_word_of w) rest n
    (plain_join name (hex_word_of w) p (hex_plain w)))
    ∙ ap (λ o. word_with n next (option_and_then word_in o)) after
    ∙ ap (word_with n next) (word_read w h)

count_line_read : (name rest : List ℕ) (limit k n : ℕ) → Plain name
    → after_name name (name ++ decimal k) ≡ Some (decimal k) → k ≤ 4_194_304 → k ≤ limit
    → count_line name limit (record { bytes = line_of name (decimal k) rest; line = n })
    ≡ Ok (k, record { bytes = rest; line = n + 1 })
count_line_read name rest limit k n p after few low =
    let next : Rest = record { bytes = rest; line = n + 1 } in
    let is = decimal_is_IsNumeral k (omega arith) in
    ap (count_from n name limit) (taken_line (name ++ decimal k) rest n
    (plain_join name (decimal k) p (digits_plain (decimal k) is.0.1)))
    ∙ ap (λ o. count_with n limit next (option_and_then count_in o)) after
    ∙ ap (count_with n limit next) (count_read k few)
    ∙ ap (λ b. cond b (Ok (k, next)) (Err (refusal n TooLarge))) (le-leb k limit low)

words_read : (ws rest : List ℕ) (n : ℕ) → AreWords ws
    → word_lines (length ws) (record { bytes = words_of ws rest; line = n })
    ≡ Ok (bytes_of ws, record { bytes = rest; line = n + length ws })
words_read [] rest n h = let e : n ≡ n + 0 = omega arith in
    ap (λ k. Ok ([], record { bytes = rest; line = k })) e
words_read (w ∷ ws) rest n h =
    let e : n + 1 + length ws ≡ n + suc (length ws) = omega arith in
    ap (λ x. x >>= (λ p. put_before (to_le_bytes w32 p.0) (word_lines (length ws) p.1)))
    (word_line_read [] (words_of ws rest) w n tt refl h.0)
    ∙ ap (put_before (to_le_bytes w32 w)) (words_read ws rest (n + 1) h.1)
    ∙ ap (λ k. Ok (to_le_bytes w32 w ++ bytes_of ws, record { bytes = rest; line = k })) e

section_read : (name ws rest : List ℕ) (limit n : ℕ) → Plain name
    → after_name name (name ++ decimal (length ws)) ≡ Some (decimal (length ws)) → AreWords ws
    → length ws ≤ 4_194_304 → length ws ≤ limit
    → section name limit (record { bytes = section_of name ws rest; line = n })
    ≡ Ok (bytes_of ws, record { bytes = rest; line = n + 1 + length ws })
section_read name ws rest limit n p after are few low =
    ap (λ x. x >>= (λ p. word_lines p.0 p.1))
    (count_line_read name (words_of ws rest) limit (length ws) n p after few low)
    ∙ words_read ws rest (n + 1) are

-- constant names
abbrev plain_test : List ℕ → Bool
plain_test [] = true
plain_test (c ∷ cs) = cond (nat_le 32 c) (plain_test cs) false

both : (b t : Bool) → cond b t false ≡ true → (b ≡ true) × (t ≡ true)
both true t h = (refl, h)
both false t h = cc

plain_tested : (l : List ℕ) → plain_test l ≡ true → Plain l
plain_tested [] h = tt
plain_tested (c ∷ cs) h = let b = both (nat_le 32 c) (plain_test cs) h in
    (leb-true 32 c b.0, plain_tested cs b.1)

addresses_read : (at : Addresses) (n : ℕ) → AreWords (at.tohost ∷ at.sig_begin ∷ at.sig_end ∷ [])
    → address_lines (record {
      bytes = line_of (codes "tohost ") (hex_word_of at.tohost) (line_of (codes "begin ")
          (hex_word_of at.sig_begin) (line_of (codes "end ") (hex_word_of at.sig_end) []));
      line = n;
    }) ≡ Ok (at, record { bytes = []; line = n + 1 + 1 + 1 })
addresses_read at n h =
    let r2 = line_of (codes "end ") (hex_word_of at.sig_end) [] in
    let r1 = line_of (codes "begin ") (hex_word_of at.sig_begin) r2 in
    ap (λ x. x
    >>= (λ h. word_line (codes "begin ") h.1
    >>= (λ b. word_line (codes "end ") b.1 >>= (λ e. Ok (
      record {
        tohost = h.0;
        sig_begin = b.0;
        sig_end = e.0;
      },
      e.1,
    )))))
    (word_line_read (codes "tohost ") r1 at.tohost n (plain_tested (codes "tohost ") refl) refl h.0)
    ∙ ap (λ x. x >>= (λ b. word_line (codes "end ") b.1 >>= (λ e. Ok (
      record {
        tohost = at.tohost;
        sig_begin = b.0;
        sig_end = e.0;
      },
      e.1,
    ))))
    (word_line_read (codes "begin ") r2 at.sig_begin (n + 1) (plain_tested (codes "begin ") refl)
    refl h.1.0)
    ∙ ap (λ x. x >>= (λ e. Ok (
      record {
        tohost = at.tohost;
        sig_begin = at.sig_begin;
        sig_end = e.0;
      },
      e.1,
    )))
    (word_line_read (codes "end ") [] at.sig_end (n + 1 + 1) (plain_tested (codes "end ") refl) refl
    h.1.1.0)

-- what follows each part
abbrev after_addresses : Memory → List ℕ → List ℕ → Addresses × Rest
    → Result ImageValue ImageRefusal
after_addresses memory text ram a = whole memory text ram a.0 a.1

abbrev after_data : Memory → List ℕ → List ℕ × Rest → Result ImageValue ImageRefusal
after_data memory text d = address_lines d.1 >>= after_addresses memory text d.0

abbrev after_text : Memory → List ℕ × Rest → Result ImageValue ImageRefusal
after_text memory t = section (codes "data ") (most_data memory) t.1 >>= after_data memory t.0

abbrev after_header : Memory → Rest → Result ImageValue ImageRefusal
after_header memory r = section (codes "text ") (most_text memory) r >>= after_text memory

pub files_read : FilesReadBack
unfolding image_of_bytes
files_read memory text ram at t d a few_text few_data =
    let r3 = line_of (codes "tohost ") (hex_word_of at.tohost) (line_of (codes "begin ")
    (hex_word_of at.sig_begin) (line_of (codes "end ") (hex_word_of at.sig_end) [])) in
    let r2 = section_of (codes "data ") ram r3 in
    let r1 = section_of (codes "text ") text r2 in
    let few : length text ≤ 4_194_304 = omega (arith, few_text, text_most memory) in
    let short : length ram ≤ 4_194_304 = omega (arith, few_data, data_most memory) in
    ap (λ x. header_with 1 x >>= after_header memory)
    (taken_line (codes "rvimage 1") r1 1 (plain_tested (codes "rvimage 1") refl))
    ∙ ap (λ x. x >>= after_text memory) (section_read (codes "text ") text r2 (most_text memory) 2
    (plain_tested (codes "text ") refl) refl t few few_text)
    ∙ ap (λ x. x >>= after_data memory (bytes_of text))
    (section_read (codes "data ") ram r3 (most_data memory)
    (2 + 1 + length text) (plain_tested (codes "data ") refl) refl d short few_data)
    ∙ ap (λ x. x >>= after_addresses memory (bytes_of text) (bytes_of ram))
    (addresses_read at (2 + 1 + length text + 1 + length ram) a)
