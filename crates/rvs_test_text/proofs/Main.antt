-- A test text, assembled and run.
use Rattle.std.proofs.Common.{◌≡◌, ℕ, zero, suc, ◌+◌, ◌*◌, ◌/◌, ◌%◌, ◌^◌, ◌<◌, ◌≤◌, true, false}
use Rattle.std.proofs.Common.{cond, List, [], ◌∷◌, ◌++◌, length, Some, None, refl, sym, ap, ◌∙◌}
use Rattle.std.proofs.Common.{arith, append-nil}
use Rattle.std.proofs.lemmas.Bool.Decides.{nat_tests}
use Rattle.std.specs.Prelude.{◌&&◌, nat_le, map, codes, option_and_then}
use Rattle.std.specs.List.{list_all}
use Rattle.std.specs.Fmt.{decimal}
use Rattle.std.proofs.lemmas.Fmt.{decimal_by_steps}
use Rattle.rvs_insn.specs.Memory.{Memory, text_limit}
use Rattle.rvs_insn.specs.Isa.{Isa}
use Rattle.rvs_test_text.specs.Claim.{most_cases}
use Rattle.rvs_insn.proofs.Regions.{regions_end}
use Rattle.rvs_asm_text.specs.Text.{lines_of, is_text_byte}
use Rattle.rvs_base.specs.Digits.{digits_of}
use Rattle.rvs_base.proofs.Readings.{digits_of-decimal}
use Rattle.rvs_asm_text.specs.Header.{allowed, steps_number, first_steps, header_steps}
use Rattle.rvs_asm.specs.Symbols.{Table, find_mark}
use Rattle.rvs_asm.specs.Locations.{Reading, readings, start, labels}
use Rattle.rvs_asm.specs.Bytes.{section}
use Rattle.rvs_asm.specs.Faults.{first_fault, second_fault, first_missing, needed, is_missing}
use Rattle.rvs_asm.specs.Answer.{text_readings, image_of, Assembles}
use Rattle.rvs_choice.specs.declared.solved.Solved.{Solved}
use Rattle.rvs_choice.specs.declared.solved.Solved.TheVariants.{One, Many}
use Rattle.rvs_test_text.specs.declared.statement.Name.TheVariants.{ToHost, BeginSignature}
use Rattle.rvs_test_text.specs.declared.statement.Name.TheVariants.{EndSignature}
use Rattle.rvs_test_text.specs.Statements.{printed}
use Rattle.rvs_test_text.specs.TestText.{last_register, Point, header, test_text}
use Rattle.rvs_test_text.specs.TestText.{code_part, bytes_all}
use Rattle.rvs_test_text.specs.TestText.{step_limit}
use Rattle.rvs_test_text.specs.TestText.{all_steps}
use Rattle.rvs_test_text.specs.Claim.{AreReady, ArePrintable, TestsRun}
use Rattle.rvs_test_text.proofs.Chars.{tested}
use Rattle.rvs_test_text.proofs.Tables.{named, find_name, found}
use Rattle.rvs_test_text.proofs.Passes.{also, read_as, labelled, first_free, second_free}
use Rattle.rvs_test_text.proofs.Fits.{all_made, last_low}
use Rattle.rvs_test_text.proofs.Registers.{AreCleared}
use Rattle.rvs_test_text.proofs.TestNames.{code_fine, whole, HasSpace, text_size, code_bytes}
use Rattle.rvs_test_text.proofs.Parts.{whole_read, whole_distinct, whole_stands}
use Rattle.rvs_test_text.proofs.Parts.{whole_linked, table_small}
use Rattle.rvs_test_text.proofs.TestNames.{table, tohost_there, begin_there}
use Rattle.rvs_test_text.proofs.TestNames.{end_there}
use Rattle.rvs_test_text.proofs.Ran.{AreChoices, image_for, image_fine, test_runs}
use Rattle.rvs_test_text.proofs.Text.{ArePoints, lines_back, blanks, header_read, text_are_lines}

-- ---- comments make nothing
blank_labels : (memory : Memory) (ts : List (List ℕ)) (rs : List Reading)
    → labels (blanks ts ++ rs) (start memory) ≡ labels rs (start memory)
blank_labels memory [] rs = refl
blank_labels memory (t ∷ ts) rs = blank_labels memory ts rs

blank_first : (isa : Isa) (n : ℕ) (ts : List (List ℕ)) (rs : List Reading)
    → ((k : ℕ) → first_fault isa [] (start isa.memory) k rs ≡ None)
    → first_fault isa [] (start isa.memory) n (blanks ts ++ rs) ≡ None
blank_first isa n [] rs h = h n
blank_first isa n (t ∷ ts) rs h = grind (arith, nat_tests, (blank_first isa (n + 1) ts rs h))

blank_second : (memory : Memory) (tbl : Table) (n : ℕ) (ts : List (List ℕ)) (rs : List Reading)
    → ((k : ℕ) → second_fault tbl (start memory) k rs ≡ None)
    → second_fault tbl (start memory) n (blanks ts ++ rs) ≡ None
blank_second memory tbl n [] rs h = h n
blank_second memory tbl n (t ∷ ts) rs h = blank_second memory tbl (n + 1) ts rs h

blank_text : (memory : Memory) (env : List ℕ → ℕ) (ts : List (List ℕ)) (rs : List Reading)
    → section true env (blanks ts ++ rs) (start memory) ≡ section true env rs (start memory)
blank_text memory env [] rs = refl
blank_text memory env (t ∷ ts) rs = blank_text memory env ts rs

blank_ram : (memory : Memory) (env : List ℕ → ℕ) (ts : List (List ℕ)) (rs : List Reading)
    → section false env (blanks ts ++ rs) (start memory) ≡ section false env rs (start memory)
blank_ram memory env [] rs = refl
blank_ram memory env (t ∷ ts) rs = blank_ram memory env ts rs

-- ---- the image of a list of read lines
image_blank : (memory : Memory) (tbl : Table) (ts : List (List ℕ)) (rs : List Reading)
    → image_of memory tbl (blanks ts ++ rs) ≡ image_of memory tbl rs
image_blank memory tbl ts rs = simp (false, blanks, blank_text, true, blank_ram)

-- ---- what is asked of the choices
points_fine : (ps : List Point) → ArePrintable ps → ArePoints ps
points_fine [] h = tt
points_fine (p ∷ ps) h = grind (arith, tested, (points_fine ps h.2))

-- ---- the steps of the header
-- so many digits for numbers so large
pub record IsShort (n : ℕ) (ds : List ℕ) : Type 0 where
  pub d1 : n < 10 → length ds ≤ 1
  pub d2 : n < 100 → length ds ≤ 2
  pub d3 : n < 1000 → length ds ≤ 3
  pub d4 : n < 10000 → length ds ≤ 4
  pub d5 : n < 100000 → length ds ≤ 5
  pub d6 : n < 1000000 → length ds ≤ 6
  pub d7 : n < 10000000 → length ds ≤ 7

one_more : (ds : List ℕ) (c k : ℕ) → length ds ≤ k → length (ds ++ c ∷ []) ≤ k + 1
one_more [] c k h = omega arith
one_more (d ∷ ds) c zero h = absurd (omega arith)
one_more (d ∷ ds) c (suc k) h = grind (arith, length, (one_more ds c k (omega arith)))

short : (n : ℕ) → n < 2 ^ 64 → IsShort n (decimal n)
short n h = decimal_by_steps IsShort first next n h
  where
    first : (n : ℕ) → n < 10 → IsShort n ((48 + n) ∷ [])
    first n h =
        record {
          d1 = λ l. omega arith;
          d2 = λ l. omega arith;
          d3 = λ l. omega arith;
          d4 = λ l. omega arith;
          d5 = λ l. omega arith;
          d6 = λ l. omega arith;
          d7 = λ l. omega arith;
        }

    next : (n : ℕ) (ds : List ℕ) → 10 ≤ n → IsShort (n / 10) ds
        → IsShort n (ds ++ (48 + n % 10) ∷ [])
    next n ds h s = record {
      d1 = λ l. absurd (omega arith);
      d2 = λ l. one_more ds (48 + n % 10) 1 (s.d1 (omega arith));
      d3 = λ l. one_more ds (48 + n % 10) 2 (s.d2 (omega arith));
      d4 = λ l. one_more ds (48 + n % 10) 3 (s.d3 (omega arith));
      d5 = λ l. one_more ds (48 + n % 10) 4 (s.d4 (omega arith));
      d6 = λ l. one_more ds (48 + n % 10) 5 (s.d5 (omega arith));
      d7 = λ l. one_more ds (48 + n % 10) 6 (s.d6 (omega arith));
    }

number_read : (n : ℕ) → 1 ≤ n → n ≤ 2000000 → steps_number (decimal n) ≡ Some n
number_read n low high =
    let d = short n (omega arith) in
    let l : length (decimal n) ≤ 7 = d.d7 (omega arith) in
    let a : nat_le (length (decimal n)) 7 ≡ true = grind (arith, nat_tests) in
    let b : (nat_le 1 n && nat_le n 2000000) ≡ true = grind (arith, nat_tests) in
    ap (λ t. option_and_then allowed (cond t (digits_of 10 (decimal n)) None)) a
    ∙ ap (option_and_then allowed) (digits_of-decimal n (omega arith))
    ∙ ap (λ t. cond t (Some n) None) b

header_first : (label : List ℕ) (isa : Isa) (n : ℕ) (ps : List Point) (ls : List (List ℕ)) → 1 ≤ n
    → n ≤ 2000000 → first_steps (header label isa n ps ++ ls) ≡ Some n
header_first label isa n ps ls low high = simp number_read

-- ---- all of it
cleared : (isa : Isa) → AreCleared isa (last_register isa)
cleared isa = grind (arith, last_low, cond)

pub steps_high : (isa : Isa) (cs : List Solved) → AreReady isa cs → all_steps cs ≤ 544 * length cs
steps_high isa [] h = omega arith
steps_high isa (Many is ∷ cs) h = omega (arith, steps_high isa cs h.1)
steps_high isa (One c ∷ cs) h = grind (arith, (steps_high isa cs h.1))

-- the text is cut into the lines of its header and of its statements, whether there is room for it
-- or not
pub text_cut : (isa : Isa) (label : List ℕ) (points : List Point) (cs : List Solved)
    → length cs ≤ most_cases → length points ≡ length cs → list_all is_text_byte label ≡ true
    → ArePrintable points → AreReady isa cs
    → lines_of (test_text label isa points cs)
    ≡ header label isa (step_limit cs) points ++ map printed (whole (last_register isa) cs)
unfolding test_text
text_cut isa label points cs few same named printable ready =
    let small : length cs < 2 ^ 32 = omega arith in
    let n = step_limit cs in
    let bound : n ≤ 2000000 = omega (arith, steps_high isa cs ready) in
    let regs = last_register isa in
    let fine = code_fine isa regs cs (cleared isa) small (all_made isa cs ready) in
    let lines =
    text_are_lines label isa regs n points cs (tested is_text_byte label named)
    (points_fine points printable) (omega arith) (omega (arith, same)) fine small in
    lines_back (header label isa n points ++ map printed (whole regs cs)) lines

pub tests_run : TestsRun
unfolding header_steps
tests_run isa label points cs is =
    let memory = isa.memory in
    let regs = last_register isa in
    let e = cleared isa in
    let few = is.few in
    let small : length cs < 2 ^ 32 = omega arith in
    let plain = all_made isa cs is.choices in
    let size : bytes_all (code_part isa cs) ≡ text_size regs cs = code_bytes isa regs cs plain in
    let fits : text_size regs cs ≤ text_limit isa.memory = omega (arith, size, is.fits.text) in
    let space : HasSpace isa regs cs = record {
      room = is.room;
      text = fits;
      ends = omega (arith, fits, (regions_end isa.memory is.room).0);
      ram = is.fits.ram;
      last = is.fits.last;
    } in
    let are : AreChoices isa regs cs =
    record { cleared = e; few = few; plain = plain; space = space } in
    let n = step_limit cs in
    let bound : n ≤ 2000000 = omega (arith, steps_high isa cs is.choices) in
    let head = header label isa n points in
    let body = map printed (whole regs cs) in
    let text = test_text label isa points cs in
    let cut : lines_of text ≡ head ++ body =
    text_cut isa label points cs is.few is.same is.label_text is.points_text is.choices in
    let rs = blanks head ++ read_as (whole regs cs) in
    let read_all : readings true ((head ++ body) ++ []) ≡ (blanks head ++ read_as (whole regs cs))
    ++ [] =
    (also (header_read label isa n points) (whole_read isa regs cs e small plain)).reads [] in
    let read : text_readings text ≡ rs =
    ap (readings true) cut ∙ ap (readings true) (sym (append-nil (head ++ body))) ∙ read_all
    ∙ append-nil rs in
    let tbl = named (table memory regs cs) in
    let hs = table_small isa regs cs e small plain in
    let names : labels rs (start memory) ≡ tbl =
    blank_labels memory head (read_as (whole regs cs)) ∙ labelled (whole regs cs) (start memory) in
    let placed : first_fault isa [] (start memory) 1 rs ≡ None =
    blank_first isa 1 head (read_as (whole regs cs))
    (λ k. first_free isa [] (start memory) k (whole regs cs) tt
    (whole_distinct isa regs cs e small plain)
    (whole_stands isa regs cs e small space plain)) in
    let linked : second_fault tbl (start memory) 1 rs ≡ None =
    blank_second memory tbl 1 head (read_as (whole regs cs))
    (λ k. second_free (table memory regs cs) (start memory) k (whole regs cs) hs
    (whole_linked isa regs cs e small plain)) in
    let host : find_mark tbl (codes "tohost") ≡ find_name (table memory regs cs) ToHost =
    found (table memory regs cs) ToHost tt hs in
    let first : find_mark tbl (codes "begin_signature")
    ≡ find_name (table memory regs cs) BeginSignature =
    found (table memory regs cs) BeginSignature tt hs in
    let last : find_mark tbl (codes "end_signature")
    ≡ find_name (table memory regs cs) EndSignature =
    found (table memory regs cs) EndSignature tt hs in
    let marked : first_missing tbl needed ≡ None =
    ap
    (λ o. cond (is_missing o) (Some (codes "tohost"))
    (first_missing tbl (codes "begin_signature" ∷ codes "end_signature" ∷ [])))
    (host ∙ tohost_there isa regs cs e small plain)
    ∙ ap
    (λ o. cond (is_missing o) (Some (codes "begin_signature"))
    (first_missing tbl (codes "end_signature" ∷ [])))
    (first ∙ begin_there isa regs cs e small plain)
    ∙ ap (λ o. cond (is_missing o) (Some (codes "end_signature")) None)
    (last ∙ end_there isa regs cs e small plain) in
    let image = image_for memory regs cs in
    let made : image ≡ image_of memory tbl rs = sym
    (image_blank memory tbl head (read_as (whole regs cs))) in
    let assembled : Assembles text isa image = record {
      placed = ap (first_fault isa [] (start memory) 1) read ∙ placed;
      linked =
          ap (λ r. second_fault (labels r (start memory)) (start memory) 1 r) read
          ∙ ap (λ x. second_fault x (start memory) 1 rs) names ∙ linked;
      marked =
          ap (λ r. first_missing (labels r (start memory)) needed) read
          ∙ ap (λ x. first_missing x needed) names ∙ marked;
      made =
          made ∙ ap (λ x. image_of memory x rs) (sym names)
          ∙ ap (λ r. image_of memory (labels r (start memory)) r) (sym read);
      regions = image_fine isa regs cs are;
    } in
    record {
      image = image;
      assembles = assembled;
      limit = ap first_steps cut ∙ header_first label isa n points body (omega arith) bound;
      runs = λ k h. test_runs isa regs cs k are h;
    }
