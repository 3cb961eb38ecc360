-- The line that a refusal of an image file tells is the first faulty one.
use Rattle.std.proofs.Common.{◌≡◌, ◌≢◌, ℕ, zero, suc, ◌+◌, ◌≤◌, Bool, true, false, cond, List, []}
use Rattle.std.proofs.Common.{◌∷◌, ◌++◌, Option, Some, None, Ok, Err, refl, ap, sym, subst, ◌∙◌}
use Rattle.std.proofs.Common.{arith, codes}
use Rattle.std.proofs.lemmas.Bool.Decides.{nat_tests}
use Rattle.std.specs.Prelude.{◌==◌, is_some, nat_le}
use Rattle.rvs_machine.specs.declared.reading.ImageKind.TheVariants.{BadLine, BadRegion}
use Rattle.rvs_machine.specs.declared.reading.ImageRefusal.{ImageRefusal}
use Rattle.rvs_insn.specs.Memory.{Memory}
use Rattle.rvs_machine.specs.Image.{ImageValue}
use Rattle.rvs_machine.specs.FileLines.{Rest, first_line, after_feed, has_feed}
use Rattle.rvs_base.specs.Digits.{digits_of}
use Rattle.rvs_base.specs.Lines.{before, after, without_return}
use Rattle.rvs_text.specs.Outcomes.{◌>>=◌}
use Rattle.rvs_machine.specs.ImageText.{refusal, image_of_bytes, most_text, most_data}
use Rattle.rvs_machine.specs.ImageFaults.{first_lines, IsFaultless, Begins, IsFirstFault}
use Rattle.rvs_machine.specs.ImageFaults.{FaultsAreFirst}
use Rattle.rvs_machine.proofs.FileTree.{Tree, Found, run, bind, Parts, file_tree, judged, file_run}
use Rattle.rvs_machine.proofs.FileTree.{header_said, header_tree, word_said, word_tree, limited}
use Rattle.rvs_machine.proofs.FileTree.{count_said, count_tree, words_tree, section_tree, end_tree}
use Rattle.rvs_machine.proofs.FileTree.{begin_tree, address_tree, addresses_tree, data_tree}
use Rattle.rvs_machine.proofs.FileTree.{text_tree}
use Rattle.rvs_machine.proofs.FileTree.Tree.{done, fail, more}

-- ---- a line put before a file
split_feed : (c : ℕ) (cs : List ℕ) → has_feed (c ∷ cs) ≡ false
    → ((c == 10) ≡ false) × (has_feed cs ≡ false)
split_feed c cs e = by_test (c == 10) e
  where
    by_test : (b : Bool) → is_some (cond b (Some cs) (after 10 cs)) ≡ false
        → (b ≡ false) × (has_feed cs ≡ false)
    by_test true e = cc
    by_test false e = (refl, e)

-- the line ends with a carriage return and a line feed, so that a carriage return of its own stays
abbrev put_line : List ℕ → List ℕ → List ℕ
put_line l rest = l ++ 13 ∷ 10 ∷ rest

record Cut (l rest : List ℕ) : Type 0 where
  has : has_feed (put_line l rest) ≡ true
  front : before 10 (put_line l rest) ≡ l ++ 13 ∷ []
  back : after_feed (put_line l rest) ≡ rest

cut : (l rest : List ℕ) → has_feed l ≡ false → Cut l rest
cut [] rest e = record { has = refl; front = refl; back = refl }
cut (c ∷ cs) rest e =
    let parts = split_feed c cs e in
    let r = cut cs rest parts.1 in
    record {
      has = rw parts.0 r.has;
      front = rw parts.0 (ap (λ l. c ∷ l) r.front);
      back = rw parts.0 r.back;
    }

return_dropped : (l : List ℕ) → without_return (l ++ 13 ∷ []) ≡ l
return_dropped [] = refl
return_dropped (c ∷ []) = refl
return_dropped (c ∷ d ∷ ds) = ap (λ l. c ∷ l) (return_dropped (d ∷ ds))

first_put : (l rest : List ℕ) → has_feed l ≡ false → first_line (put_line l rest) ≡ l
first_put l rest e =
    let r = cut l rest e in
    ap (λ b. cond b (without_return (before 10 (put_line l rest))) (put_line l rest)) r.has
    ∙ ap without_return r.front ∙ return_dropped l

run_put : {A : Type 0} (f : List ℕ → Tree A) (l rest : List ℕ) (n : ℕ) → has_feed l ≡ false
    → run (more f) (put_line l rest) n ≡ run (f l) rest (n + 1)
run_put f [] rest n e = refl
run_put f (c ∷ cs) rest n e =
    ap (λ l. run (f l) (after_feed (put_line (c ∷ cs) rest)) (n + 1)) (first_put (c ∷ cs) rest e)
    ∙ ap (λ r. run (f (c ∷ cs)) r (n + 1)) (cut (c ∷ cs) rest e).back

lines_put : (l rest : List ℕ) (n : ℕ) → has_feed l ≡ false
    → first_lines (suc n) (put_line l rest) ≡ Some l ∷ first_lines n rest
lines_put [] rest n e = refl
lines_put (c ∷ cs) rest n e =
    ap (λ l. Some l ∷ first_lines n (after_feed (put_line (c ∷ cs) rest)))
    (first_put (c ∷ cs) rest e)
    ∙ ap (λ r. Some (c ∷ cs) ∷ first_lines n r) (cut (c ∷ cs) rest e).back

-- lines have no line feed
feedless_cons : (c : ℕ) (l : List ℕ) → (c == 10) ≡ false → has_feed l ≡ false
    → has_feed (c ∷ l) ≡ false
feedless_cons c l e f = rw e f

feedless_before_by : (c : ℕ) (l : List ℕ) (b : Bool) → (c == 10) ≡ b → has_feed l ≡ false
    → has_feed (cond b [] (c ∷ l)) ≡ false
feedless_before_by c l true e f = refl
feedless_before_by c l false e f = feedless_cons c l e f

feedless_before : (bytes : List ℕ) → has_feed (before 10 bytes) ≡ false
feedless_before [] = refl
feedless_before (c ∷ cs) = feedless_before_by c (before 10 cs) (c == 10) refl (feedless_before cs)

feedless_last : (c : ℕ) (b : Bool) → has_feed (c ∷ []) ≡ false
    → has_feed (cond b [] (c ∷ [])) ≡ false
feedless_last c true e = refl
feedless_last c false e = e

feedless_return : (l : List ℕ) → has_feed l ≡ false → has_feed (without_return l) ≡ false
feedless_return [] e = refl
feedless_return (c ∷ []) e = feedless_last c (c == 13) e
feedless_return (c ∷ d ∷ ds) e =
    let parts = split_feed c (d ∷ ds) e in
    feedless_cons c (without_return (d ∷ ds)) parts.0 (feedless_return (d ∷ ds) parts.1)

feedless_by : (bytes : List ℕ) (b : Bool) → has_feed bytes ≡ b
    → has_feed (cond b (without_return (before 10 bytes)) bytes) ≡ false
feedless_by bytes true e = feedless_return (before 10 bytes) (feedless_before bytes)
feedless_by bytes false e = e

feedless : (bytes : List ℕ) → has_feed (first_line bytes) ≡ false
feedless bytes = feedless_by bytes (has_feed bytes) refl

-- ---- how far a reading comes
-- the line behind the last that was looked at
abbrev seen_to : {A : Type 0} → Found A → ℕ
seen_to (Ok p) = p.1.line
seen_to (Err e) = e.line + 1

seen_on : {A : Type 0} (t : Tree A) (bytes : List ℕ) (n : ℕ) → n ≤ seen_to (run t bytes n)
seen_on (done a) bytes n = omega arith
seen_on (fail kind) bytes n = omega arith
seen_on (more f) [] n = omega arith
seen_on (more f) (c ∷ cs) n =
    let h = seen_on (f (first_line (c ∷ cs))) (after_feed (c ∷ cs)) (n + 1) in omega (arith, h)

-- b is read as the file that p is read from, and is like it in so many more lines that they are m
abbrev GoesAlike : {A : Type 0} → Tree A → List ℕ → ℕ → ℕ → A × Rest → Type 0
GoesAlike t b n m p =
    (rest : List ℕ) × (k : ℕ) × (run t b n ≡ Ok (p.0, record { bytes = rest; line = p.1.line }))
    × (n + m ≡ p.1.line + k) × (first_lines k p.1.bytes ≡ first_lines k rest)

-- Where files are alike in all lines that are looked at, one is read as the other.
pub record IsReadAlike {A : Type 0} (t : Tree A) (b : List ℕ) (n m : ℕ) (x : Found A) : Type 0 where
  pub stops : (e : ImageRefusal) → x ≡ Err e → run t b n ≡ Err e
  pub goes : (p : A × Rest) → x ≡ Ok p → GoesAlike t b n m p

heads_same : (l k : List ℕ) (xs ys : List (Option (List ℕ))) → Some l ∷ xs ≡ Some k ∷ ys
    → (l ≡ k) × (xs ≡ ys)
heads_same l k xs ys e = (cc, cc)

alike : {A : Type 0} (t : Tree A) (a b : List ℕ) (n m : ℕ) → first_lines m a ≡ first_lines m b
    → seen_to (run t a n) ≤ n + m → IsReadAlike t b n m (run t a n)
alike {A} (done x) a b n m same h = record {
  stops = λ e f. cc;
  goes = λ p f.
      let first : A × Rest = (x, record { bytes = a; line = n }) in
      let is : first ≡ p = cc in
      subst (GoesAlike (done x) b n m) is (b, m, refl, refl, same);
}
alike (fail kind) a b n m same h = record {
  stops = λ e f. f;
  goes = λ p f. cc;
}
alike (more f) [] b n zero same h = absurd (omega arith)
alike (more f) [] [] n (suc m) same h = record { stops = λ e f. f; goes = λ p f. cc }
alike (more f) [] (d ∷ ds) n (suc m) same h = absurd cc
alike (more f) (c ∷ cs) b n zero same h =
    let far = seen_on (f (first_line (c ∷ cs))) (after_feed (c ∷ cs)) (n + 1) in
    absurd (omega (arith, far))
alike (more f) (c ∷ cs) [] n (suc m) same h = absurd cc
alike (more f) (c ∷ cs) (d ∷ ds) n (suc m) same h =
    let heads = heads_same (first_line (c ∷ cs)) (first_line (d ∷ ds))
    (first_lines m (after_feed (c ∷ cs))) (first_lines m (after_feed (d ∷ ds))) same in
    let r = alike (f (first_line (c ∷ cs))) (after_feed (c ∷ cs)) (after_feed (d ∷ ds)) (n + 1) m
    heads.1 (omega (arith, h)) in
    let turn = ap (λ l. run (f l) (after_feed (d ∷ ds)) (n + 1)) (sym heads.0) in
    record {
      stops = λ e g. turn ∙ r.stops e g;
      goes = λ p g.
          let q = r.goes p g in
          (q.0, q.1, turn ∙ q.2, omega (arith, q.3), q.4);
    }

-- ---- a reading that goes on
-- some lines are read to the end
abbrev Can : {A : Type 0} → Tree A → Type 0
Can (done a) = Unit {0}
Can (fail kind) = ⊥
Can (more f) = (l : List ℕ) × (has_feed l ≡ false) × Can (f l)

-- and so wherever a line is wanted
abbrev Good : {A : Type 0} → Tree A → Type 0
Good (done a) = Unit {0}
Good (fail kind) = Unit {0}
Good (more f) = Can (more f) × ((l : List ℕ) → Good (f l))

can-bind : {A B : Type 0} (t : Tree A) (go : A → Tree B) → Can t → ((a : A) → Can (go a))
    → Can (bind t go)
can-bind (done a) go h i = i a
can-bind (fail kind) go h i = absurd h
can-bind (more f) go h i = (h.0, h.1, can-bind (f h.0) go h.2 i)

good-bind : {A B : Type 0} (t : Tree A) (go : A → Tree B) → Good t → ((a : A) → Can (go a))
    → ((a : A) → Good (go a)) → Good (bind t go)
good-bind (done a) go h c g = g a
good-bind (fail kind) go h c g = tt
good-bind (more f) go h c g = (can-bind (more f) go h.0 c, λ l. good-bind (f l) go (h.1 l) c g)

abbrev Completes : {A : Type 0} → Tree A → List ℕ → ℕ → Type 0
Completes {A} t bytes n =
    (a : A) × (k : ℕ) × (run t bytes n ≡ Ok (a, record { bytes = []; line = k }))

complete : {A : Type 0} (t : Tree A) → Can t → (n : ℕ) → (bytes : List ℕ) × Completes t bytes n
complete (done a) h n = ([], (a, n, refl))
complete (fail kind) h n = absurd h
complete (more f) h n =
    let r = complete (f h.0) h.2 (n + 1) in
    (put_line h.0 r.0, (r.1.0, r.1.1, run_put f h.0 r.0 n h.1 ∙ r.1.2))

-- the line at which a reading stops
abbrev comes_to : {A : Type 0} → Found A → ℕ
comes_to (Ok p) = p.1.line
comes_to (Err e) = e.line

-- a file with the same first lines that is read to the end
pub mend : {A : Type 0} (t : Tree A) → Good t → (a : List ℕ) (n m : ℕ) → 1 ≤ n
    → n + m ≤ comes_to (run t a n)
    → (bytes : List ℕ) × (first_lines m bytes ≡ first_lines m a) × Completes t bytes n
mend (done x) g a n zero some h = ([], refl, (x, n, refl))
mend (done x) g a n (suc m) some h = absurd (omega arith)
mend (fail kind) g a n m some h = absurd (omega arith)
mend (more f) g a n zero some h = let r = complete (more f) g.0 n in (r.0, refl, r.1)
mend (more f) g [] n (suc m) some h = absurd (omega arith)
mend (more f) g (c ∷ cs) n (suc m) some h =
    let l = first_line (c ∷ cs) in
    let r = mend (f l) (g.1 l) (after_feed (c ∷ cs)) (n + 1) m (omega arith) (omega (arith, h)) in (
      put_line l r.0,
      lines_put l r.0 m (feedless (c ∷ cs)) ∙ ap
          (λ (ls : List (Option (List ℕ))). Some l ∷ ls) r.1,
      (r.2.0, r.2.1, run_put f l r.0 n (feedless (c ∷ cs)) ∙ r.2.2),
    )

-- ---- the tree of a file
good_header : (b : Bool) → Good (header_said b)
good_header true = tt
good_header false = tt

header_good : Good header_tree
header_good = ((codes "rvimage 1", refl, tt), λ l. good_header _)

good_word : (o : Option ℕ) → Good (word_said o)
good_word None = tt
good_word (Some w) = tt

good_limited : (b : Bool) (count : ℕ) → Good (limited b count)
good_limited true count = tt
good_limited false count = tt

good_count : (limit : ℕ) (o : Option ℕ) → Good (count_said limit o)
good_count limit None = tt
good_count limit (Some count) = good_limited _ count

word_can : Can (word_tree [])
unfolding digits_of
word_can = (codes "00000000", refl, tt)

words_can : (count : ℕ) → Can (words_tree count)
words_can zero = tt
words_can (suc count) = can-bind (word_tree []) _ word_can
    (λ w. can-bind (words_tree count) _ (words_can count) (λ bytes. tt))

words_good : (count : ℕ) → Good (words_tree count)
words_good zero = tt
words_good (suc count) =
    good-bind (word_tree []) _ (word_can, λ l. good_word _)
    (λ w. can-bind (words_tree count) _ (words_can count) (λ bytes. tt))
    (λ w. good-bind (words_tree count) _ (words_good count) (λ bytes. tt) (λ bytes. tt))

section_can : (name : List ℕ) (limit : ℕ) → Can (count_tree name limit)
    → Can (section_tree name limit)
section_can name limit h = can-bind (count_tree name limit) words_tree h words_can

section_good : (name : List ℕ) (limit : ℕ) → Can (count_tree name limit)
    → Good (section_tree name limit)
section_good name limit h =
    good-bind (count_tree name limit) words_tree (h, λ l. good_count limit _) words_can words_good

end_can : (tohost sig_begin : ℕ) → Can (end_tree tohost sig_begin)
unfolding digits_of
end_can tohost sig_begin = (codes "end 00000000", refl, tt)

end_good : (tohost sig_begin : ℕ) → Good (end_tree tohost sig_begin)
unfolding digits_of
end_good tohost sig_begin = good-bind (word_tree (codes "end ")) _
    ((codes "end 00000000", refl, tt), λ l. good_word _) (λ e. tt) (λ e. tt)

begin_can : (tohost : ℕ) → Can (begin_tree tohost)
unfolding digits_of
begin_can tohost = can-bind (word_tree (codes "begin ")) (end_tree tohost)
    (codes "begin 00000000", refl, tt) (end_can tohost)

begin_good : (tohost : ℕ) → Good (begin_tree tohost)
unfolding digits_of
begin_good tohost = good-bind (word_tree (codes "begin ")) (end_tree tohost)
    ((codes "begin 00000000", refl, tt), λ l. good_word _) (end_can tohost) (end_good tohost)

address_can : Can address_tree
unfolding digits_of
address_can =
    can-bind (word_tree (codes "tohost ")) begin_tree (codes "tohost 00000000", refl, tt) begin_can

address_good : Good address_tree
unfolding digits_of
address_good = good-bind (word_tree (codes "tohost ")) begin_tree
    ((codes "tohost 00000000", refl, tt), λ l. good_word _) begin_can begin_good

addresses_can : (text ram : List ℕ) → Can (addresses_tree text ram)
addresses_can text ram = can-bind address_tree _ address_can (λ at. tt)

addresses_good : (text ram : List ℕ) → Good (addresses_tree text ram)
addresses_good text ram = good-bind address_tree _ address_good (λ at. tt) (λ at. tt)

none_fit : (limit : ℕ) → nat_le 0 limit ≡ true
none_fit limit = grind (arith, nat_tests)

limited_can : (b : Bool) → b ≡ true → Can (limited b 0)
limited_can true h = tt
limited_can false h = cc

data_count : (limit : ℕ) → Can (count_tree (codes "data ") limit)
unfolding digits_of
data_count limit = (codes "data 0", refl, limited_can (nat_le 0 limit) (none_fit limit))

data_can : (memory : Memory) (text : List ℕ) → Can (data_tree memory text)
data_can memory text = can-bind (section_tree (codes "data ") (most_data memory))
    (addresses_tree text)
    (section_can (codes "data ") (most_data memory) (data_count (most_data memory)))
    (addresses_can text)

data_good : (memory : Memory) (text : List ℕ) → Good (data_tree memory text)
data_good memory text = good-bind (section_tree (codes "data ") (most_data memory))
    (addresses_tree text)
    (section_good (codes "data ") (most_data memory) (data_count (most_data memory)))
    (addresses_can text) (addresses_good text)

text_count : (limit : ℕ) → Can (count_tree (codes "text ") limit)
unfolding digits_of
text_count limit = (codes "text 0", refl, limited_can (nat_le 0 limit) (none_fit limit))

text_can : (memory : Memory) (u : Unit {0}) → Can (text_tree memory u)
text_can memory u = can-bind (section_tree (codes "text ") (most_text memory)) (data_tree memory)
    (section_can (codes "text ") (most_text memory) (text_count (most_text memory)))
    (data_can memory)

text_good : (memory : Memory) (u : Unit {0}) → Good (text_tree memory u)
text_good memory u = good-bind (section_tree (codes "text ") (most_text memory)) (data_tree memory)
    (section_good (codes "text ") (most_text memory) (text_count (most_text memory)))
    (data_can memory)
    (data_good memory)

file_good : (memory : Memory) → Good (file_tree memory)
file_good memory =
    good-bind header_tree (text_tree memory) header_good (text_can memory) (text_good memory)

-- ---- the first faulty line
judged_line : (image : ImageValue) (b : Bool) (e : ImageRefusal)
    → cond b (Ok image) (Err (refusal 0 BadRegion)) ≡ Err e → e.line ≡ 0
judged_line image true e f = cc
judged_line image false e f =
    let same : refusal 0 BadRegion ≡ e = cc in ap (λ (r : ImageRefusal). r.line) (sym same)

-- what is read to its end has no faulty line
read_faultless : (memory : Memory) (bytes : List ℕ) → Completes (file_tree memory) bytes 1
    → IsFaultless memory bytes
read_faultless memory bytes c e f =
    let is = sym (ap (λ x. x >>= judged memory) c.2) ∙ sym (file_run memory bytes) ∙ f in
    judged_line _ _ e is

goes_on : (memory : Memory) (bytes : List ℕ) (n : ℕ)
    → 1 + n ≤ comes_to (run (file_tree memory) bytes 1) → Begins memory n bytes
goes_on memory bytes n h =
    let m = mend (file_tree memory) (file_good memory) bytes 1 n (omega arith) h in
    (m.0, m.1, read_faultless memory m.0 m.2)

-- the last step
abbrev Last : Memory → List ℕ → ImageRefusal → Found Parts → Type 0
Last memory bytes e x = run (file_tree memory) bytes 1 ≡ x → (x >>= judged memory) ≡ Err e
    → e.line ≢ 0 → IsFirstFault memory e.line bytes

read_err : (memory : Memory) (other : List ℕ) (e : ImageRefusal)
    → run (file_tree memory) other 1 ≡ Err e → image_of_bytes memory other ≡ Err e
read_err memory other e f = file_run memory other ∙ ap (λ x. x >>= judged memory) f

last_stop : (memory : Memory) (bytes : List ℕ) (e f : ImageRefusal) → Last memory bytes e (Err f)
last_stop memory bytes e f is eq some =
    let same : f ≡ e = cc in
    let at : run (file_tree memory) bytes 1 ≡ Err e = is ∙ ap (λ (r : ImageRefusal). Err r) same in
    record {
      stops = λ b. some (b.2 e (read_err memory b.0 e
          ((alike (file_tree memory) bytes b.0 1 e.line (sym b.1) (rw at (omega arith))).stops e
          at)));
      goes_on = λ n h. goes_on memory bytes n (rw at (omega arith));
    }

-- more lines follow
behind : (memory : Memory) (bytes other : List ℕ) (p : Parts × Rest) (c : ℕ) (cs rest : List ℕ)
    → run (file_tree memory) other 1 ≡ Ok (p.0, record { bytes = rest; line = p.1.line })
    → p.1.bytes ≡ c ∷ cs
    → first_lines 1 (c ∷ cs) ≡ first_lines 1 rest
    → image_of_bytes memory other ≡ Err (refusal p.1.line BadLine)
behind memory bytes other p c cs [] is has same = absurd cc
behind memory bytes other p c cs (d ∷ ds) is has same = file_run memory other
    ∙ ap (λ x. x >>= judged memory) is

last_go : (memory : Memory) (bytes : List ℕ) (e : ImageRefusal) (parts : Parts) (rest : List ℕ)
    (line : ℕ)
    → Last memory bytes e (Ok (parts, record { bytes = rest; line = line }))
last_go memory bytes e parts [] line is eq some = absurd (some (judged_line _ _ e eq))
last_go memory bytes e parts (c ∷ cs) line is eq some =
    let p : Parts × Rest = (parts, record { bytes = c ∷ cs; line = line }) in
    let same : refusal line BadLine ≡ e = cc in
    let lines : line ≡ e.line = ap (λ (r : ImageRefusal). r.line) same in
    record {
      stops = λ b.
          let q = (alike (file_tree memory) bytes b.0 1 e.line (sym b.1)
          (rw is (omega (arith, lines)))).goes
          p is in
          let one : q.1 ≡ 1 = omega (arith, q.3, lines) in
          let next : first_lines 1 (c ∷ cs) ≡ first_lines 1 q.0 =
          sym (ap (λ k. first_lines k (c ∷ cs)) one) ∙ q.4 ∙ ap (λ k. first_lines k q.0) one in
          some (sym lines ∙ b.2 (refusal line BadLine)
          (behind memory bytes b.0 p c cs q.0 q.2 refl next));
      goes_on = λ n h. goes_on memory bytes n (rw is (omega (arith, lines)));
    }

last : (memory : Memory) (bytes : List ℕ) (e : ImageRefusal) (x : Found Parts)
    → Last memory bytes e x
last memory bytes e (Err f) = last_stop memory bytes e f
last memory bytes e (Ok p) = last_go memory bytes e p.0 p.1.bytes p.1.line

pub faults_are_first : FaultsAreFirst
faults_are_first memory bytes e is some =
    last memory bytes e (run (file_tree memory) bytes 1) refl (sym (file_run memory bytes) ∙ is)
    some
