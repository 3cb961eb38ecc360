-- The answer, line by line.
use Rattle.std.proofs.Common.{◌≡◌, ℕ, suc, ◌+◌, ◌<◌, ◌≤◌, Bool, true, false, not, List, [], ◌∷◌}
use Rattle.std.proofs.Common.{◌++◌, length, map, Option, Some, None, Ok, Err, refl, sym, ap, ◌∙◌}
use Rattle.std.proofs.Common.{append_assoc, append-nil, arith, add-zero, length-append}
use Rattle.std.specs.Prelude.{◌||◌, option_map, IfSome}
use Rattle.std.specs.Borrow.{Bor}
use Rattle.rvs_tree.specs.Data.{Data}
use Rattle.rvs_tree.specs.Value.{Value}
use Rattle.rvs_yaml.specs.Checks.{Checked, ◌>>=◌, ◌>>◌}
use Rattle.rvs_yaml_text.specs.Word.{Word}
use Rattle.rvs_yaml.specs.Stack.{Open, step, steps}
use Rattle.rvs_yaml.specs.Front.{front_value, checked_front}
use Rattle.rvs_yaml_text.specs.Scalar.{is_blank}
use Rattle.rvs_yaml_text.specs.Text.{line_words, words_of, lines_of, cut, cut_behind}
use Rattle.rvs_yaml_text.specs.Text.{without_return}
use Rattle.rvs_yaml.specs.Parsed.{Parsed, within_limits, front, at_end, answer_after, answer}
use Rattle.rvs_yaml.specs.Reader.{checked_line}
use Rattle.rvs_yaml_text.specs.declared.kind.YamlKind.{YamlKind}
use Rattle.rvs_yaml.proofs.Outlined.{bind_assoc, bind_same}
use Rattle.rvs_yaml.proofs.Latest.{tree-front}

pub steps-append : (ws vs : List Word) (bs : List Open)
    → steps bs (ws ++ vs) ≡ (steps bs ws >>= λ cs. steps cs vs)
steps-append [] vs bs = refl
steps-append (w ∷ ws) vs bs =
    bind_same (step bs w) _ _ (λ cs. steps-append ws vs cs) ∙ sym (bind_assoc (step bs w) _ _)

-- whether some line wasn't blank
abbrev pub started_after : Bool → List (List ℕ) → Bool
started_after started [] = started
started_after started (l ∷ ls) = started_after (started || not (is_blank true l)) ls

pub started_after-push : (started : Bool) (ls : List (List ℕ)) (l : List ℕ)
    → started_after started (ls ++ l ∷ []) ≡ (started_after started ls || not (is_blank true l))
started_after-push started [] l = refl
started_after-push started (k ∷ ls) l = started_after-push (started || not (is_blank true k)) ls l

pub words_of-push : (n : ℕ) (started : Bool) (ls : List (List ℕ)) (l : List ℕ)
    → words_of n started (ls ++ l ∷ [])
    ≡ words_of n started ls ++ line_words (n + length ls) (started_after started ls) l
words_of-push n started [] l = rw add-zero (append-nil (line_words n started l))
words_of-push n started (k ∷ ls) l =
    let shift : suc n + length ls ≡ n + suc (length ls) = omega arith in
    ap (λ ws. line_words n started k ++ ws) (words_of-push (suc n) (started
    || not (is_blank true k)) ls l ∙ ap
    (λ m. words_of (suc n) (started || not (is_blank true k)) ls
    ++ line_words m (started_after (started || not (is_blank true k)) ls) l) shift)
    ∙ sym (append_assoc (line_words n started k) _ _)

-- What was read of the lines: how many they are, whether one wasn't blank, and the open blocks.
pub record HasRead (lines : List (List ℕ)) (number : ℕ) (started : Bool) (blocks : List Open) : Type
    0 where
  pub count : number ≡ length lines
  pub begun : started ≡ started_after false lines
  pub open_blocks : steps [] (words_of 1 false lines) ≡ Ok blocks

abbrev line_steps : List Open → ℕ → Bool → List ℕ → Checked (List Open)
line_steps blocks number started l = steps blocks (line_words (number + 1) started l)

front-push : (lines : List (List ℕ)) (number : ℕ) (started : Bool) (blocks : List Open) (l : List ℕ)
    → HasRead lines number started blocks
    → steps [] (words_of 1 false (lines ++ l ∷ [])) ≡ line_steps blocks number started l
front-push lines number started blocks l h =
    let n : 1 + length lines ≡ number + 1 = omega (arith, h.count) in
    ap (steps []) (words_of-push 1 false lines l)
    ∙ steps-append (words_of 1 false lines) _ []
    ∙ ap (λ m. m >>= λ cs. steps cs (line_words (1 + length lines) (started_after false lines) l))
    h.open_blocks
    ∙ ap (λ m. steps blocks (line_words m (started_after false lines) l)) n
    ∙ ap (λ b. steps blocks (line_words (number + 1) b l)) (sym h.begun)

pub HasRead-line : (lines : List (List ℕ)) (number : ℕ) (started : Bool) (blocks after : List Open)
    (l : List ℕ) → HasRead lines number started blocks → line_steps blocks number started l ≡ Ok
    after
    → HasRead (lines ++ l ∷ []) (number + 1) (started || not (is_blank true l)) after
HasRead-line lines number started blocks after l h e = record {
  count = omega (arith, h.count, length-append lines (l ∷ []));
  begun = ap (λ b. b || not (is_blank true l)) h.begun ∙ sym (started_after-push false lines l);
  open_blocks = front-push lines number started blocks l h ∙ e;
}

-- what the tree of a front is, from what was read
abbrev kept : Checked Value → Checked Data
kept m = m >>= λ v. within_limits v >> Ok v.tree

pub front-read : (lines : List (List ℕ)) (number : ℕ) (started : Bool) (blocks : List Open)
    → HasRead lines number started blocks → front lines ≡ kept (front_value blocks)
front-read lines number started blocks h =
    ap kept (tree-front (words_of 1 false lines) ∙ ap (λ m. m >>= front_value) h.open_blocks)

kept-ok : (m : Checked Value) → (m >>= within_limits) ≡ Ok tt → (d : Data) × (kept m ≡ Ok d)
kept-ok (Err kind) h = cc
kept-ok (Ok v) h = (v.tree, ap (λ u. u >> Ok v.tree) h)

kept-err : (m : Checked Value) (kind : YamlKind) → (m >>= within_limits) ≡ Err kind
    → kept m ≡ Err kind
kept-err (Err k) kind h = let same : k ≡ kind = cc in ap Err same
kept-err (Ok v) kind h = ap (λ u. u >> Ok v.tree) h

next-answer : (lines : List (List ℕ)) (l : List ℕ) (ls : List (List ℕ)) (r : Checked Data)
    → front (lines ++ l ∷ []) ≡ r → answer_after lines (l ∷ ls) ≡ (elim r as (λ _. Parsed) [
      | Err kind ↦ Err (length (lines ++ l ∷ []), kind)
      | Ok d ↦ answer_after (lines ++ l ∷ []) ls
    ])
next-answer lines l ls r e = ap (λ m. elim m as (λ _. Parsed) [
  | Err kind ↦ Err (length (lines ++ l ∷ []), kind)
  | Ok d ↦ answer_after (lines ++ l ∷ []) ls
]) e

-- a line that is read and keeps the limits
pub answer-line : (lines : List (List ℕ)) (number : ℕ) (started : Bool) (blocks after : List Open)
    (l : List ℕ) (ls : List (List ℕ)) → HasRead lines number started blocks → line_steps blocks
    number started l ≡ Ok after → checked_front after ≡ Ok tt
    → answer_after lines (l ∷ ls) ≡ answer_after (lines ++ l ∷ []) ls
answer-line lines number started blocks after l ls h e ok =
    let good = kept-ok (front_value after) ok in
    next-answer lines l ls (Ok good.0)
    (front-read _ _ _ _ (HasRead-line lines number started blocks after l h e) ∙ good.1)

-- a line that can't be read
refused-step : (lines : List (List ℕ)) (number : ℕ) (started : Bool) (blocks : List Open)
    (l : List ℕ) (kind : YamlKind) → HasRead lines number started blocks → line_steps blocks number
    started l ≡ Err kind → front (lines ++ l ∷ []) ≡ Err kind
refused-step lines number started blocks l kind h e = ap kept
    (tree-front (words_of 1 false (lines ++ l ∷ []))
    ∙ ap (λ m. m >>= front_value) (front-push lines number started blocks l h ∙ e))

number-of : (lines : List (List ℕ)) (number : ℕ) (started : Bool) (blocks : List Open) (l : List ℕ)
    → HasRead lines number started blocks → length (lines ++ l ∷ []) ≡ number + 1
number-of lines number started blocks l h = omega (arith, h.count, length-append lines (l ∷ []))

failed : (m : Checked (Unit {0})) (after : List Open) (kind : YamlKind)
    → (m >>= λ u. let r : Checked (List Open) = Ok after in r) ≡ Err kind → m ≡ Err kind
failed (Ok x) after kind h = cc
failed (Err k) after kind h = let same : k ≡ kind = cc in ap Err same

abbrev then_blocks : Checked (Unit {0}) → List Open → Checked (List Open)
then_blocks m cs = m >> Ok cs

abbrev read_blocks : List Open → Checked (List Open)
read_blocks cs = Ok cs

passed : (cs after : List Open) (m : Checked (Unit {0})) → checked_front cs ≡ m
    → then_blocks m cs ≡ read_blocks after
    → (read_blocks cs ≡ read_blocks after) × (checked_front after ≡ Ok tt)
passed cs after (Ok u) e h = let same : cs ≡ after = cc in
    (ap read_blocks same, ap checked_front (sym same) ∙ e)
passed cs after (Err k) e h = cc

then_same2 : (m : Checked (Unit {0})) (after : List Open)
    → (m >>= λ u. let r : Checked (List Open) = Ok after in r) ≡ then_blocks m after
then_same2 (Ok x) after = refl
then_same2 (Err k) after = refl

bad-front : (lines : List (List ℕ)) (number : ℕ) (started : Bool) (blocks : List Open) (l : List ℕ)
    (kind : YamlKind) (r : Checked (List Open)) → line_steps blocks number started l ≡ r → HasRead
    lines number started blocks → (r >>= λ cs. checked_front cs >> Ok cs) ≡ Err kind → front
    (lines ++ l ∷ []) ≡ Err kind
bad-front lines number started blocks l kind (Err k) e h bad = let same : k ≡ kind = cc in
    refused-step lines number started blocks l kind h (e ∙ ap Err same)
bad-front lines number started blocks l kind (Ok after) e h bad = front-read _ _ _ _
    (HasRead-line lines number started blocks after l h e) ∙ kept-err (front_value after) kind
    (failed (checked_front after) after kind (then_same2 (checked_front after) after ∙ bad))

pub answer-refused : (lines : List (List ℕ)) (number : ℕ) (started : Bool) (blocks : List Open)
    (l : List ℕ) (ls : List (List ℕ)) (kind : YamlKind) → HasRead lines number started blocks
    → checked_line blocks (number + 1) started l ≡ Err kind
    → answer_after lines (l ∷ ls) ≡ Err (number + 1, kind)
answer-refused lines number started blocks l ls kind h bad =
    next-answer lines l ls (Err kind) (bad-front lines number started blocks l kind
    (line_steps blocks number started l) refl h bad)
    ∙ ap (λ m. Err (m, kind)) (number-of lines number started blocks l h)

good-parts : (r : Checked (List Open)) (after : List Open)
    → (r >>= λ cs. checked_front cs >> Ok cs) ≡ Ok after
    → (r ≡ Ok after) × (checked_front after ≡ Ok tt)
good-parts (Err k) after h = cc
good-parts (Ok cs) after h = passed cs after (checked_front cs) refl h

-- the lines behind what was read, and how much that is
abbrev pub lines_left : Option (Bor (List ℕ)) → List (List ℕ)
lines_left None = []
lines_left (Some r) = lines_of r.now

abbrev pub size_left : Option (Bor (List ℕ)) → ℕ
size_left None = 0
size_left (Some r) = length r.now + 1

-- the lines read so far, which keep the limits, and those behind
pub record Reads (bytes : List ℕ) (number : ℕ) (started : Bool) (blocks : List Open)
    (rest : Option (Bor (List ℕ))) : Type 0 where
  pub lines : List (List ℕ)
  pub so_far : HasRead lines number started blocks
  pub kept : checked_front blocks ≡ Ok tt
  pub same : answer_after lines (lines_left rest) ≡ answer bytes
  pub small : number + size_left rest ≤ length bytes + 1

lines-split : (text raw : List ℕ) (behind : Option (Bor (List ℕ)))
    → cut text ≡ raw ∷ cut_behind (option_map (λ r. r.now) behind)
    → lines_of text ≡ without_return raw ∷ lines_left behind
lines-split text raw None e = ap (map without_return) e
lines-split text raw (Some r) e = ap (map without_return) e

left_small : (number n m : ℕ) (behind : Option (Bor (List ℕ))) → number + (n + 1) ≤ m
    → IfSome behind (λ r. length r.now < n) → (number + 1) + size_left behind ≤ m
left_small number n m None h short = omega arith
left_small number n m (Some r) h short = omega arith

-- what was read, and a next line
pub Reads-line : (bytes : List ℕ) (number : ℕ) (started : Bool) (blocks after : List Open)
    (rest behind : Option (Bor (List ℕ))) (text : Bor (List ℕ)) (raw l : List ℕ) →
    Reads bytes number started blocks rest → rest ≡ Some text
    → cut text.now ≡ raw ∷ cut_behind (option_map (λ r. r.now) behind)
    → IfSome behind (λ r. length r.now < length text.now) → l ≡ without_return raw →
    checked_line blocks (number + 1) started l ≡ Ok after
    → Reads bytes (number + 1) (started || not (is_blank true l)) after behind
Reads-line bytes number started blocks after rest behind text raw l h is parted short line read =
    let here : lines_left rest ≡ l ∷ lines_left behind = ap lines_left is
    ∙ lines-split text.now raw behind parted ∙ ap (λ k. k ∷ lines_left behind) (sym line) in
    let size : size_left rest ≡ length text.now + 1 = ap size_left is in
    let good = good-parts (line_steps blocks number started l) after read in
    record {
      lines = h.lines ++ l ∷ [];
      so_far = HasRead-line h.lines number started blocks after l h.so_far good.0;
      kept = good.1;
      same = sym (answer-line h.lines number started blocks after l (lines_left behind) h.so_far
          good.0 good.1) ∙ ap (answer_after h.lines) (sym here) ∙ h.same;
      small = left_small number (length text.now) (length bytes + 1) behind
          (omega (arith, h.small, size)) short;
    }

pub Reads-refused : (bytes : List ℕ) (number : ℕ) (started : Bool) (blocks : List Open)
    (rest behind : Option (Bor (List ℕ))) (text : Bor (List ℕ)) (raw l : List ℕ) (kind : YamlKind) →
    Reads bytes number started blocks rest → rest ≡ Some text
    → cut text.now ≡ raw ∷ cut_behind (option_map (λ r. r.now) behind) → l ≡ without_return raw
    →
    checked_line blocks (number + 1) started l ≡ Err kind → answer bytes ≡ Err (number + 1, kind)
Reads-refused bytes number started blocks rest behind text raw l kind h is parted line read =
    let here : lines_left rest ≡ l ∷ lines_left behind = ap lines_left is
    ∙ lines-split text.now raw behind parted ∙ ap (λ k. k ∷ lines_left behind) (sym line) in
    sym h.same ∙ ap (answer_after h.lines) here
    ∙ answer-refused h.lines number started blocks l (lines_left behind) kind h.so_far read

at_end-kept : (n : ℕ) (m : Checked Value) (v : Value) → m ≡ Ok v → (m >>= within_limits) ≡ Ok tt
    → at_end n (kept m) ≡ Ok v.tree
at_end-kept n (Err k) v e ok = cc
at_end-kept n (Ok w) v e ok = let same : w ≡ v = cc in
    ap (λ u. at_end n (u >> Ok w.tree)) ok ∙ ap (λ (x : Value). Ok x.tree) same

pub Reads-end : (bytes : List ℕ) (number : ℕ) (started : Bool) (blocks : List Open)
    (rest : Option (Bor (List ℕ))) (v : Value) → Reads bytes number started blocks rest → rest
    ≡ None → front_value blocks ≡ Ok v → answer bytes ≡ Ok v.tree
Reads-end bytes number started blocks rest v h is e =
    sym h.same ∙ ap (λ r. answer_after h.lines (lines_left r)) is
    ∙ ap (at_end (length h.lines)) (front-read h.lines number started blocks h.so_far)
    ∙ at_end-kept (length h.lines) (front_value blocks) v e h.kept
