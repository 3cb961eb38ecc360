-- What one instruction of a log adds to the counts.
use Rattle.std.proofs.Common.{◌≡◌, ℕ, zero, suc, ◌+◌, ◌≤◌, Bool, true, false, cond, ◌||◌, List, []}
use Rattle.std.proofs.Common.{◌∷◌, Option, Some, None, refl, sym, ap, ◌∙◌, length, arith, All}
use Rattle.std.specs.Option.{option_and_then}
use Rattle.rvs_points.specs.declared.group.Label.{Label}
use Rattle.rvs_insn.specs.Fields.{Fields, insn_of_word}
use Rattle.rvs_log.specs.Entries.{Entry, entry_at}
use Rattle.rvs_machine.specs.Traces.{word_of, rs1_of_word, rs2_of_word}
use Rattle.rvs_index.specs.Counting.{Aim, aims_in, decoded, hits_insn}
use Rattle.rvs_index.specs.Runs.{run_with}
use Rattle.rvs_index.specs.State.{Tallied, added, counts_with, ends_run, followed}
use Rattle.rvs_index.specs.State.{any_cross, with_entry}
use Rattle.rvs_index.proofs.Counts.{apart}
use Rattle.rvs_index.proofs.Following.{no_ends}
use Rattle.rvs_index.proofs.Crossing.{AllSized, added_sum, none_added}

-- an instruction that doesn't decode hits nothing
missed_all : (aims : List Aim) (cs : List ℕ) (v1 v2 : ℕ)
    → added (λ a. hits_insn a None v1 v2 || ends_run a.point.meaning []) aims cs
    ≡ added (λ a. ends_run a.point.meaning []) aims cs
missed_all aims cs v1 v2 = refl

pub none_hit : (aims : List Aim) (run : List Fields) (cs : List ℕ) (words : List ℕ) (pc word : ℕ)
    → AllSized aims → insn_of_word word ≡ None
    → cs ≡ counts_with aims (run_with run (decoded (entry_at words pc word)))
    (entry_at words pc word) cs
none_hit aims run cs words pc word sized s =
    let e = entry_at words pc word in
    let with : Option Fields → List ℕ =
    λ o. added (λ a. hits_insn a o e.v1 e.v2 || ends_run a.point.meaning (run_with run o)) aims
    cs in
    sym (none_added aims cs sized)
    ∙ sym (missed_all aims cs e.v1 e.v2)
    ∙ ap with (sym s)

pub some_hit : (aims : List Aim) (run : List Fields) (cs : List ℕ) (words : List ℕ) (pc word : ℕ)
    (i : Fields)
    → insn_of_word word ≡ Some i
    → added (λ a. ends_run a.point.meaning (run_with run (Some i))) aims
    (added (λ a. hits_insn a (Some i) (word_of words i.rs1) (word_of words i.rs2)) aims cs)
    ≡ counts_with aims (run_with run (decoded (entry_at words pc word))) (entry_at words pc word) cs
some_hit aims run cs words pc word i s =
    let v1 : word_of words (rs1_of_word word) ≡ word_of words i.rs1 =
    ap (λ (o : Option Fields). word_of words (option_and_then (λ (i : Fields). i.rs1) o)) s in
    let v2 : word_of words (rs2_of_word word) ≡ word_of words i.rs2 =
    ap (λ (o : Option Fields). word_of words (option_and_then (λ (i : Fields). i.rs2) o)) s in
    let with : Option Fields → ℕ → ℕ → List ℕ =
    λ o w1 w2. added (λ a. hits_insn a o w1 w2 || ends_run a.point.meaning (run_with run o)) aims
    cs in
    added_sum (λ a. hits_insn a (Some i) (word_of words i.rs1) (word_of words i.rs2))
    (λ a. ends_run a.point.meaning (run_with run (Some i)))
    (λ a. hits_insn a (Some i) (word_of words i.rs1) (word_of words i.rs2)
    || ends_run a.point.meaning (run_with run (Some i)))
    (apart (Some i) (word_of words i.rs1) (word_of words i.rs2) (run_with run (Some i))) aims cs
    ∙ ap (λ v. with (Some i) v (word_of words i.rs2)) (sym v1)
    ∙ ap (λ v. with (Some i) (word_of words (rs1_of_word word)) v) (sym v2)
    ∙ ap (λ (o : Option Fields). with o (word_of words (rs1_of_word word))
    (word_of words (rs2_of_word word))) (sym s)

-- the two passes over the points
pub both_counted : (index crosses : List Label) (run run' : List Fields) (cs cs1 cs2 : List ℕ)
    (words : List ℕ) (pc word : ℕ) (i : Fields)
    → crosses ≡ index → insn_of_word word ≡ Some i → run' ≡ run_with run (Some i)
    → cs1 ≡ added (λ a. hits_insn a (Some i) (word_of words i.rs1) (word_of words i.rs2))
    (aims_in index) cs
    → cs2 ≡ added (λ a. ends_run a.point.meaning run') (aims_in crosses) cs1
    → cs2 ≡ counts_with (aims_in index) (run_with run (decoded (entry_at words pc word)))
    (entry_at words pc word) cs
both_counted index crosses run run' cs cs1 cs2 words pc word i same s r first second =
    second
    ∙ ap (λ (ls : List Label). added (λ a. ends_run a.point.meaning run') (aims_in ls) cs1) same
    ∙ ap (λ l. added (λ a. ends_run a.point.meaning run') (aims_in index) l) first
    ∙ ap (λ (l : List Fields). added (λ a. ends_run a.point.meaning l) (aims_in index)
    (added (λ a. hits_insn a (Some i) (word_of words i.rs1) (word_of words i.rs2)) (aims_in index)
    cs)) r
    ∙ some_hit (aims_in index) run cs words pc word i s

-- one pass, where no point is a cross point
pub one_counted : (index : List Label) (run : List Fields) (cs cs1 : List ℕ) (words : List ℕ)
    (pc word : ℕ) (i : Fields)
    → any_cross (aims_in index) ≡ false → insn_of_word word ≡ Some i
    → length cs1 ≡ length (aims_in index)
    → cs1 ≡ added (λ a. hits_insn a (Some i) (word_of words i.rs1) (word_of words i.rs2))
    (aims_in index) cs
    → cs1 ≡ counts_with (aims_in index) (run_with run (decoded (entry_at words pc word)))
    (entry_at words pc word) cs
one_counted index run cs cs1 words pc word i none s size first =
    no_ends (run_with run (Some i)) (aims_in index) cs1 none size
    ∙ ap (λ l. added (λ a. ends_run a.point.meaning (run_with run (Some i))) (aims_in index) l)
    first
    ∙ some_hit (aims_in index) run cs words pc word i s

pub entry_counted : (t : Tallied) (b : Bool) (e : Entry) (cs : List ℕ) (run : List Fields)
    → b ≡ true → run ≡ followed t.labels (run_with t.run (decoded e))
    → cs ≡ counts_with (aims_in t.labels) (run_with t.run (decoded e)) e t.counts
    → record {
      labels =
          t.labels;
      windows =
          t.windows;
      counts = cs;
      instructions = t.instructions + 1;
      run = run;
      heard = t.heard;
    }
    ≡ with_entry t b e
entry_counted t b e cs run h r c = grind arith

-- ---- bounds
pub added_length : (passes : Aim → Bool) (aims : List Aim) (cs : List ℕ) → length cs ≡ length aims
    → length (added passes aims cs) ≡ length aims
added_length passes [] cs h = h
added_length passes (a ∷ aims) [] h = absurd (omega arith)
added_length passes (a ∷ aims) (c ∷ cs) h =
    let l : length cs ≡ length aims = omega arith in omega (arith, added_length passes aims cs l)

bit_low : (b : Bool) → cond b 1 0 ≤ 1
bit_low b = grind arith

pub added_low : (passes : Aim → Bool) (aims : List Aim) (cs : List ℕ) (m : ℕ) → All (λ n. n ≤ m) cs
    → All (λ n. n ≤ m + 1) (added passes aims cs)
added_low passes [] cs m h k d l = omega (arith, h k d l)
added_low passes (a ∷ aims) [] m h k d l = absurd (omega arith)
added_low passes (a ∷ aims) (c ∷ cs) m h zero d l =
    omega (arith, h 0 d (omega arith), bit_low (passes a))
added_low passes (a ∷ aims) (c ∷ cs) m h (suc k) d l =
    added_low passes aims cs m (λ k d l. h (suc k) d (omega arith)) k d (omega arith)
