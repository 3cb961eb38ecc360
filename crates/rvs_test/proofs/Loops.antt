-- One turn of each loop.
use Rattle.std.proofs.Common.{◌≡◌, ℕ, zero, suc, ◌+◌, ◌<◌, Bool, true, false, not, cond, List, []}
use Rattle.std.proofs.Common.{◌∷◌, ◌++◌, length, map, take, get_or, Option, Some, None, refl, sym}
use Rattle.std.proofs.Common.{ap, ◌∙◌, arith, append_assoc, append-nil, add-one, length-take}
use Rattle.std.specs.Prelude.{pos, ◌-◌, filter, flat_map, unwrap_or, is_some, option_to_list}
use Rattle.std.specs.List.{range_with_len}
use Rattle.std.proofs.lemmas.List.{take_more, map_more}
use Rattle.std.proofs.lemmas.List.Elements.{filter-append}
use Rattle.std.proofs.lemmas.List.Concat.{flat_map-append}
use Rattle.rvs_insn.specs.Fields.{Fields}
use Rattle.rvs_insn.specs.Isa.{Isa}
use Rattle.rvs_points.specs.Points.{Label}
use Rattle.rvs_choice.specs.declared.solved.Solved.{Solved}
use Rattle.rvs_solver.specs.Solving.{first_at}
use Rattle.rvs_test_text.specs.declared.claim.Claim.{Claim}
use Rattle.rvs_test_text.specs.declared.statement.Statement.{Statement}
use Rattle.rvs_test_text.specs.Statements.{printed, addi}
use Rattle.rvs_test_text.specs.TestText.{load_word, load_words, start_word, clear, cases}
use Rattle.rvs_test_text.specs.TestText.{case_statements, slots, last_rd, ended, text_of, all_steps}
use Rattle.rvs_test_text.specs.TestText.{case_steps}
use Rattle.rvs_test.specs.Made.{is_solved, solved_among, unsolved_among, cases_among, numbered}
use Rattle.rvs_test.specs.Found.{FoundValue, found_before, nothing_found, with_one}
use Rattle.rvs_test_text.specs.declared.statement.Name.TheVariants.{Slot}
use Rattle.rvs_test_text.specs.declared.statement.Fixed.TheVariants.{Unset}
use Rattle.rvs_test_text.specs.declared.statement.Statement.TheVariants.{Label as LabelLine, Plain}
use Rattle.rvs_test_text.specs.declared.statement.Statement.TheVariants.{Fixed as FixedLine}
use Rattle.rvs_test.proofs.Printed.{ended_join, text_join, text_one}

-- ---- what was found, by its parts
abbrev pub FoundIs : List Solved → List Claim → List ℕ → FoundValue
FoundIs cs ds us = record { cases = cs; claims = ds; unsolved = us }

-- ---- registers

-- ---- lists that grow at their end

words_suc : (r n : ℕ)
    → load_words r (suc n) ≡ load_words r n ++ load_word (r + n) (start_word (r + n))
words_suc r zero = grind (arith, append-nil)
words_suc r (suc n) = grind (arith, append_assoc, suc, (words_suc (r + 1) n))

pub words_more : (r n : ℕ)
    → load_words r (n + 1) ≡ load_words r n ++ load_word (r + n) (start_word (r + n))
words_more r n = ap (load_words r) (add-one n) ∙ words_suc r n

clear_suc : (r n : ℕ) → clear r (suc n) ≡ clear r n ++ Plain (addi (r + n) 0 (pos 0)) ∷ []
clear_suc r zero = ap (λ x. Plain (addi x 0 (pos 0)) ∷ []) (let e : r ≡ r + 0 = omega arith in e)
clear_suc r (suc n) = grind (arith, suc, (clear_suc (r + 1) n))

pub clear_more : (r n : ℕ)
    → text_of (clear r (n + 1)) ≡ text_of (clear r n)
    ++ text_of (Plain (addi (r + n) 0 (pos 0)) ∷ [])
clear_more r n = grind (arith, add-one, clear_suc, text_join)

slots_suc : (k n : ℕ)
    → slots k (suc n) ≡ slots k n ++ LabelLine (Slot (k + n)) ∷ FixedLine Unset ∷ []
slots_suc k zero = grind arith
slots_suc k (suc n) = grind (arith, suc, (slots_suc (k + 1) n))

pub slots_more : (k n : ℕ)
    → text_of (slots k (n + 1)) ≡ text_of (slots k n)
    ++ text_of (LabelLine (Slot (k + n)) ∷ FixedLine Unset ∷ [])
slots_more k n = grind (arith, add-one, slots_suc, text_join)

cases_join : (k : ℕ) (xs ys : List Solved)
    → cases k (xs ++ ys) ≡ cases k xs ++ cases (k + length xs) ys
cases_join k [] ys = ap (λ n. cases n ys) (let e : k ≡ k + 0 = omega arith in e)
cases_join k (x ∷ xs) ys = grind (arith, append_assoc, length, (cases_join (k + 1) xs ys))

pub one_case_more : (cs : List Solved) (i : ℕ) (d : Solved) → i < length cs
    → cases 0 (take (i + 1) cs) ≡ cases 0 (take i cs) ++ case_statements i (get_or cs i d)
one_case_more cs i d h =
    let e : 0 + length (take i cs) ≡ i = omega (arith, length-take i cs) in
    ap (cases 0) (take_more cs i d h)
    ∙ cases_join 0 (take i cs) (get_or cs i d ∷ [])
    ∙ ap (λ n. cases 0 (take i cs) ++ cases n (get_or cs i d ∷ [])) e
    ∙ ap (λ l. cases 0 (take i cs) ++ l) (append-nil (case_statements i (get_or cs i d)))

pub cases_more : (cs : List Solved) (i : ℕ) (d : Solved) → i < length cs
    → text_of (cases 0 (take (i + 1) cs)) ≡ text_of (cases 0 (take i cs))
    ++ text_of (case_statements i (get_or cs i d))
cases_more cs i d h =
    ap text_of (one_case_more cs i d h)
    ∙ text_join (cases 0 (take i cs)) (case_statements i (get_or cs i d))

pub text_more : (ss : List Statement) (i : ℕ) (d : Statement) → i < length ss
    → text_of (take (i + 1) ss) ≡ text_of (take i ss) ++ (printed (get_or ss i d) ++ 10 ∷ [])
text_more ss i d h =
    ap text_of (take_more ss i d h) ∙ text_join (take i ss) (get_or ss i d ∷ [])
    ∙ ap (λ l. text_of (take i ss) ++ l) (text_one (get_or ss i d))

pub lines_more : {X : Type 0} (f : X → List ℕ) (xs : List X) (i : ℕ) (d : X) → i < length xs
    → ended (map f (take (i + 1) xs)) ≡ ended (map f (take i xs)) ++ (f (get_or xs i d) ++ 10 ∷ [])
lines_more f xs i d h =
    ap ended (map_more f xs i d h) ∙ ended_join (map f (take i xs)) (f (get_or xs i d) ∷ [])

-- the register that the last place writes
pub last_is : (is : List Fields) (d : Fields) → 0 < length is
    → last_rd is ≡ unwrap_or (get_or is (length is - 1) d).rd 0
last_is [] d h = absurd (omega arith)
last_is (i ∷ []) d h = refl
last_is (i ∷ j ∷ is) d h =
    last_is (j ∷ is) d (omega arith)
    ∙ ap (λ n. unwrap_or (get_or (i ∷ j ∷ is) n d).rd 0)
    (let e : suc (length (j ∷ is) - 1) ≡ length (i ∷ j ∷ is) - 1 = omega arith in e)

-- ---- one more point

range_suc : (a n : ℕ) → range_with_len a (suc n) ≡ range_with_len a n ++ (a + n) ∷ []
range_suc a zero = ap (λ x. x ∷ []) (let e : a ≡ a + 0 = omega arith in e)
range_suc a (suc n) = grind (arith, suc, (range_suc (a + 1) n))

range_more : (n : ℕ) → range_with_len 0 (n + 1) ≡ range_with_len 0 n ++ n ∷ []
range_more n =
    ap (range_with_len 0) (add-one n) ∙ range_suc 0 n
    ∙ ap (λ x. range_with_len 0 n ++ x ∷ []) (let e : 0 + n ≡ n = omega arith in e)

pub numbered_length : (j : ℕ) (ks : List ℕ) → length (numbered j ks) ≡ length ks
numbered_length j [] = refl
numbered_length j (k ∷ ks) = simp (length, (numbered_length (j + 1) ks))

numbered_join : (j : ℕ) (ks : List ℕ) (k : ℕ)
    → numbered j (ks ++ k ∷ []) ≡ numbered j ks ++ record { case = j + length ks; point = k } ∷ []
numbered_join j [] k = grind arith
numbered_join j (x ∷ ks) k = grind (arith, length, (numbered_join (j + 1) ks k))

all_same : (a b : List Solved) (d e : List Claim) (u v : List ℕ) → a ≡ b → d ≡ e → u ≡ v
    → FoundIs a d u ≡ FoundIs b e v
all_same a b d e u v h k l = grind arith

one_kept : (p : ℕ → Bool) (ks : List ℕ) (k : ℕ) (b : Bool) → p k ≡ b
    → filter p (ks ++ k ∷ []) ≡ filter p ks ++ cond b (k ∷ []) []
one_kept p ks k b h = filter-append p ks (k ∷ []) ∙ ap (λ t. filter p ks ++ cond t (k ∷ []) []) h

flat_one_more : (f : ℕ → List Solved) (ks : List ℕ) (k : ℕ)
    → flat_map f (ks ++ k ∷ []) ≡ flat_map f ks ++ f k
flat_one_more f ks k = simp (flat_map-append, append-nil)

after_one : (isa : Isa) (l : Label) (n : ℕ) (o : Option Solved) → first_at isa l n ≡ o
    → (let ks = range_with_len 0 n in
    FoundIs (cases_among isa l (ks ++ n ∷ [])) (numbered 0 (solved_among isa l (ks ++ n ∷ [])))
    (unsolved_among isa l (ks ++ n ∷ []))
    ≡ with_one
    (FoundIs (cases_among isa l ks) (numbered 0 (solved_among isa l ks)) (unsolved_among isa l ks))
    n o)
after_one isa l n None h =
    let ks = range_with_len 0 n in
    all_same _ _ _ _ _ _
    (flat_one_more (λ k. option_to_list (first_at isa l k)) ks n
    ∙ ap (λ o. cases_among isa l ks ++ option_to_list o) h ∙ append-nil (cases_among isa l ks))
    (ap (numbered 0)
    (one_kept (is_solved isa l) ks n false (ap is_some h) ∙ append-nil (solved_among isa l ks)))
    (one_kept (λ k. not (is_solved isa l k)) ks n true (ap (λ o. not (is_some o)) h))
after_one isa l n (Some s) h =
    let ks = range_with_len 0 n in
    let e : 0 + length (solved_among isa l ks) ≡ length (numbered 0 (solved_among isa l ks)) =
    omega (arith, numbered_length 0 (solved_among isa l ks)) in
    all_same _ _ _ _ _ _
    (flat_one_more (λ k. option_to_list (first_at isa l k)) ks n
    ∙ ap (λ o. cases_among isa l ks ++ option_to_list o) h)
    (ap (numbered 0) (one_kept (is_solved isa l) ks n true (ap is_some h))
    ∙ numbered_join 0 (solved_among isa l ks) n
    ∙ ap (λ x. numbered 0 (solved_among isa l ks) ++ record { case = x; point = n } ∷ []) e)
    (one_kept (λ k. not (is_solved isa l k)) ks n false (ap (λ o. not (is_some o)) h)
    ∙ append-nil (unsolved_among isa l ks))

pub found_more : (isa : Isa) (l : Label) (n : ℕ) (before after : FoundValue) (o : Option Solved)
    → before ≡ found_before isa l n → o ≡ first_at isa l n → after ≡ with_one before n o
    → after ≡ found_before isa l (n + 1)
unfolding found_before
found_more isa l n before after o h k e =
    e ∙ ap (λ f. with_one f n o) h
    ∙ sym
    (ap
    (λ ks. FoundIs (cases_among isa l ks) (numbered 0 (solved_among isa l ks))
    (unsolved_among isa l ks)) (range_more n) ∙ after_one isa l n o (sym k))

pub found_none : (isa : Isa) (l : Label) → nothing_found ≡ found_before isa l 0
unfolding found_before
found_none isa l = refl

-- ---- steps

steps_join : (xs ys : List Solved) → all_steps (xs ++ ys) ≡ all_steps xs + all_steps ys
steps_join [] ys = omega arith
steps_join (x ∷ xs) ys = grind (arith, (steps_join xs ys))

pub steps_more : (cs : List Solved) (i : ℕ) (d : Solved) → i < length cs
    → all_steps (take (i + 1) cs) ≡ all_steps (take i cs) + case_steps (get_or cs i d)
steps_more cs i d h =
    let e : all_steps (take i cs ++ get_or cs i d ∷ [])
    ≡ all_steps (take i cs) + (case_steps (get_or cs i d) + 0) =
    steps_join (take i cs) (get_or cs i d ∷ []) in
    ap all_steps (take_more cs i d h) ∙ e ∙ omega arith
