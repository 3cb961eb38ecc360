-- A text that grows.
use Rattle.std.proofs.Common.{◌≡◌, ℕ, ◌+◌, ◌<◌, List, [], ◌∷◌, ◌++◌, length, map, take}
use Rattle.std.proofs.Common.{get_or, zero, suc, sym, ap, ◌∙◌, subst, arith, append_assoc}
use Rattle.std.proofs.Common.{append-nil}
use Rattle.std.specs.Prelude.{ℤ, pos, negsuc, ◌-◌, All, OnOk, Result, Some, slice_get, unwrap_or}
use Rattle.std.proofs.lemmas.Option.{slice_get_within, get_or_from_slice_get}
use Rattle.rvs_insn.specs.Fields.{Fields}
use Rattle.rvs_points.specs.PointView.{point_view, label_view}
use Rattle.rvs_points.specs.declared.group.Point.{Point as Point'}
use Rattle.rvs_points.specs.declared.group.Label.{Label as Label'}
use Rattle.rvs_solver.proofs.Labels.{point_there}
use Rattle.rvs_insn.specs.Isa.{Isa}
use Rattle.rvs_insn.specs.declared.op.Format.{Format}
use Rattle.rvs_choice.specs.declared.solved.Solved.{Solved}
use Rattle.rvs_solver.proofs.Search.{Each}
use Rattle.rvs_solver.proofs.Operands.{all_from_each}
use Rattle.rvs_test_text.specs.declared.statement.Statement.{Statement}
use Rattle.rvs_test_text.specs.declared.statement.Statement.TheVariants.{Label, Plain}
use Rattle.rvs_test_text.specs.Statements.{printed, IsLinked, IsPrinted}
use Rattle.rvs_test_text.specs.TestText.{Point as Named, claim_lines, front, header, step_limit}
use Rattle.rvs_test_text.specs.TestText.{test_text, ended, text_of, case_statements, begin, clear}
use Rattle.rvs_test_text.specs.TestText.{last_register, cases, halt, loop, code_part, fixed_data}
use Rattle.rvs_test_text.specs.TestText.{slots, pointer, marker, clear_scratch, copy_word, source}
use Rattle.rvs_test_text.specs.TestText.{store_case, jump_case, frame, unlinked, save, fill_scratch}
use Rattle.rvs_test_text.specs.TestText.{reserve}
use Rattle.rvs_insn.specs.declared.op.Op.{Op}
use Rattle.rvs_test.specs.AtomicLines.{atomic_end, atomic_lines}
use Rattle.rvs_choice.specs.Choice.{ChoiceValue, fields_of}
use Rattle.rvs_test_text.specs.TestText.{data_part, claim_line, line_of_claim, last_rd}
use Rattle.rvs_test_text.specs.declared.statement.Name.TheVariants.{Case, EndSignature}
use Rattle.rvs_test_text.specs.declared.claim.Claim.{Claim}
use Rattle.rvs_test.specs.Made.{named, named_at}
use Rattle.rvs_test_text.specs.Claim.{IsReady, AreReady}
use Rattle.rvs_test_text.proofs.KindLaws.{LinkedFormat}
use Rattle.rvs_test_text.proofs.Passes.{IsFine, AllFine}
use Rattle.rvs_test_text.proofs.Every.{IsMade, case_fine}
use Rattle.rvs_test.proofs.Printed.{ended_join, text_none, text_join}
use Rattle.rvs_test.proofs.Loops.{last_is, lines_more}

pub starts : (old a : List ℕ) → a ≡ [] → old ≡ old ++ a
starts old a h = sym (append-nil old) ∙ ap (λ x. old ++ x) (sym h)

pub grows : (old before new a b more : List ℕ) → before ≡ old ++ a → new ≡ before ++ more
    → b ≡ a ++ more → new ≡ old ++ b
grows old before new a b more h k e = grind (arith, append_assoc)

pub list_grows : (old before new a b more : List Statement) → before ≡ old ++ a
    → new ≡ before ++ more → b ≡ a ++ more → new ≡ old ++ b
list_grows old before new a b more h k e = grind (arith, append_assoc)

pub begins_text : (old : List ℕ) → old ≡ old ++ text_of []
begins_text old = starts old (text_of []) text_none

-- ---- what is assembled can be printed

linked : (f : Format) → LinkedFormat f → IsLinked f
linked f h = grind arith

printed_one : (isa : Isa) (s : Statement) → IsFine isa s → IsPrinted s
printed_one isa s h = grind arith

printed_each : (isa : Isa) (ss : List Statement) → AllFine isa ss → Each IsPrinted ss
printed_each isa [] h = tt
printed_each isa (s ∷ ss) h = (printed_one isa s h.0, printed_each isa ss h.1)

pub made_of_ready : (isa : Isa) (s : Solved) → IsReady isa s → IsMade isa s
made_of_ready isa s h = grind arith

pub case_printed : (isa : Isa) (k : ℕ) (s : Solved) → k < 2048 → IsReady isa s
    → All IsPrinted (case_statements k s)
case_printed isa k s small h =
    all_from_each IsPrinted (case_statements k s)
    (printed_each isa (case_statements k s)
    (case_fine isa k s (omega arith) (made_of_ready isa s h)))

pub ready_at : (isa : Isa) (cs : List Solved) (k : ℕ) (s : Solved) → AreReady isa cs → k < length cs
    → s ≡ get_or cs k s → IsReady isa s
ready_at isa [] k s h l is = absurd (omega arith)
ready_at isa (c ∷ cs) zero s h l is = subst (IsReady isa) (sym is) h.0
ready_at isa (c ∷ cs) (suc k) s h l is = ready_at isa cs k s h.1 (omega arith) is

-- ---- a list that grew by two statements and by two lists

pub end_grows : (old : List Statement) (s t : Statement) (us vs : List Statement)
    → ((old ++ s ∷ t ∷ []) ++ us) ++ vs ≡ old ++ (s ∷ t ∷ (us ++ vs))
end_grows old s t us vs = simp append_assoc

-- ---- the case of a store, which grew by its parts

store_grows : (old a b c d e clear s1 s2 : List Statement) (s t : Statement)
    (us vs : List Statement) → a ≡ old ++ clear → b ≡ (a ++ s1) ++ s2 → c ≡ b ++ s ∷ t ∷ []
    → d ≡ c ++ us → e ≡ d ++ vs
    → e ≡ old ++ (clear ++ (s1 ++ (s2 ++ (s ∷ t ∷ (us ++ vs)))))
store_grows old a b c d e clear s1 s2 s t us vs h0 h1 h2 h3 h4 =
    let whole :
    (((((old ++ clear) ++ s1) ++ s2) ++ s ∷ t ∷ []) ++ us) ++ vs
    ≡ old ++ (clear ++ (s1 ++ (s2 ++ (s ∷ t ∷ (us ++ vs))))) =
    simp append_assoc in
    h4
    ∙ ap (λ l. l ++ vs)
    (h3
    ∙ ap (λ l. l ++ us) (h2 ∙ ap (λ l. l ++ s ∷ t ∷ []) (h1 ∙ ap (λ l. (l ++ s1) ++ s2) h0)))
    ∙ whole

pub store_there : (v : ChoiceValue) (k p m : ℕ) (i : Fields)
    (old a b c d e clear us vs : List Statement) → p ≡ pointer v → m ≡ marker v
    → i ≡ fields_of v → clear ≡ clear_scratch p → us ≡ copy_word p m k (pos 0)
    → vs ≡ copy_word p m k (pos 4) → a ≡ old ++ clear
    → b ≡ (a ++ source v.rs1 v.w1) ++ source v.rs2 v.w2 → c ≡ b ++ Label (Case k) ∷ Plain i ∷ []
    → d ≡ c ++ us → e ≡ d ++ vs → e ≡ old ++ store_case k v
store_there v k p m i old a b c d e clear us vs hp hm hi hc hu hv h0 h1 h2 h3 h4 =
    let s1 = source v.rs1 v.w1 in
    let s2 = source v.rs2 v.w2 in
    let symbol = Label (Case k) in
    let front = clear_scratch (pointer v) in
    let copies : (z : ℤ) → copy_word p m k z ≡ copy_word (pointer v) (marker v) k z =
    λ z. ap (λ x. copy_word x m k z) hp ∙ ap (λ x. copy_word (pointer v) x k z) hm in
    let first = copy_word (pointer v) (marker v) k (pos 0) in
    store_grows old a b c d e clear s1 s2 symbol (Plain i) us vs h0 h1 h2 h3 h4
    ∙ ap (λ x. old ++ (x ++ (s1 ++ (s2 ++ (symbol ∷ Plain i ∷ (us ++ vs))))))
    (hc ∙ ap clear_scratch hp)
    ∙ ap (λ x. old ++ (front ++ (s1 ++ (s2 ++ (symbol ∷ Plain x ∷ (us ++ vs)))))) hi
    ∙ ap (λ x. old ++ (front ++ (s1 ++ (s2 ++ (symbol ∷ Plain (fields_of v) ∷ (x ++ vs))))))
    (hu ∙ copies (pos 0))
    ∙ ap (λ x. old ++ (front ++ (s1 ++ (s2 ++ (symbol ∷ Plain (fields_of v) ∷ (first ++ x))))))
    (hv ∙ copies (pos 4))

-- ---- the case of a jump

four_grow : (old a b f w : List Statement)
    → (((old ++ a) ++ b) ++ f) ++ w ≡ old ++ (a ++ (b ++ (f ++ w)))
four_grow old a b f w = simp append_assoc

frame_joins : (z : ℤ) (k m : ℕ) (j : Fields) (rest : List Statement)
    → frame z k m j [] ++ rest ≡ frame z k m j rest
frame_joins (pos n) k m j rest = simp append_assoc
frame_joins (negsuc n) k m j rest = simp append_assoc

pub jump_there : (v : ChoiceValue) (k p m rd : ℕ) (z : ℤ) (j : Fields)
    (old a b c w : List Statement) → p ≡ pointer v → m ≡ marker v → rd ≡ unwrap_or v.rd 0
    → z ≡ unwrap_or v.imm (pos 0) → j ≡ unlinked v → w ≡ save p k m rd
    → a ≡ (old ++ source v.rs1 v.w1) ++ source v.rs2 v.w2 → b ≡ a ++ frame z k m j []
    → c ≡ b ++ w → c ≡ old ++ jump_case k v
jump_there v k p m rd z j old a b c w hp hm hr hz hj hw h0 h1 h2 =
    let s1 = source v.rs1 v.w1 in
    let s2 = source v.rs2 v.w2 in
    let f = frame z k m j [] in
    let imm = unwrap_or v.imm (pos 0) in
    h2
    ∙ ap (λ l. l ++ w) (h1 ∙ ap (λ l. l ++ f) h0)
    ∙ four_grow old s1 s2 f w
    ∙ ap (λ x. old ++ (s1 ++ (s2 ++ x)))
    (frame_joins z k m j w
    ∙ ap (λ x. frame x k m j w) hz
    ∙ ap (λ x. frame imm k x j w) hm
    ∙ ap (λ x. frame imm k (marker v) x w) hj
    ∙ ap (λ x. frame imm k (marker v) (unlinked v) x)
    (hw
    ∙ ap (λ x. save x k m rd) hp
    ∙ ap (λ x. save (pointer v) k x rd) hm
    ∙ ap (λ x. save (pointer v) k (marker v) x) hr))

-- ---- the case of an atomic row

five_grow : (old f a b g e : List Statement)
    → ((((old ++ f) ++ a) ++ b) ++ g) ++ e ≡ old ++ (f ++ (a ++ (b ++ (g ++ e))))
five_grow old f a b g e = simp append_assoc

pub atomic_there : (v : ChoiceValue) (k p m r : ℕ) (o : Op) (old a b c d f : List Statement)
    → f ≡ fill_scratch p m → o ≡ v.op → r ≡ unwrap_or v.rs1 0 → a ≡ old ++ f
    → b ≡ (a ++ source v.rs1 v.w1) ++ source v.rs2 v.w2 → c ≡ b ++ reserve o r m
    → d ≡ c ++ atomic_end k v p m → d ≡ old ++ atomic_lines k v p m
unfolding atomic_lines
atomic_there v k p m r o old a b c d f hf ho hr h0 h1 h2 h3 =
    let s1 = source v.rs1 v.w1 in
    let s2 = source v.rs2 v.w2 in
    let g = reserve o r m in
    let e = atomic_end k v p m in
    let front = fill_scratch p m in
    h3
    ∙ ap (λ l. l ++ e) (h2 ∙ ap (λ l. l ++ g) (h1 ∙ ap (λ l. (l ++ s1) ++ s2) h0))
    ∙ five_grow old f s1 s2 g e
    ∙ ap (λ x. old ++ (x ++ (s1 ++ (s2 ++ (g ++ e))))) hf
    ∙ ap (λ x. old ++ (front ++ (s1 ++ (s2 ++ (reserve x r m ++ e))))) ho
    ∙ ap (λ x. old ++ (front ++ (s1 ++ (s2 ++ (reserve v.op x m ++ e))))) hr

-- ---- parts of the text

pub then_ok : {A E : Type 0} (r : Result A E) (P Q : Type 0) → (P → Q) → OnOk r P → OnOk r Q
then_ok h e = grind arith

pub code_there : (isa : Isa) (cs : List Solved) (o a b c d : List ℕ) → a ≡ o ++ text_of begin
    → b ≡ a ++ text_of (clear 1 (last_register isa)) → c ≡ b ++ text_of (cases 0 cs)
    → d ≡ c ++ text_of (halt ++ loop) → d ≡ o ++ text_of (begin ++ code_part isa cs)
code_there isa cs o a b c d h1 h2 h3 h4 =
    let t1 = text_of begin in
    let t2 = text_of (clear 1 (last_register isa)) in
    let t3 = text_of (cases 0 cs) in
    let t4 = text_of (halt ++ loop) in
    let whole : text_of (begin ++ code_part isa cs) ≡ t1 ++ (t2 ++ (t3 ++ t4)) =
    text_join begin (code_part isa cs)
    ∙ ap (λ x. t1 ++ x)
    (text_join (clear 1 (last_register isa)) (cases 0 cs ++ (halt ++ loop))
    ∙ ap (λ x. t2 ++ x) (text_join (cases 0 cs) (halt ++ loop))) in
    h4 ∙ ap (λ x. x ++ t4) (h3 ∙ ap (λ x. x ++ t3) (h2 ∙ ap (λ x. x ++ t2) h1))
    ∙ append_assoc ((o ++ t1) ++ t2) t3 t4 ∙ append_assoc (o ++ t1) t2 (t3 ++ t4)
    ∙ append_assoc o t1 (t2 ++ (t3 ++ t4))
    ∙ ap (λ x. o ++ x) (sym whole)

pub data_there : (n : ℕ) (o a b c : List ℕ) → a ≡ o ++ text_of fixed_data
    → b ≡ a ++ text_of (slots 0 n) → c ≡ b ++ text_of (Label EndSignature ∷ [])
    → c ≡ o ++ text_of (data_part n)
data_there n o a b c h1 h2 h3 =
    let t1 = text_of fixed_data in
    let t2 = text_of (slots 0 n) in
    let t3 = text_of (Label EndSignature ∷ []) in
    let whole : text_of (data_part n) ≡ t1 ++ (t2 ++ t3) =
    text_join fixed_data (slots 0 n ++ Label EndSignature ∷ [])
    ∙ ap (λ x. t1 ++ x) (text_join (slots 0 n) (Label EndSignature ∷ [])) in
    h3 ∙ ap (λ x. x ++ t3) (h2 ∙ ap (λ x. x ++ t2) h1) ∙ append_assoc (o ++ t1) t2 t3
    ∙ append_assoc o t1 (t2 ++ t3) ∙ ap (λ x. o ++ x) (sym whole)

-- ---- the line of a claim

pub line_there : (l : Label') (c : Claim) (p : Point') → c.point < length l.points
    → p ≡ get_or l.points c.point p
    → claim_line c.case (named (point_view p)) ≡ line_of_claim (named_at (label_view l)) c
line_there l c p h is = grind (arith, point_there)

pub claim_more : (l : Label') (cs : List Claim) (i : ℕ) (d : Claim) (line : List ℕ) (p : Point')
    → i < length cs → line ≡ claim_line (get_or cs i d).case (named (point_view p))
    → (get_or cs i d).point < length l.points → p ≡ get_or l.points (get_or cs i d).point p
    → (let f = line_of_claim (named_at (label_view l)) in
    ended (map f (take (i + 1) cs)) ≡ ended (map f (take i cs)) ++ (line ++ 10 ∷ []))
claim_more l cs i d line p h is low at =
    let f = line_of_claim (named_at (label_view l)) in
    lines_more f cs i d h
    ∙ ap (λ x. ended (map f (take i cs)) ++ (x ++ 10 ∷ []))
    (sym (is ∙ line_there l (get_or cs i d) p low at))

-- ---- the last place

pub last_there : (is : List Fields) (i : Fields) → slice_get is (length is - 1) ≡ Some i
    → unwrap_or i.rd 0 ≡ last_rd is
last_there is i h =
    let some : 0 < length is = omega (arith, slice_get_within is (length is - 1) i h) in
    sym
    (last_is is i some
    ∙ ap (λ (x : Fields). unwrap_or x.rd 0) (get_or_from_slice_get is (length is - 1) i i h))

pub same_at : (ps qs : List Point') (k : ℕ) (p : Point') → ps ≡ qs → p ≡ get_or ps k p
    → p ≡ get_or qs k p
same_at ps qs k p h is = is ∙ ap (λ l. get_or l k p) h

-- ---- the whole text

pub text_there : (isa : Isa) (name : List ℕ) (ps : List Named) (cs : List Solved)
    (ls : List (List ℕ)) (a b c d : List ℕ) → claim_lines 0 ps ≡ ls
    → a ≡ [] ++ ended (front name isa (step_limit cs)) → b ≡ a ++ ended ls
    → c ≡ b ++ text_of (begin ++ code_part isa cs) → d ≡ c ++ text_of (data_part (length cs))
    → d ≡ test_text name isa ps cs
unfolding test_text text_of
text_there isa name ps cs ls a b c d lines h1 h2 h3 h4 =
    let f = ended (front name isa (step_limit cs)) in
    let t3 = ended (map printed (begin ++ code_part isa cs)) in
    let t4 = ended (map printed (data_part (length cs))) in
    let all : ended (map printed (begin ++ (code_part isa cs ++ data_part (length cs)))) ≡ t3
    ++ t4 =
    ap (λ x. ended (map printed x))
    (sym (append_assoc begin (code_part isa cs) (data_part (length cs))))
    ∙ text_join (begin ++ code_part isa cs) (data_part (length cs)) in
    let head : ended (header name isa (step_limit cs) ps) ≡ f ++ ended ls =
    ended_join (front name isa (step_limit cs)) (claim_lines 0 ps)
    ∙ ap (λ x. f ++ ended x) lines in
    h4 ∙ ap (λ x. x ++ t4) (h3 ∙ ap (λ x. x ++ t3) (h2 ∙ ap (λ x. x ++ ended ls) h1))
    ∙ append_assoc (f ++ ended ls) t3 t4
    ∙ sym
    (ended_join (header name isa (step_limit cs) ps)
    (map printed (begin ++ (code_part isa cs ++ data_part (length cs))))
    ∙ ap (λ x. x ++ ended (map printed (begin ++ (code_part isa cs ++ data_part (length cs)))))
    head ∙ ap (λ x. (f ++ ended ls) ++ x) all)
