-- The cases of a label's test hit the points that it claims.
use Rattle.std.proofs.Common.{◌≡◌, ℕ, zero, suc, ◌+◌, ◌*◌, ◌<◌, Bool, true, false, cond, not}
use Rattle.std.proofs.Common.{List, [], ◌∷◌, ◌++◌, length, map, Option, Some, None, refl, sym}
use Rattle.std.proofs.Common.{ap, ◌∙◌, subst, arith}
use Rattle.std.specs.Prelude.{ℤ, filter, find, flat_map, is_some, option_map, option_and_then}
use Rattle.std.specs.Prelude.{option_to_list, slice_get, All, Contains}
use Rattle.std.proofs.Common.{inl, inr, rules}
use Rattle.std.specs.List.{range_with_len}
use Rattle.std.proofs.lemmas.Bool.{eq-eqb, and_from, or_left, or_right}
use Rattle.rvs_insn.specs.declared.op.Op.{Op}
use Rattle.rvs_insn.specs.Memory.{Memory, HasRoom}
use Rattle.rvs_insn.specs.Isa.{Isa}
use Rattle.rvs_insn.specs.Table.{row}
use Rattle.rvs_insn.specs.Fields.{Fields, insn_of_word}
use Rattle.rvs_machine.specs.declared.event.Executed.{Executed}
use Rattle.rvs_machine.specs.Image.{ImageValue}
use Rattle.rvs_machine.specs.Run.{Outcome}
use Rattle.rvs_expr.specs.Typed.{Formula}
use Rattle.rvs_expr.specs.Meaning as expr
use Rattle.rvs_expr.specs.Meaning.{Table, truth, is_true}
use Rattle.rvs_expr.specs.Facts.{Extends}
use Rattle.rvs_expr.proofs.Meanings.{truth-more}
use Rattle.rvs_facts.specs.Facts.{facts_of}
use Rattle.rvs_facts.specs.Mnemonics.{number, is_same}
use Rattle.rvs_cross.specs.Cross.{Place}
use Rattle.rvs_sequences.specs.Sequences.{first_sequence}
use Rattle.rvs_sequences.specs.Sequences as cross
use Rattle.rvs_sequences.proofs.Solved.{sequence_solves, nothing_solves}
use Rattle.rvs_points.specs.declared.group.Kind.{Kind}
use Rattle.rvs_points.specs.Points as groups
use Rattle.rvs_points.specs.Points.{Meaning, op_is, reg_is, regs, nums, window, Label}
use Rattle.rvs_points.specs.Hits.{field_of, is_meant, has_op}
use Rattle.rvs_points.specs.Hits as points
use Rattle.rvs_points.specs.Valid.{IsValid}
use Rattle.rvs_solver.specs.Choices.{ChoiceValue, choice_of, fields_of, table_of, is_kept}
use Rattle.rvs_solver.specs.Choices.{is_same as is_same_register, numbers, registers}
use Rattle.rvs_solver.specs.Choices.{with_registers, choices}
use Rattle.rvs_solver.specs.Point.{hits, constants_of}
use Rattle.rvs_solver.specs.First.{all_choices, first_choice, Solvable}
use Rattle.rvs_solver.specs.Solving.{IsSingle, first_meant, first_of_point, first_at, IsSolvableAs}
use Rattle.rvs_solver.specs.Solving.{IsSolvableAt}
use Rattle.rvs_choice.specs.declared.solved.Solved.{Solved}
use Rattle.rvs_choice.specs.declared.solved.Solved.TheVariants.{One, Many}
use Rattle.rvs_solver.proofs.Search.{Each}
use Rattle.rvs_solver.proofs.Product.{each_append, each_flat, each_map, each_any}
use Rattle.rvs_solver.proofs.Operands.{all_from_each, each_then}
use Rattle.rvs_solver.proofs.OneWord.{found_hits, found_each}
use Rattle.rvs_solver.proofs.Answer.{nothing_hits}
use Rattle.rvs_test_text.specs.declared.claim.Claim.{Claim}
use Rattle.rvs_test_text.specs.TestText.{step_limit, test_text}
use Rattle.rvs_test_text.specs.Claim.{insns_of, IsHit, AreHit, IsTest, FitsRegions}
use Rattle.rvs_test.specs.Made.{places, is_solved, solved_among, cases_among, numbered, claims_of}
use Rattle.rvs_test.specs.Made.{unsolved_of, cases_of, named_at}
use Rattle.rvs_test.specs.Claimed.{HitsAlone, HitsTogether, HitsAs, words_of_case, IsClaimed}
use Rattle.rvs_test.specs.Claimed.{TestRuns, IsAccounted}
use Rattle.rvs_test.proofs.Solvings.{IsFirst, IsFirstWindow, first_is, cases_ready, cases_few}
use Rattle.rvs_test.proofs.Solvings.{claims_same, name_text, points_text}
use Rattle.rvs_test_text.proofs.Main.{tests_run, steps_high}

-- ---- a choice has a mnemonic of the label

same_self : (op : Op) → is_same op op ≡ true
same_self op = eq-eqb (number op) (number op) refl

kept_too : {X : Type 0} (P : X → Type 0) (t : Bool) (x : X) (rest : List X) → P x → Each P rest
    → Each P (cond t (x ∷ rest) rest)
kept_too h e = grind arith

filtered : {X : Type 0} (P : X → Type 0) (q : X → Bool) (xs : List X) → Each P xs
    → Each P (filter q xs)
filtered P q [] a = tt
filtered P q (x ∷ xs) a = kept_too P (q x) x (filter q xs) a.0 (filtered P q xs a.1)

own_op : (isa : Isa) (op : Op) (constants : List ℤ)
    → Each (λ (c : ChoiceValue). c.op ≡ op) (choices isa op constants)
unfolding choices
own_op isa op constants =
    filtered (λ (c : ChoiceValue). c.op ≡ op) is_kept
    (flat_map (with_registers isa op constants) (registers isa.e (row op).form))
    (each_flat (with_registers isa op constants) (λ r. Unit {0}) (λ (c : ChoiceValue). c.op ≡ op)
    (λ r u. each_map (choice_of op r) (λ n. Unit {0}) (λ (c : ChoiceValue). c.op ≡ op) (λ n v. refl)
    (numbers isa op (row op).form constants (is_same_register r.rs1 r.rs2)) (each_any _))
    (registers isa.e (row op).form) (each_any (registers isa.e (row op).form)))

listed : (isa : Isa) (ops : List Op) (constants : List ℤ)
    → Each (λ (c : ChoiceValue). has_op ops c.op ≡ true) (all_choices isa ops constants)
listed isa [] constants = tt
listed isa (op ∷ ops) constants =
    each_append (λ (c : ChoiceValue). has_op (op ∷ ops) c.op ≡ true) (choices isa op constants)
    (all_choices isa ops constants)
    (each_then (λ (c : ChoiceValue). c.op ≡ op)
    (λ (c : ChoiceValue). has_op (op ∷ ops) c.op ≡ true)
    (λ c e. or_left (is_same c.op op) (has_op ops c.op)
    (ap (λ x. is_same x op) e ∙ same_self op)) (choices isa op constants)
    (own_op isa op constants))
    (each_then (λ (c : ChoiceValue). has_op ops c.op ≡ true)
    (λ (c : ChoiceValue). has_op (op ∷ ops) c.op ≡ true)
    (λ c h. or_right (is_same c.op op) (has_op ops c.op) h) (all_choices isa ops constants)
    (listed isa ops constants))

-- ---- what a choice hits, an instruction with more facts hits

more_true : (t u : Table) (f : Formula) → Extends t u → expr.holds t f ≡ true
    → expr.holds u f ≡ true
more_true t u f e h = ap is_true ((truth-more t u e f).same true (defined (truth t f) h)) where
  defined : (o : Option Bool) → is_true o ≡ true → o ≡ Some true
  defined None h = cc
  defined (Some true) h = refl
  defined (Some false) h = cc

same_field : (k : Kind) (c : ChoiceValue) (v1 v2 : ℕ)
    → field_of k (table_of c) ≡ field_of k (facts_of (fields_of c) v1 v2)
same_field k c v1 v2 = grind arith

meant_more : (k : Kind) (m : Meaning) (c : ChoiceValue) (v1 v2 : ℕ)
    → Extends (table_of c) (facts_of (fields_of c) v1 v2) → is_meant k m c.op (table_of c) ≡ true
    → is_meant k m c.op (facts_of (fields_of c) v1 v2) ≡ true
meant_more k m c v1 v2 e h = search (rules, same_field, more_true)

-- ---- a case that was hit keeps its claim

head_is : (x y : Option Fields) (xs ys : List (Option Fields)) → x ∷ xs ≡ y ∷ ys → x ≡ y
head_is x y xs ys h = cc

rest_is : (x y : Option Fields) (xs ys : List (Option Fields)) → x ∷ xs ≡ y ∷ ys → xs ≡ ys
rest_is x y xs ys h = cc

none_more : (es : List Executed) → insns_of es ≡ [] → es ≡ []
none_more [] h = refl
none_more (e ∷ es) h = cc

single_hits : (memory : Memory) (l : Label) (p : groups.Point) (m : Meaning) (e : Executed)
    (more : List Executed)
    (outcome : ℕ × ℕ) → IsSingle m → HitsAlone memory l p e more outcome
    → HitsAs memory l p m e more outcome
single_hits memory l p m e more outcome single h = grind arith

-- a choice is one instruction
by_choice : (isa : Isa) (l : Label) (image : ImageValue) (o : Outcome) (j k : ℕ)
    (c : ChoiceValue) (p : groups.Point) → slice_get l.points k ≡ Some p → IsSingle p.meaning
    → first_choice isa l.ops p.kind p.meaning ≡ Some c → IsHit image isa o j (One c)
    → IsClaimed isa l image o (record { case = j; point = k })
by_choice isa l image o j k c p at single found i =
    let e = i.entry in
    let whole : insn_of_word e.word ∷ insns_of i.more ≡ Some (fields_of c) ∷ [] = i.window in
    record {
      point = p;
      is = at;
      at = i.at;
      symbol = i.symbol;
      entry = e;
      more = i.more;
      only = i.only;
      hit = single_hits isa.memory l p p.meaning e i.more (words_of_case image isa o j) single
          (record {
            alone =
                none_more i.more
                (rest_is (insn_of_word e.word) (Some (fields_of c)) (insns_of i.more) [] whole);
            insn = fields_of c;
            decoded = head_is (insn_of_word e.word) (Some (fields_of c)) (insns_of i.more) [] whole;
            hit =
                and_from (has_op l.ops c.op)
                (points.holds p c.op (facts_of (fields_of c) e.v1 e.v2))
                (found_each (hits p.kind p.meaning) (λ (x : ChoiceValue). has_op l.ops x.op ≡ true)
                (all_choices isa l.ops (constants_of p.meaning)) c
                (listed isa l.ops (constants_of p.meaning)) found)
                (meant_more p.kind p.meaning c e.v1 e.v2 i.facts
                (found_hits (hits p.kind p.meaning)
                (all_choices isa l.ops (constants_of p.meaning)) c found));
            left = λ t. (i.first t, i.second t);
          });
    }

-- instructions one after the other match the cross point
by_window : (isa : Isa) (l : Label) (image : ImageValue) (o : Outcome) (j k : ℕ)
    (is : List Fields) (p : groups.Point) (ps : List Place) → slice_get l.points k ≡ Some p
    → p.meaning ≡ window ps → first_sequence isa ps ≡ Some is → IsHit image isa o j (Many is)
    → IsClaimed isa l image o (record { case = j; point = k })
by_window isa l image o j k is p ps at means found i =
    let e = i.entry in
    let outcome = words_of_case image isa o j in
    let together : HitsTogether ps e i.more outcome = record {
      insns = is;
      decoded = i.window;
      hit = (sequence_solves isa ps is found).matching;
      left = λ t. (i.first t, i.second t);
    } in
    record {
      point = p;
      is = at;
      at = i.at;
      symbol = i.symbol;
      entry = e;
      more = i.more;
      only = i.only;
      hit = subst (λ (m : Meaning). HitsAs isa.memory l p m e i.more outcome) (sym means) together;
    }

claimed_one : (isa : Isa) (l : Label) (image : ImageValue) (o : Outcome) (j k : ℕ) (s : Solved)
    → first_at isa l k ≡ Some s → IsHit image isa o j s
    → IsClaimed isa l image o (record { case = j; point = k })
claimed_one isa l image o j k s h hit =
    elim (first_is isa l k s h) [
      | inl f ↦ by_choice isa l image o j k f.choice f.point f.at f.single f.found
          (subst (IsHit image isa o j) (sym f.is) hit)
      | inr f ↦ by_window isa l image o j k f.insns f.point f.places f.at f.means f.found
          (subst (IsHit image isa o j) (sym f.is) hit)
    ]

hit_more : (isa : Isa) (l : Label) (image : ImageValue) (o : Outcome) (j k : ℕ) (cs : List Solved)
    (ks : List ℕ) (s : Option Solved) → first_at isa l k ≡ s
    → ((j : ℕ) → AreHit image isa o j cs → Each (IsClaimed isa l image o) (numbered j ks))
    → AreHit image isa o j (option_to_list s ++ cs)
    → Each (IsClaimed isa l image o) (numbered j (cond (is_some s) (k ∷ ks) ks))
hit_more isa l image o j k cs ks None h rest a = rest j a
hit_more isa l image o j k cs ks (Some s) h rest a = search (rules, claimed_one)

claimed_each : (isa : Isa) (l : Label) (image : ImageValue) (o : Outcome) (ks : List ℕ) (j : ℕ)
    → AreHit image isa o j (cases_among isa l ks)
    → Each (IsClaimed isa l image o) (numbered j (solved_among isa l ks))
claimed_each isa l image o [] j a = tt
claimed_each isa l image o (k ∷ ks) j a = grind (arith, hit_more, (claimed_each isa l image o ks))

all_claimed : (isa : Isa) (l : Label) (image : ImageValue) (o : Outcome)
    → AreHit image isa o 0 (cases_of isa l) → All (IsClaimed isa l image o) (claims_of isa l)
unfolding cases_of claims_of
all_claimed isa l image o a =
    all_from_each (IsClaimed isa l image o) (numbered 0 (solved_among isa l (places l)))
    (claimed_each isa l image o (places l) 0 a)

-- ---- the test of a label runs

named_each : (l : Label) (ds : List Claim)
    → length (map (λ (c : Claim). named_at l c.point) ds) ≡ length ds
named_each l [] = refl
named_each l (d ∷ ds) = simp (length, map, (named_each l ds))

pub points_same : (isa : Isa) (l : Label)
    → length (map (λ (c : Claim). named_at l c.point) (claims_of isa l)) ≡ length (cases_of isa l)
points_same isa l = named_each l (claims_of isa l) ∙ claims_same isa l

pub label_test : (isa : Isa) → HasRoom isa.memory → (l : Label) → IsValid isa l
    → FitsRegions isa (cases_of isa l)
    → IsTest isa l.name (map (λ (c : Claim). named_at l c.point) (claims_of isa l)) (cases_of isa l)
label_test isa room l v fits =
    grind (arith, cases_few, points_same, name_text, points_text, cases_ready)

pub label_runs : (isa : Isa) → HasRoom isa.memory → (l : Label) → IsValid isa l
    → FitsRegions isa (cases_of isa l)
    → TestRuns isa l
    (test_text l.name isa (map (λ (c : Claim). named_at l c.point) (claims_of isa l))
    (cases_of isa l))
    (claims_of isa l) (step_limit (cases_of isa l))
label_runs isa room l v fits =
    let cs = cases_of isa l in
    let ps = map (λ (c : Claim). named_at l c.point) (claims_of isa l) in
    let test = label_test isa room l v fits in
    let r = tests_run isa l.name ps cs test in
    record {
      image = r.image;
      assembles = r.assembles;
      header = r.limit;
      most = omega (arith, steps_high isa cs test.choices, test.few);
      runs = λ n h.
          let w = r.runs n h in
          record {
            halts = w.halts;
            steps = w.steps;
            words = w.words ∙ ap (λ x. 2 * x) (sym (claims_same isa l));
            claimed = all_claimed isa l r.image _ w.cases;
          };
    }

-- the same with what the code holds
pub runs_there : (isa : Isa) → HasRoom isa.memory → (l : Label) → IsValid isa l
    → FitsRegions isa (cases_of isa l)
    → (text : List ℕ) (ds : List Claim) (cs : List Solved) (n : ℕ) → ds ≡ claims_of isa l
    → cs ≡ cases_of isa l → n ≡ step_limit cs
    → text ≡ test_text l.name isa (map (λ (c : Claim). named_at l c.point) ds) cs
    → TestRuns isa l text ds n
runs_there isa room l v fits text ds cs n hd hc hn h =
    let whole =
    test_text l.name isa (map (λ (c : Claim). named_at l c.point) (claims_of isa l))
    (cases_of isa l) in
    let t : text ≡ whole =
    h ∙ ap (λ x. test_text l.name isa (map (λ (c : Claim). named_at l c.point) x) cs) hd
    ∙ ap (test_text l.name isa (map (λ (c : Claim). named_at l c.point) (claims_of isa l)))
    hc in
    let P : List ℕ → Type 0 = λ x. TestRuns isa l x ds n in
    let Q : List Claim → Type 0 = λ x. TestRuns isa l whole x n in
    let R : ℕ → Type 0 = λ m. TestRuns isa l whole (claims_of isa l) m in
    subst P (sym t)
    (subst Q (sym hd) (subst R (sym (hn ∙ ap step_limit hc)) (label_runs isa room l v fits)))

-- ---- each point is accounted for

there : {X : Type 0} (xs : List X) (x y : X) → Contains xs x → Contains (y ∷ xs) x
there xs x y (k, h, at) = (suc k, omega arith, at)

here_or : {X : Type 0} (t : Bool) (y x : X) (o : Option X) (ys : List X)
    → cond t (Some y) o ≡ Some x → (o ≡ Some x → Contains ys x) → Contains (y ∷ ys) x
here_or h y = search (rules, there)

found_there : {X : Type 0} (p : X → Bool) (xs : List X) (x : X) → find p xs ≡ Some x → Contains xs x
found_there p [] x h = cc
found_there p (y ∷ ys) x h = here_or (p y) y x (find p ys) ys h (found_there p ys x)

single_solvable : (isa : Isa) (ops : List Op) (k : Kind) (m : Meaning) → IsSingle m
    → Solvable isa ops k m → IsSolvableAs isa ops k m
single_solvable isa ops k m single h = grind arith

by_first : (isa : Isa) (l : Label) (k : ℕ) (s : Solved) → IsFirst isa l k s → IsSolvableAt isa l k
by_first isa l k s f = grind (arith, single_solvable, found_there, found_hits)

by_first_window : (isa : Isa) (l : Label) (k : ℕ) (s : Solved) → IsFirstWindow isa l k s
    → IsSolvableAt isa l k
by_first_window isa l k s f =
    let whole = sequence_solves isa f.places f.insns f.found in
    let solves : cross.Solvable isa f.places =
    record { insns = f.insns; computing = whole.computing; matching = whole.matching } in
    record {
      point = f.point;
      is = f.at;
      solvable =
          subst (λ (m : Meaning). IsSolvableAs isa l.ops f.point.kind m) (sym f.means) solves;
    }

solvable : (isa : Isa) (l : Label) (k : ℕ) (s : Solved) → first_at isa l k ≡ Some s
    → IsSolvableAt isa l k
solvable isa l k s h =
    elim (first_is isa l k s h) [
      | inl f ↦ by_first isa l k s f
      | inr f ↦ by_first_window isa l k s f
    ]

none_first : {A : Type 0} (f : A → Solved) (o : Option A) → option_map f o ≡ None → o ≡ None
none_first f = grind arith

nothing_meant : (isa : Isa) (ops : List Op) (k : Kind) (m : Meaning)
    → first_meant isa ops k m ≡ None → IsSolvableAs isa ops k m → ⊥
nothing_meant isa ops k (window ps) h w =
    nothing_solves isa ps (none_first Many (first_sequence isa ps) h) w
nothing_meant isa ops k (op_is op) h w =
    nothing_hits isa ops k (op_is op) (none_first One (first_choice isa ops k (op_is op)) h) w
nothing_meant isa ops k (reg_is n) h w =
    nothing_hits isa ops k (reg_is n) (none_first One (first_choice isa ops k (reg_is n)) h) w
nothing_meant isa ops k (regs f) h w =
    nothing_hits isa ops k (regs f) (none_first One (first_choice isa ops k (regs f)) h) w
nothing_meant isa ops k (nums f) h w =
    nothing_hits isa ops k (nums f) (none_first One (first_choice isa ops k (nums f)) h) w

not_solvable : (isa : Isa) (l : Label) (k : ℕ) → first_at isa l k ≡ None → IsSolvableAt isa l k → ⊥
not_solvable isa l k h w =
    nothing_meant isa l.ops w.point.kind w.point.meaning
    (sym (ap (option_and_then (first_of_point isa l)) w.is) ∙ h) w.solvable

in_range : (a n k : ℕ) → k < n → Contains (range_with_len a n) (a + k)
in_range a zero k h = absurd (omega arith)
in_range a (suc n) zero h = let e : a ≡ a + 0 = omega arith in (0, omega arith, e)
in_range a (suc n) (suc k) h = grind (arith, suc, there, (in_range (a + 1) n k (omega arith)))

kept_here : (t : Bool) (k : ℕ) (rest : List ℕ) → t ≡ true → Contains (cond t (k ∷ rest) rest) k
kept_here t k rest h = grind arith

kept_there : (t : Bool) (x k : ℕ) (rest : List ℕ) → Contains rest k
    → Contains (cond t (x ∷ rest) rest) k
kept_there true x k rest h = there rest k x h
kept_there false x k rest h = h

-- a member that passes a test is among those that pass
pub in_filter : (q : ℕ → Bool) (xs : List ℕ) (k : ℕ) → Contains xs k → q k ≡ true
    → Contains (filter q xs) k
in_filter q [] k (i, h, at) t = absurd (omega arith)
in_filter q (x ∷ xs) k (zero, h, at) t = grind (arith, kept_here)
in_filter q (x ∷ xs) k (suc i, h, at) t =
    kept_there (q x) x k (filter q xs) (in_filter q xs k (i, omega arith, at) t)

in_numbered : (ks : List ℕ) (j k : ℕ) → Contains ks k
    → (c : Claim) × Contains (numbered j ks) c × (c.point ≡ k)
in_numbered [] j k (i, h, at) = absurd (omega arith)
in_numbered (x ∷ ks) j k (zero, h, at) =
    (record { case = j; point = x }, (0, omega arith, refl), at)
in_numbered (x ∷ ks) j k (suc i, h, at) =
    grind (arith, there, (in_numbered ks (j + 1) k (i, omega arith, at)))

place_there : (l : Label) (k : ℕ) → k < length l.points → Contains (places l) k
place_there l k h =
    let P : ℕ → Type 0 = λ m. Contains (places l) m in let e : 0 + k ≡ k = omega arith in
    subst P e (in_range 0 (length l.points) k h)

account : (isa : Isa) (l : Label) (k : ℕ) (o : Option Solved) → first_at isa l k ≡ o
    → k < length l.points → IsAccounted isa l (claims_of isa l) (unsolved_of isa l) k
unfolding claims_of unsolved_of
account isa l k None e h =
    inl (
      in_filter (λ n. not (is_solved isa l n)) (places l) k (place_there l k h)
          (ap (λ x. not (is_some x)) e),
      not_solvable isa l k e,
    )
account isa l k (Some s) e h =
    let r =
    in_numbered (solved_among isa l (places l)) 0 k
    (in_filter (is_solved isa l) (places l) k (place_there l k h) (ap is_some e)) in
    inr (r.0, r.1, r.2, solvable isa l k s e)

pub accounted : (isa : Isa) (l : Label) (k : ℕ) → k < length l.points
    → IsAccounted isa l (claims_of isa l) (unsolved_of isa l) k
accounted isa l k h = account isa l k (first_at isa l k) refl h

-- ---- what is left, no choice hits

passed_test : (t : Bool) (x k : ℕ) (rest : List ℕ) (q : ℕ → Bool) → q x ≡ t
    → (Contains rest k → q k ≡ true) → Contains (cond t (x ∷ rest) rest) k → q k ≡ true
passed_test t x k rest q e h a = grind arith

out_of_filter : (q : ℕ → Bool) (xs : List ℕ) (k : ℕ) → Contains (filter q xs) k → q k ≡ true
out_of_filter q [] k (i, h, at) = absurd (omega arith)
out_of_filter q (x ∷ xs) k a = passed_test (q x) x k (filter q xs) q refl (out_of_filter q xs k) a

none_solved : (o : Option Solved) → not (is_some o) ≡ true → o ≡ None
none_solved o h = grind arith

pub left_unsolvable : (isa : Isa) (l : Label) (k : ℕ) → Contains (unsolved_of isa l) k
    → IsSolvableAt isa l k → ⊥
unfolding unsolved_of
left_unsolvable isa l k a =
    not_solvable isa l k
    (none_solved (first_at isa l k) (out_of_filter (λ n. not (is_solved isa l n)) (places l) k a))
