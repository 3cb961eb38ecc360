-- What the first instructions are, and that there are some wherever instructions that compute
-- match.
use Rattle.std.proofs.Common.{◌≡◌, ℕ, zero, suc, ◌<◌, Bool, true, false, cond, List, [], ◌∷◌}
use Rattle.std.proofs.Common.{length, get_or, ◌⊎◌, inl, inr, Option, Some, None, refl, sym, ap, ◌∙◌}
use Rattle.std.proofs.Common.{subst, arith}
use Rattle.std.specs.Prelude.{ℤ, pos, find, filter, All, Contains, Result, IfOk, IfSome}
use Rattle.std.specs.Prelude.{IfNone}
use Rattle.rvs_base.specs.declared.memory_refusal.NoMemory.{NoMemory}
use Rattle.std.specs.List.{list_any, range_with_len}
use Rattle.std.proofs.lemmas.Bool.{eqb-true, and_parts, and_from}
use Rattle.rvs_insn.specs.declared.op.Op.{Op}
use Rattle.rvs_insn.specs.declared.op.Format.{Format}
use Rattle.rvs_insn.specs.declared.op.Format.TheVariants.{R, I, Shift}
use Rattle.rvs_insn.specs.Isa.{Isa}
use Rattle.rvs_insn.specs.Table.{row, all_ops}
use Rattle.rvs_insn.specs.Names.{is_admitted_op}
use Rattle.rvs_insn.specs.Fields.{Fields}
use Rattle.rvs_facts.specs.Mnemonics.{number, is_same}
use Rattle.rvs_facts.proofs.Places.{same_number}
use Rattle.rvs_cross.specs.declared.cross.Variable.{Variable}
use Rattle.rvs_cross.specs.declared.cross.Variable.TheVariants.{First, Second, Third}
use Rattle.rvs_cross.specs.declared.cross.Field.{Field}
use Rattle.rvs_cross.specs.declared.cross.Field.TheVariants.{Rd, Rs1, Rs2}
use Rattle.rvs_cross.specs.Cross.{Place}
use Rattle.rvs_cross.specs.Windows.{Values, value_of, register_in, is_listed, fits, all_fit}
use Rattle.rvs_cross.specs.Windows.{is_used, says_of, choices_for, values_among, matches}
use Rattle.rvs_cross.specs.Assigned.{assigned_field, register_by, assigned_in, assigned}
use Rattle.rvs_sequences.specs.Sequences.{middle_registers, middle, at_rs1, at_rd, over_registers}
use Rattle.rvs_sequences.specs.Sequences.{in_format, insns_of, listed, candidates, solution, onto}
use Rattle.rvs_sequences.specs.Sequences.{solutions, assignments, first_of, first_solutions}
use Rattle.rvs_sequences.specs.Sequences.{first_sequence, IsComputing, Solvable}
use Rattle.rvs_cross.proofs.Members.{In, in_any, any_in, map_in, in_flat, flat_in}
use Rattle.rvs_cross.proofs.Turns.{some_of}
use Rattle.rvs_cross.proofs.Binding.{next, bound_where_used, in_values, values_in}

-- ---- lists

pub in_contains : {X : Type 0} (x : X) (xs : List X) → In x xs → Contains xs x
in_contains x [] i = absurd i
in_contains x (y ∷ ys) (inl e) = (0, omega arith, e)
in_contains x (y ∷ ys) (inr i) = let c = in_contains x ys i in
    (suc c.0, omega arith, c.2)

pub contains_in : {X : Type 0} (x : X) (xs : List X) (k : ℕ) → k < length xs → get_or xs k x ≡ x
    → In x xs
contains_in x [] k h e = absurd (omega arith)
contains_in x (y ∷ ys) zero h e = inl e
contains_in x (y ∷ ys) (suc k) h e = inr (contains_in x ys k (omega arith) e)

in_picked : {X : Type 0} (t : Bool) (x y : X) (rest : List X) → In x (cond t (y ∷ rest) rest)
    → ((t ≡ true) × (y ≡ x)) ⊎ In x rest
in_picked h = grind arith

pub filter_in : {X : Type 0} (q : X → Bool) (x : X) (xs : List X) → In x (filter q xs)
    → (q x ≡ true) × In x xs
filter_in q x [] i = absurd i
filter_in q x (y ∷ ys) i =
    elim (in_picked (q y) x y (filter q ys) i) [
      | inl p ↦ (ap q (sym p.1) ∙ p.0, inl p.1)
      | inr j ↦ let r = filter_in q x ys j in (r.0, inr r.1)
    ]

kept_in : {X : Type 0} (t : Bool) (x y : X) (rest : List X) → In x rest
    → In x (cond t (y ∷ rest) rest)
kept_in h = grind arith

first_in : {X : Type 0} (t : Bool) (x y : X) (rest : List X) → t ≡ true → y ≡ x
    → In x (cond t (y ∷ rest) rest)
first_in h x = grind arith

pub in_filter : {X : Type 0} (q : X → Bool) (x : X) (xs : List X) → q x ≡ true → In x xs
    → In x (filter q xs)
in_filter q x [] h i = absurd i
in_filter q x (y ∷ ys) h (inl e) = first_in (q y) x y (filter q ys) (ap q e ∙ h) e
in_filter q x (y ∷ ys) h (inr i) = kept_in (q y) x y (filter q ys) (in_filter q x ys h i)

found_first : {X : Type 0} (t : Bool) (x y : X) (o : Option X) → cond t (Some y) o ≡ Some x
    → ((t ≡ true) × (y ≡ x)) ⊎ (o ≡ Some x)
found_first h = grind arith

pub find_in : {X : Type 0} (q : X → Bool) (x : X) (xs : List X) → find q xs ≡ Some x
    → (q x ≡ true) × In x xs
find_in q x [] e = cc
find_in q x (y ∷ ys) e =
    elim (found_first (q y) x y (find q ys) e) [
      | inl p ↦ (ap q (sym p.1) ∙ p.0, inl p.1)
      | inr f ↦ let r = find_in q x ys f in (r.0, inr r.1)
    ]

not_first : {X : Type 0} (t : Bool) (y : X) (o : Option X) → cond t (Some y) o ≡ None
    → (t ≡ false) × (o ≡ None)
not_first h = grind arith

pub not_found : {X : Type 0} (q : X → Bool) (x : X) (xs : List X) → In x xs → q x ≡ true
    → find q xs ≡ None → ⊥
not_found q x [] i h e = i
not_found q x (y ∷ ys) (inl is) h e =
    let n = (not_first (q y) y (find q ys) e).0 in
    let t : q y ≡ true = ap q is ∙ h in cc
not_found q x (y ∷ ys) (inr i) h e =
    not_found q x ys i h (not_first (q y) y (find q ys) e).1

-- ---- instructions that compute

pub record Over (op : Op) (rds rs1s rs2s : List (Option ℕ)) (i : Fields) : Type 0 where
  pub op_is : i.op ≡ op
  pub rd : In i.rd rds
  pub rs1 : In i.rs1 rs1s
  pub rs2 : In i.rs2 rs2s

over_in : (op : Op) (imm : Option ℤ) (rds rs1s rs2s : List (Option ℕ)) (i : Fields)
    → In i (over_registers op imm rds rs1s rs2s) → Over op rds rs1s rs2s i
unfolding over_registers
over_in op imm rds rs1s rs2s i m =
    let d = flat_in (at_rd op imm rs1s rs2s) rds i m in
    let s = flat_in (at_rs1 op imm rs2s d.item) rs1s i d.inner in
    let t = map_in (λ t. record { op = op; rd = d.item; rs1 = s.item; rs2 = t; imm = imm }) rs2s i
    s.inner in
    let P : Fields → Type 0 = λ j. Over op rds rs1s rs2s j in
    subst P t.is (record { op_is = refl; rd = d.among; rs1 = s.among; rs2 = t.among })

-- its mnemonic, and its registers
pub record Middle (op : Op) (i : Fields) : Type 0 where
  pub op_is : i.op ≡ op
  pub registers : (f : Field) (r : ℕ) → register_in i f ≡ Some r → In r middle_registers

number_in : (o : Option ℕ) (r : ℕ) → In o middle → o ≡ Some r → In r middle_registers
number_in o r i e = grind (arith, map_in)

no_number : (o : Option ℕ) (r : ℕ) → In o (None ∷ []) → o ≡ Some r → ⊥
no_number o r (inl e) h = let n : None ≡ Some r = e ∙ h in cc
no_number o r (inr i) h = i

two_middle : (op : Op) (i : Fields) → Over op middle middle middle i → Middle op i
two_middle op i o = record { op_is = o.op_is; registers = at } where
  at : (f : Field) (r : ℕ) → register_in i f ≡ Some r → In r middle_registers
  at Rd r e = number_in i.rd r o.rd e
  at Rs1 r e = number_in i.rs1 r o.rs1 e
  at Rs2 r e = number_in i.rs2 r o.rs2 e

one_middle : (op : Op) (i : Fields) → Over op middle middle (None ∷ []) i → Middle op i
one_middle op i o = grind (arith, number_in, no_number)

form_middle : (form : Format) (op : Op) (i : Fields) → In i (in_format form op) → Middle op i
form_middle R op i m = two_middle op i (over_in op None middle middle middle i m)
form_middle I op i m =
    one_middle op i (over_in op (Some (pos 1)) middle middle (None ∷ []) i m)
form_middle Shift op i m =
    one_middle op i (over_in op (Some (pos 1)) middle middle (None ∷ []) i m)
form_middle _ op i m = absurd m

pub insn_middle : (op : Op) (i : Fields) → In i (insns_of op) → Middle op i
unfolding insns_of
insn_middle op i m = form_middle (row op).form op i m

pub computing_in : (s : Isa) (i : Fields) → IsComputing s i → In i (insns_of i.op)
computing_in s i c = contains_in i (insns_of i.op) c.among.0 c.among.1 c.among.2

candidate_computes : (s : Isa) (p : Place) (i : Fields) → In i (candidates s p) → IsComputing s i
candidate_computes s p i m =
    let o = flat_in insns_of (filter (is_admitted_op s) (listed p.ops)) i m in
    let f = filter_in (is_admitted_op s) o.item (listed p.ops) o.among in
    let is : o.item ≡ i.op = sym (insn_middle o.item i o.inner).op_is in
    record {
      admitted = ap (is_admitted_op s) (sym is) ∙ f.0;
      among = in_contains i (insns_of i.op)
          (subst (λ (op : Op). In i (insns_of op)) is o.inner);
    }

listed_all : (op : Op) → list_any (λ o. is_same o op) all_ops ≡ true
listed_all op = grind arith

in_listed : (ops : Option (List Op)) (op : Op) → is_listed ops op ≡ true → In op (listed ops)
unfolding listed
in_listed None op h = let p = any_in (λ o. is_same o op) all_ops (listed_all op) in
    subst (λ (o : Op). In o all_ops)
    (same_number p.item op (eqb-true (number p.item) (number op) p.passes)) p.among
in_listed (Some ops) op h = let p = any_in (λ o. is_same o op) ops h in
    subst (λ (o : Op). In o ops)
    (same_number p.item op (eqb-true (number p.item) (number op) p.passes)) p.among

has_solution : (s : Isa) (v : Values) (p : Place) (i : Fields) → IsComputing s i
    → fits v p i ≡ true → solution s v p ≡ None → ⊥
has_solution s v p i c h e =
    not_found (fits v p) i (candidates s p)
    (in_flat insns_of i.op i (filter (is_admitted_op s) (listed p.ops))
    (in_filter (is_admitted_op s) i.op (listed p.ops) c.admitted
    (in_listed p.ops i.op (and_parts (is_listed p.ops i.op) _ h).0))
    (computing_in s i c)) h e

-- ---- instructions of all places

abbrev pub Each : {X : Type 0} → (X → Type 0) → List X → Type 0
Each P [] = Unit {0}
Each P (x ∷ xs) = P x × Each P xs

pub all_from_each : {X : Type 0} (P : X → Type 0) (xs : List X) → Each P xs → All P xs
all_from_each P [] a k d h = absurd (omega arith)
all_from_each P (x ∷ xs) a zero d h = a.0
all_from_each P (x ∷ xs) a (suc k) d h = all_from_each P xs a.1 k d (omega arith)

pub each_from_all : {X : Type 0} (P : X → Type 0) (xs : List X) → All P xs → Each P xs
each_from_all P [] a = tt
each_from_all P (x ∷ xs) a =
    (a 0 x (omega arith), each_from_all P xs (λ k d h. a (suc k) d (omega arith)))

pub record Solves (s : Isa) (v : Values) (ps : List Place) (is : List Fields) : Type 0 where
  pub count : length is ≡ length ps
  pub computing : Each (IsComputing s) is
  pub fit : all_fit v ps (some_of is) ≡ true

record Parts (o : Option Fields) (r : Option (List Fields)) (is : List Fields) : Type 0 where
  head : Fields
  tail : List Fields
  head_is : o ≡ Some head
  tail_is : r ≡ Some tail
  whole_is : head ∷ tail ≡ is

onto_some : (o : Option Fields) (r : Option (List Fields)) (is : List Fields) → onto o r ≡ Some is
    → Parts o r is
onto_some o r is e = grind arith

pub solved : (s : Isa) (v : Values) (ps : List Place) (is : List Fields)
    → solutions s v ps ≡ Some is → Solves s v ps is
solved s v [] is e = grind arith
solved s v (p ∷ ps) is e =
    let parts = onto_some (solution s v p) (solutions s v ps) is e in
    let one = find_in (fits v p) parts.head (candidates s p) parts.head_is in
    let others = solved s v ps parts.tail parts.tail_is in
    let P : List Fields → Type 0 = λ js. Solves s v (p ∷ ps) js in
    subst P parts.whole_is (record {
      count = ap (λ n. suc n) others.count;
      computing = (candidate_computes s p parts.head one.1, others.computing);
      fit = and_from (fits v p parts.head) (all_fit v ps (some_of parts.tail)) one.0 others.fit;
    })

onto_none : (o : Option Fields) (r : Option (List Fields)) → onto o r ≡ None
    → (o ≡ None) ⊎ (r ≡ None)
onto_none o r e = grind arith

pub have_solutions : (s : Isa) (v : Values) (ps : List Place) (is : List Fields)
    → Each (IsComputing s) is → all_fit v ps (some_of is) ≡ true → solutions s v ps ≡ None → ⊥
have_solutions s v [] is c h e = cc
have_solutions s v (p ∷ ps) [] c h e = cc
have_solutions s v (p ∷ ps) (i ∷ is) c h e =
    let parts = and_parts (fits v p i) (all_fit v ps (some_of is)) h in
    elim (onto_none (solution s v p) (solutions s v ps) e) [
      | inl o ↦ has_solution s v p i c.0 parts.0 o
      | inr r ↦ have_solutions s v ps is c.1 parts.1 r
    ]

-- ---- over values

pub record FirstAt (s : Isa) (ps : List Place) (vs : List Values) (is : List Fields) : Type 0 where
  pub values : Values
  pub among : In values vs
  pub found : solutions s values ps ≡ Some is

of_some : (a b : Option (List Fields)) (is : List Fields) → first_of a b ≡ Some is
    → (a ≡ Some is) ⊎ (b ≡ Some is)
of_some a b is e = grind arith

pub first_at : (s : Isa) (ps : List Place) (vs : List Values) (is : List Fields)
    → first_solutions s ps vs ≡ Some is → FirstAt s ps vs is
first_at s ps [] is e = cc
first_at s ps (v ∷ vs) is e =
    elim (of_some (solutions s v ps) (first_solutions s ps vs) is e) [
      | inl h ↦ record { values = v; among = inl refl; found = h }
      | inr h ↦ let f = first_at s ps vs is h in
          record { values = f.values; among = inr f.among; found = f.found }
    ]

of_none : (a b : Option (List Fields)) → first_of a b ≡ None → (a ≡ None) × (b ≡ None)
of_none a b e = grind arith

pub none_at : (s : Isa) (ps : List Place) (v : Values) (vs : List Values) → In v vs
    → first_solutions s ps vs ≡ None → solutions s v ps ≡ None
none_at s ps v [] i e = absurd i
none_at s ps v (w ∷ vs) (inl h) e = grind (arith, of_none)
none_at s ps v (w ∷ vs) (inr i) e =
    none_at s ps v vs i (of_none (solutions s w ps) (first_solutions s ps vs) e).1

-- ---- what is found

wider : (used : Bool) (o : Option ℕ) → In o (choices_for middle_registers used)
    → In o (choices_for (range_with_len 0 32) used)
wider used o i = grind arith

pub record Whole (s : Isa) (ps : List Place) (is : List Fields) : Type 0 where
  pub count : length is ≡ length ps
  pub computing : All (IsComputing s) is
  pub matching : matches ps (some_of is) ≡ true

pub sequence_solves : (s : Isa) (ps : List Place) (is : List Fields)
    → first_sequence s ps ≡ Some is → Whole s ps is
unfolding first_sequence matches
sequence_solves s ps is e =
    let f = first_at s ps (assignments ps) is e in
    let all = solved s f.values ps is f.found in
    let a = values_in middle_registers ps f.values f.among in
    record {
      count = all.count;
      computing = all_from_each (IsComputing s) is all.computing;
      matching = in_any (λ v. all_fit v ps (some_of is)) f.values
          (values_among (range_with_len 0 32) ps)
          (in_values (range_with_len 0 32) ps f.values (record {
            first = wider (is_used ps First) f.values.first a.first;
            second = wider (is_used ps Second) f.values.second a.second;
            third = wider (is_used ps Third) f.values.third a.third;
          })) all.fit;
    }

-- ---- that it is found

field_middle : (s : Isa) (i : Fields) (o : Option Field) (r : ℕ) → IsComputing s i
    → register_by i o ≡ Some r → In r middle_registers
field_middle s i None r c e = cc
field_middle s i (Some f) r c e = (insn_middle i.op i (computing_in s i c)).registers f r e

either_found : (b : Bool) (here after : Option ℕ) (r : ℕ) → next b here after ≡ Some r
    → (here ≡ Some r) ⊎ (after ≡ Some r)
either_found b here after r e = grind arith

pub assigned_middle : (s : Isa) (x : Variable) (ps : List Place) (is : List Fields) (r : ℕ)
    → Each (IsComputing s) is → assigned x ps is ≡ Some r → In r middle_registers
assigned_middle s x [] is r c e = cc
assigned_middle s x (p ∷ ps) [] r c e = cc
assigned_middle s x (p ∷ ps) (i ∷ is) r c e =
    elim (either_found (says_of x p) (assigned_in x p.sets i) (assigned x ps is) r e) [
      | inl h ↦ field_middle s i (assigned_field x p.sets) r c.0 h
      | inr h ↦ assigned_middle s x ps is r c.1 h
    ]

narrower : (used : Bool) (o : Option ℕ) → In o (choices_for (range_with_len 0 32) used)
    → (used ≡ true → (r : ℕ) × (o ≡ Some r) × In r middle_registers)
    → In o (choices_for middle_registers used)
narrower used o i h = grind arith

one_narrower : (s : Isa) (v : Values) (x : Variable) (ps : List Place) (is : List Fields)
    → Each (IsComputing s) is → all_fit v ps (some_of is) ≡ true
    → In (value_of v x) (choices_for (range_with_len 0 32) (is_used ps x))
    → In (value_of v x) (choices_for middle_registers (is_used ps x))
one_narrower s v x ps is c fit i =
    narrower (is_used ps x) (value_of v x) i
    (λ u. let b = bound_where_used v x ps is fit u in
    (b.register, b.value_is, assigned_middle s x ps is b.register c b.found_is))

pub nothing_solves : (s : Isa) (ps : List Place) → first_sequence s ps ≡ None → Solvable s ps → ⊥
unfolding first_sequence matches
nothing_solves s ps e m =
    let c = each_from_all (IsComputing s) m.insns m.computing in
    let p = any_in (λ v. all_fit v ps (some_of m.insns)) (values_among (range_with_len 0 32) ps)
    m.matching in
    let a = values_in (range_with_len 0 32) ps p.item p.among in
    have_solutions s p.item ps m.insns c p.passes
    (none_at s ps p.item (assignments ps)
    (in_values middle_registers ps p.item (record {
      first = one_narrower s p.item First ps m.insns c p.passes a.first;
      second = one_narrower s p.item Second ps m.insns c p.passes a.second;
      third = one_narrower s p.item Third ps m.insns c p.passes a.third;
    })) e)

-- ---- the same of an answer

abbrev pub SolveResult : Type 0
SolveResult = Result (Option (List Fields)) NoMemory

ok_then : (P Q : Option (List Fields) → Type 0) → ((o : Option (List Fields)) → P o → Q o)
    → (r : SolveResult) → IfOk r P → IfOk r Q
ok_then P Q h r p = grind arith

some_then : (Q : List Fields → Type 0) (whole o : Option (List Fields))
    → ((is : List Fields) → whole ≡ Some is → Q is) → o ≡ whole → IfSome o Q
some_then Q whole o h e = grind arith

none_then : (N : Type 0) (whole o : Option (List Fields)) → (whole ≡ None → N) → o ≡ whole
    → IfNone o N
none_then N whole o h e = grind arith

pub answer_some : (s : Isa) (ps : List Place) (Q : List Fields → Type 0)
    → ((is : List Fields) → Whole s ps is → Q is) → (r : SolveResult)
    → IfOk r (λ o. o ≡ first_sequence s ps) → IfOk r (λ o. IfSome o Q)
answer_some s ps Q h r a =
    ok_then (λ o. o ≡ first_sequence s ps) (λ o. IfSome o Q)
    (λ o e. some_then Q (first_sequence s ps) o (λ is w. h is (sequence_solves s ps is w)) e) r a

pub answer_none : (s : Isa) (ps : List Place) (r : SolveResult)
    → IfOk r (λ o. o ≡ first_sequence s ps) → IfOk r (λ o. IfNone o (Solvable s ps → ⊥))
answer_none s ps r a =
    ok_then (λ o. o ≡ first_sequence s ps) (λ o. IfNone o (Solvable s ps → ⊥))
    (λ o e. none_then (Solvable s ps → ⊥) (first_sequence s ps) o (λ w. nothing_solves s ps w) e) r
    a
