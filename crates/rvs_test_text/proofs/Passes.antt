-- Printed statements in the two passes of the assembler: places, symbols and no fault.
use Rattle.std.proofs.Common.{◌≡◌, ℕ, ◌+◌, ◌/◌, ◌^◌, ◌<◌, Bool, true, []}
use Rattle.std.proofs.Common.{false, cond, List, ◌∷◌, ◌++◌, Option, Some, None}
use Rattle.std.proofs.Common.{Ok, refl, sym, ap, ◌∙◌, arith, subst, append_assoc, append-nil}
use Rattle.std.specs.Prelude.{ℤ, pos, map}
use Rattle.std.specs.Option.{option_or}
use Rattle.std.proofs.Common.{rules}
use Rattle.std.proofs.lemmas.Nat.{mod_below}
use Rattle.std.proofs.lemmas.Bool.{cases_lt}
use Rattle.std.proofs.lemmas.Bool.Decides.{nat_tests}
use Rattle.rvs_base.specs.Digits.{digits_of}
use Rattle.rvs_insn.specs.declared.op.Format.TheVariants.{I, Upper}
use Rattle.rvs_insn.specs.Isa.{Isa}
use Rattle.rvs_insn.specs.Table.{row}
use Rattle.rvs_insn.specs.Fields.{Fields}
use Rattle.rvs_insn.specs.Word.{AreOf, FitsBits, IsEncodable}
use Rattle.rvs_insn.specs.Names.{is_admitted}
use Rattle.rvs_asm_text.specs.declared.bodies.Line.{Line}
use Rattle.rvs_asm_text.specs.Instructions.{in_field}
use Rattle.rvs_asm_text.specs.Lines.{read_line}
use Rattle.rvs_asm.specs.declared.mark.Mark.{Mark}
use Rattle.rvs_asm.specs.declared.location.Location.{Location}
use Rattle.rvs_asm.specs.declared.refusal.AsmKind.TheVariants.{DoubleSymbol, OutOfRange}
use Rattle.rvs_asm.specs.Locations.{Reading, readings, goes_on, next, address}
use Rattle.rvs_asm.specs.Locations.{location_after}
use Rattle.rvs_asm.specs.Locations.{own_label, labels}
use Rattle.rvs_asm.specs.Bytes.{high, low, distance}
use Rattle.rvs_asm.specs.Faults.{body_fault, is_double, fault, at_line, first_fault, symbol_fault}
use Rattle.rvs_asm.specs.Faults.{second_fault, field_fault, label_fault}
use Rattle.rvs_test_text.specs.declared.statement.Name.{Name}
use Rattle.rvs_test_text.specs.declared.statement.Fixed.TheVariants.{NoRvc}
use Rattle.rvs_test_text.specs.declared.statement.Statement.{Statement}
use Rattle.rvs_test_text.specs.declared.statement.Statement.TheVariants.{Label, Plain, High, Low}
use Rattle.rvs_test_text.specs.declared.statement.Statement.TheVariants.{To}
use Rattle.rvs_test_text.specs.declared.statement.Statement.TheVariants.{Nops, Fixed as FixedLine}
use Rattle.rvs_test_text.specs.Statements.{name_of, printed, line_of, lui, addi}
use Rattle.rvs_test_text.proofs.WordLaws.{IsSmall}
use Rattle.rvs_test_text.proofs.KindLaws.{OwnFormat, LinkedFormat, plain_line, linked_line}
use Rattle.rvs_test_text.proofs.KindLaws.{high_line, low_line, nops_line}
use Rattle.rvs_test_text.proofs.WordLaws.{name_is}
use Rattle.rvs_test_text.proofs.Reading.{label_read}
use Rattle.rvs_test_text.proofs.Tables.{Marks, named, find_name, AllSmall, Lacks, found, named_join}
use Rattle.rvs_test_text.proofs.Tables.{small_join, lacks_mark}

-- ---- read lines
abbrev pub read_as : List Statement → List Reading
read_as [] = []
read_as (s ∷ ss) = Ok (line_of s) ∷ read_as ss

pub read_join : (xs ys : List Statement) → read_as (xs ++ ys) ≡ read_as xs ++ read_as ys
read_join [] ys = refl
read_join (x ∷ xs) ys = ap (λ l. Ok (line_of x) ∷ l) (read_join xs ys)

-- these texts, in this section, are read as these lines, and what follows stands in that section
pub record Reads (b : Bool) (ts : List (List ℕ)) (rs : List Reading) (b' : Bool) : Type 0 where
  pub reads : (us : List (List ℕ)) → readings b (ts ++ us) ≡ rs ++ readings b' us

pub none : {b : Bool} → Reads b [] [] b
none {b} = record { reads = λ us. refl }

pub cons : {b b' : Bool} {t : List ℕ} {ts : List (List ℕ)} {l : Line} {rs : List Reading}
    → read_line b t ≡ Ok l → Reads (goes_on b l.body) ts rs b' → Reads b (t ∷ ts) (Ok l ∷ rs) b'
cons {b} {b'} {t} {ts} {l} {rs} p q = grind (arith, Ok)

pub also : {b c d : Bool} {ts us : List (List ℕ)} {rs qs : List Reading} → Reads b ts rs c
    → Reads c us qs d → Reads b (ts ++ us) (rs ++ qs) d
also {b} {c} {d} {ts} {us} {rs} {qs} p q = grind (arith, append_assoc)

-- ---- statements of the text section
abbrev pub IsFine : Isa → Statement → Type 0
IsFine isa (Label n) = IsSmall n
IsFine isa (Plain i) = OwnFormat (row i.op).form × IsEncodable i × (is_admitted isa i ≡ true)
IsFine isa (High r n) = (r < 32) × IsSmall n × (is_admitted isa (lui r (pos 0)) ≡ true)
IsFine isa (Low r n) = (r < 32) × IsSmall n × (is_admitted isa (addi r r (pos 0)) ≡ true)
IsFine isa (To i n) =
    LinkedFormat (row i.op).form × (i.imm ≡ Some (pos 0)) × IsEncodable i
    × (is_admitted isa i ≡ true) × IsSmall n
IsFine isa (Nops n) = n < 2 ^ 32
IsFine isa (FixedLine f) = ⊥

abbrev pub AllFine : Isa → List Statement → Type 0
AllFine isa [] = Unit {0}
AllFine isa (s ∷ ss) = IsFine isa s × AllFine isa ss

pub fine_join : (isa : Isa) (xs ys : List Statement) → AllFine isa xs → AllFine isa ys
    → AllFine isa (xs ++ ys)
fine_join isa [] ys a b = b
fine_join isa (x ∷ xs) ys a b = (a.0, fine_join isa xs ys a.1 b)

pub fine_read : (isa : Isa) (s : Statement) → IsFine isa s
    → read_line true (printed s) ≡ Ok (line_of s)
fine_read isa (Label n) h = grind (arith, name_is, label_read, true)
fine_read isa (Plain i) h = plain_line i h.0 h.1
fine_read isa (High r n) h = high_line r (name_of n) h.0 (name_is n h.1)
fine_read isa (Low r n) h = low_line r (name_of n) h.0 (name_is n h.1)
fine_read isa (To i n) h =
    let P : Option ℤ → Type 0 =
    λ z. AreOf (row i.op).form i.rd i.rs1 i.rs2 z
    → (let j : Fields = record { op = i.op; rd = i.rd; rs1 = i.rs1; rs2 = i.rs2; imm = z } in
    read_line true (printed (To j n)) ≡ Ok (line_of (To j n))) in
    let base : P (Some (pos 0)) =
    λ a. linked_line i.op i.rd i.rs1 i.rs2 (name_of n) h.0 a (name_is n h.4) in
    subst P (sym h.1) base h.2
fine_read isa (Nops n) h = nops_line n h
fine_read isa (FixedLine f) h = absurd h

pub fine_goes_on : (isa : Isa) (s : Statement) → IsFine isa s → goes_on true (line_of s).body ≡ true
fine_goes_on isa s h = grind arith

pub all_read : (isa : Isa) (ss : List Statement) → AllFine isa ss
    → Reads true (map printed ss) (read_as ss) true
all_read isa [] h = none
all_read isa (s ∷ ss) h = grind (arith, cons, fine_read, true, fine_goes_on, (all_read isa ss h.1))

-- ---- places, wherever the lines begin
abbrev pub after : List Statement → Location → Location
after ss p = location_after (read_as ss) p

abbrev pub own_marks : Location → Statement → Marks
own_marks p (Label n) = (n, record { at = address p; in_text = p.in_text }) ∷ []
own_marks p _ = []

abbrev pub marks : List Statement → Location → Marks
marks [] p = []
marks (s ∷ ss) p = own_marks p s ++ marks ss (next p (line_of s).body)

own_labelled : (p : Location) (s : Statement)
    → own_label (line_of s).label p ≡ named (own_marks p s)
own_labelled p s = grind arith

pub labelled : (ss : List Statement) (p : Location) → labels (read_as ss) p ≡ named (marks ss p)
labelled [] p = refl
labelled (s ∷ ss) p =
    let q = next p (line_of s).body in
    ap (λ x. x ++ labels (read_as ss) q) (own_labelled p s)
    ∙ ap (λ x. named (own_marks p s) ++ x) (labelled ss q)
    ∙ sym (named_join (own_marks p s) (marks ss q))

pub marks_join : (xs ys : List Statement) (p : Location)
    → marks (xs ++ ys) p ≡ marks xs p ++ marks ys (after xs p)
marks_join [] ys p = refl
marks_join (x ∷ xs) ys p =
    let q = next p (line_of x).body in
    ap (λ l. own_marks p x ++ l) (marks_join xs ys q)
    ∙ sym (append_assoc (own_marks p x) (marks xs q) (marks ys (after xs q)))

-- ---- no fault in the first pass
-- no label is there before
abbrev pub OwnDistinct : Marks → Statement → Type 0
OwnDistinct t (Label n) = IsSmall n × Lacks t n
OwnDistinct t _ = Unit {0}

abbrev pub Distinct : Marks → List Statement → Location → Type 0
Distinct t [] p = Unit {0}
Distinct t (s ∷ ss) p = OwnDistinct t s × Distinct (t ++ own_marks p s) ss (next p (line_of s).body)

-- each statement can stand where it does
abbrev pub Stands : Isa → List Statement → Location → Type 0
Stands isa [] p = Unit {0}
Stands isa (s ∷ ss) p =
    (option_or (body_fault isa p (line_of s).body) (label_fault (line_of s).label p) ≡ None)
    × Stands isa ss (next p (line_of s).body)

pub distinct_join : (t : Marks) (xs ys : List Statement) (p : Location) → Distinct t xs p
    → Distinct (t ++ marks xs p) ys (after xs p) → Distinct t (xs ++ ys) p
distinct_join t [] ys p a b = subst (λ x. Distinct x ys p) (append-nil t) b
distinct_join t (x ∷ xs) ys p a b =
    let q = next p (line_of x).body in (
      a.0,
      distinct_join (t ++ own_marks p x) xs ys q a.1
          (subst (λ l. Distinct l ys (after xs q))
          (sym (append_assoc t (own_marks p x) (marks xs q)))
          b),
    )

pub stands_join : (isa : Isa) (xs ys : List Statement) (p : Location) → Stands isa xs p
    → Stands isa ys (after xs p) → Stands isa (xs ++ ys) p
stands_join isa [] ys p a b = b
stands_join isa (x ∷ xs) ys p a b = (a.0, stands_join isa xs ys (next p (line_of x).body) a.1 b)

not_double : (t : Marks) (s : Statement) → AllSmall t → OwnDistinct t s
    → is_double (named t) (line_of s).label ≡ false
not_double t s hs h = search (rules, lacks_mark)

own_small : (t : Marks) (p : Location) (s : Statement) → OwnDistinct t s → AllSmall (own_marks p s)
own_small t p s h = grind arith

pub first_free : (isa : Isa) (t : Marks) (p : Location) (n : ℕ) (ss : List Statement) → AllSmall t
    → Distinct t ss p → Stands isa ss p → first_fault isa (named t) p n (read_as ss) ≡ None
first_free isa t p n [] hs d st = refl
first_free isa t p n (s ∷ ss) hs d st =
    let q = next p (line_of s).body in
    let one : fault isa (named t) p (Ok (line_of s)) ≡ None =
    ap
    (λ b. cond b (Some DoubleSymbol)
    (option_or (body_fault isa p (line_of s).body) (label_fault (line_of s).label p)))
    (not_double t s hs d.0) ∙ st.0 in
    let table : named t ++ own_label (line_of s).label p ≡ named (t ++ own_marks p s) =
    ap (λ l. named t ++ l) (own_labelled p s) ∙ sym (named_join t (own_marks p s)) in
    ap
    (λ k. option_or (at_line n k)
    (first_fault isa (named t ++ own_label (line_of s).label p) q (n + 1) (read_as ss))) one
    ∙ ap (λ x. first_fault isa x q (n + 1) (read_as ss)) table
    ∙ first_free isa (t ++ own_marks p s) q (n + 1) ss
    (small_join t (own_marks p s) hs (own_small t p s d.0)) d.1 st.1

pub marks_small : (t : Marks) (ss : List Statement) (p : Location) → Distinct t ss p
    → AllSmall (marks ss p)
marks_small t [] p d = tt
marks_small t (s ∷ ss) p d =
    grind (arith, nat_tests, (marks_small (t ++ own_marks p s) ss (next p (line_of s).body) d.1))

-- ---- no fault in the second pass
-- the symbols that a statement names are there, and near enough
abbrev pub IsThere : Marks → Name → Type 0
IsThere t n = (m : Mark) × (find_name t n ≡ Some m) × IsSmall n

pub record IsNear (t : Marks) (pc : ℕ) (i : Fields) (n : Name) : Type 0 where
  pub mark : Mark
  pub there : find_name t n ≡ Some mark
  pub small : IsSmall n
  pub near : in_field (row i.op).form (distance mark.at pc) ≡ true

abbrev pub Linked : Marks → ℕ → Statement → Type 0
Linked t pc (High r n) = IsThere t n
Linked t pc (Low r n) = IsThere t n
Linked t pc (To i n) = IsNear t pc i n
Linked t pc _ = Unit {0}

abbrev pub AllLinked : Marks → List Statement → Location → Type 0
AllLinked t [] p = Unit {0}
AllLinked t (s ∷ ss) p = Linked t (address p) s × AllLinked t ss (next p (line_of s).body)

pub linked_join : (t : Marks) (xs ys : List Statement) (p : Location) → AllLinked t xs p
    → AllLinked t ys (after xs p) → AllLinked t (xs ++ ys) p
linked_join t [] ys p a b = b
linked_join t (x ∷ xs) ys p a b = (a.0, linked_join t xs ys (next p (line_of x).body) a.1 b)

pub low_number : (a : ℕ) → FitsBits 12 (low a)
low_number a = grind (arith, cases_lt)

pub high_fits : (a : ℕ) → high a < 2 ^ 20
high_fits a = mod_below ((a + 0x800) / 2 ^ 12) (2 ^ 20) (omega arith)

high_field : (h : ℕ) → h < 2 ^ 20 → in_field Upper (pos h) ≡ true
high_field h low = grind (arith, nat_tests)

low_field : (z : ℤ) → FitsBits 12 z → in_field I z ≡ true
low_field z h = grind arith

statement_linked : (t : Marks) (pc : ℕ) (s : Statement) → AllSmall t → Linked t pc s
    → symbol_fault (named t) pc (line_of s).body ≡ None
unfolding digits_of
statement_linked t pc (High r n) hs l =
    ap (field_fault Upper (λ at. pos (high at))) (found t n l.2 hs ∙ l.1)
    ∙ ap (λ b. cond b None (Some (OutOfRange (pos (high l.0.at)))))
    (high_field (high l.0.at) (high_fits l.0.at))
statement_linked t pc (Low r n) hs l =
    ap (field_fault I low) (found t n l.2 hs ∙ l.1)
    ∙ ap (λ b. cond b None (Some (OutOfRange (low l.0.at))))
    (low_field (low l.0.at) (low_number l.0.at))
statement_linked t pc (To i n) hs l =
    ap (field_fault (row i.op).form (λ at. distance at pc)) (found t n l.small hs ∙ l.there)
    ∙ ap (λ b. cond b None (Some (OutOfRange (distance l.mark.at pc)))) l.near
statement_linked t pc (FixedLine NoRvc) hs l = refl
statement_linked t pc (FixedLine _) hs l = refl
statement_linked t pc _ hs l = refl

pub second_free : (t : Marks) (p : Location) (n : ℕ) (ss : List Statement) → AllSmall t
    → AllLinked t ss p → second_fault (named t) p n (read_as ss) ≡ None
second_free t p n [] hs l = refl
second_free t p n (s ∷ ss) hs l =
    let q = next p (line_of s).body in
    ap (λ k. option_or (at_line n k) (second_fault (named t) q (n + 1) (read_as ss)))
    (statement_linked t (address p) s hs l.0)
    ∙ second_free t q (n + 1) ss hs l.1
