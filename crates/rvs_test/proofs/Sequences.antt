-- A case can be made from the instructions that solve a cross point.
use Rattle.std.proofs.Common.{◌≡◌, ℕ, zero, suc, ◌+◌, ◌<◌, ◌≤◌, true, List, [], ◌∷◌, length}
use Rattle.std.proofs.Common.{Option, Some, None, Ok, refl, ap, subst, ◌∙◌, arith}
use Rattle.std.specs.Prelude.{All, Contains, pos, ℤ}
use Rattle.std.specs.List.{range_with_len}
use Rattle.rvs_insn.specs.declared.op.Format.{Format}
use Rattle.rvs_insn.specs.declared.op.Format.TheVariants.{R, I, Shift}
use Rattle.rvs_insn.specs.declared.op.Op.{Op}
use Rattle.rvs_insn.specs.Isa.{Isa}
use Rattle.rvs_insn.specs.Table.{row}
use Rattle.rvs_insn.specs.Fields.{Fields}
use Rattle.rvs_insn.specs.Word.{AreOf, IsEncodable}
use Rattle.rvs_cross.specs.Cross.{Place}
use Rattle.rvs_cross.specs.Parse as crosses
use Rattle.rvs_sequences.specs.Sequences.{middle, at_rs1, at_rd, over_registers}
use Rattle.rvs_sequences.specs.Sequences.{in_format, insns_of, first_sequence}
use Rattle.rvs_sequences.specs.Sequences as cross
use Rattle.rvs_cross.proofs.Few.{read_places}
use Rattle.rvs_sequences.proofs.Solved.{sequence_solves}
use Rattle.rvs_points.specs.Points.{window, means, says, Point}
use Rattle.rvs_points.specs.Valid.{IsMeant}
use Rattle.rvs_points.specs.declared.group.Kind.{Kind}
use Rattle.rvs_points.proofs.Saying.{said_by}
use Rattle.rvs_solver.proofs.Search.{Each}
use Rattle.rvs_solver.proofs.Product.{each_flat, each_map}
use Rattle.rvs_solver.proofs.Operands.{each_then}
use Rattle.rvs_test_text.specs.Sound.{computes, IsMiddle, IsComputing, AllComputing, IsSequence}
use Rattle.rvs_test_text.proofs.Registers.{HasField, admitted_op}

-- ---- the instructions of a mnemonic

abbrev IsInner : ℕ → Type 0
IsInner r = (8 ≤ r) × (r < 16)

-- a register that is there, from x8 to x15
abbrev IsThere : Option ℕ → Type 0
IsThere None = ⊥
IsThere (Some r) = IsInner r

abbrev IsMissing : Option ℕ → Type 0
IsMissing None = Unit {0}
IsMissing (Some r) = ⊥

range_inner : (a n : ℕ) → 8 ≤ a → a + n ≤ 16 → Each IsInner (range_with_len a n)
range_inner a zero low high = tt
range_inner a (suc n) low high = grind (arith, (range_inner (a + 1) n (omega arith) (omega arith)))

inner : Each IsThere middle
inner = grind (arith, each_map, Some, range_inner)

record IsOver (op : Op) (imm : Option ℤ) (P : Option ℕ → Type 0) (i : Fields) : Type 0 where
  op_is : i.op ≡ op
  imm_is : i.imm ≡ imm
  rd : IsThere i.rd
  rs1 : IsThere i.rs1
  rs2 : P i.rs2

over_each : (op : Op) (imm : Option ℤ) (P : Option ℕ → Type 0) (rs2s : List (Option ℕ))
    → Each P rs2s → Each (IsOver op imm P) (over_registers op imm middle middle rs2s)
unfolding over_registers
over_each op imm P rs2s all =
    each_flat (at_rd op imm middle rs2s) IsThere (IsOver op imm P)
    (λ d hd. each_flat (at_rs1 op imm rs2s d) IsThere (IsOver op imm P)
    (λ s hs. each_map (λ t. record {
      op = op;
      rd = d;
      rs1 = s;
      rs2 = t;
      imm = imm;
    }) P (IsOver op imm P)
    (λ t ht. record { op_is = refl; imm_is = refl; rd = hd; rs1 = hs; rs2 = ht }) rs2s all)
    middle inner) middle inner

record IsOf (op : Op) (i : Fields) : Type 0 where
  form : computes (row op).form ≡ true
  encodable : IsEncodable i
  rd : IsMiddle i.rd
  rs1 : IsMiddle i.rs1
  rs2 : IsMiddle i.rs2

is_middle : (o : Option ℕ) → IsThere o → IsMiddle o
is_middle o h = grind arith

no_middle : (o : Option ℕ) → IsMissing o → IsMiddle o
no_middle o h = grind arith

-- the fields are those of the format
of_r : (rd rs1 rs2 : Option ℕ) → IsThere rd → IsThere rs1 → IsThere rs2
    → AreOf R rd rs1 rs2 None
of_r rd rs1 rs2 a b c = grind arith

of_i : (rd rs1 rs2 : Option ℕ) → IsThere rd → IsThere rs1 → IsMissing rs2
    → AreOf I rd rs1 rs2 (Some (pos 1))
of_i rd rs1 rs2 a b c = grind arith

of_shift : (rd rs1 rs2 : Option ℕ) → IsThere rd → IsThere rs1 → IsMissing rs2
    → AreOf Shift rd rs1 rs2 (Some (pos 1))
of_shift rd rs1 rs2 a b c = grind arith

-- those of an instruction of this mnemonic
encodable_by : (form : Format) (op : Op) (i : Fields) (imm : Option ℤ) → (row op).form ≡ form
    → i.op ≡ op → i.imm ≡ imm → AreOf form i.rd i.rs1 i.rs2 imm → IsEncodable i
encodable_by form op i imm e same_op same_imm h = grind (arith, Option)

with_sources : (op : Op) (i : Fields) → (row op).form ≡ R → IsOver op None IsThere i → IsOf op i
with_sources op i e o = grind (arith, encodable_by, None, of_r, is_middle)

with_immediate : (op : Op) (i : Fields) → (row op).form ≡ I
    → IsOver op (Some (pos 1)) IsMissing i → IsOf op i
with_immediate op i e o = grind (arith, encodable_by, Some, of_i, is_middle, no_middle)

with_amount : (op : Op) (i : Fields) → (row op).form ≡ Shift
    → IsOver op (Some (pos 1)) IsMissing i → IsOf op i
with_amount op i e o = grind (arith, encodable_by, Some, of_shift, is_middle, no_middle)

of_form : (form : Format) (op : Op) → (row op).form ≡ form → Each (IsOf op) (in_format form op)
of_form R op e =
    each_then (IsOver op None IsThere) (IsOf op) (λ i o. with_sources op i e o)
    (over_registers op None middle middle middle) (over_each op None IsThere middle inner)
of_form I op e =
    each_then (IsOver op (Some (pos 1)) IsMissing) (IsOf op) (λ i o. with_immediate op i e o)
    (over_registers op (Some (pos 1)) middle middle (None ∷ []))
    (over_each op (Some (pos 1)) IsMissing (None ∷ []) (tt, tt))
of_form Shift op e =
    each_then (IsOver op (Some (pos 1)) IsMissing) (IsOf op) (λ i o. with_amount op i e o)
    (over_registers op (Some (pos 1)) middle middle (None ∷ []))
    (over_each op (Some (pos 1)) IsMissing (None ∷ []) (tt, tt))
of_form form op e = tt

of_mnemonic : (op : Op) → Each (IsOf op) (insns_of op)
unfolding insns_of
of_mnemonic op = of_form (row op).form op refl

among : {X : Type 0} (P : X → Type 0) (xs : List X) (x : X) → Each P xs → Contains xs x → P x
among P [] x a (k, h, at) = absurd (omega arith)
among P (y ∷ ys) x a (zero, h, at) = subst P at a.0
among P (y ∷ ys) x a (suc k, h, at) = among P ys x a.1 (k, omega arith, at)

-- ---- all of them

-- each core has x8 to x15
middle_has : (isa : Isa) (o : Option ℕ) → IsMiddle o → HasField isa o
middle_has isa o h = grind arith

computing : (isa : Isa) (i : Fields) → cross.IsComputing isa i → IsComputing isa i
computing isa i c =
    let o = among (IsOf i.op) (insns_of i.op) i (of_mnemonic i.op) c.among in
    record {
      encodable = o.encodable;
      admitted =
          admitted_op isa i (middle_has isa i.rd o.rd) (middle_has isa i.rs1 o.rs1)
          (middle_has isa i.rs2 o.rs2) c.admitted;
      form = o.form;
      rd = o.rd;
      rs1 = o.rs1;
      rs2 = o.rs2;
    }

all_computing : (isa : Isa) (is : List Fields) → All (cross.IsComputing isa) is
    → AllComputing isa is
all_computing isa [] all = tt
all_computing isa (i ∷ is) all = (
  computing isa i (all 0 i (omega arith)),
  all_computing isa is (λ k d less. all (suc k) d (omega (arith, less))),
)

pub sequence_ready : (isa : Isa) (ps : List Place) (is : List Fields) → 1 ≤ length ps
    → length ps ≤ 6 → first_sequence isa ps ≡ Some is → IsSequence isa is
sequence_ready isa ps is some few found =
    let whole = sequence_solves isa ps is found in
    let n : length is ≡ length ps = whole.count in
    record {
      some = omega (arith, n, some);
      most = omega (arith, n, few);
      all = all_computing isa is whole.computing;
    }

-- ---- the places of a cross point

by_kind : (k : Kind) (key : List ℕ) (ps : List Place) → says k key ≡ means (window ps)
    → crosses.parse key ≡ Ok (crosses.read ps)
by_kind k key ps h = grind (arith, said_by, Ok)

-- a cross point of a valid label has one to six places
pub places_few : (p : Point) (ps : List Place) → IsMeant p → p.meaning ≡ window ps
    → (1 ≤ length ps) × (length ps ≤ 6)
places_few p ps m is = read_places p.key ps (by_kind p.kind p.key ps (m.said ∙ ap means is))
