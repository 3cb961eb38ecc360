-- The fault that is told is the first.
use Rattle.std.proofs.Common.{◌≡◌, ℕ, ◌+◌, List, [], ◌∷◌, ◌++◌, Option, Some, None}
use Rattle.std.proofs.Common.{refl, sym, ap, ◌∙◌, arith, append_assoc}
use Rattle.std.proofs.lemmas.List.{append-nil}
use Rattle.std.specs.Option.{option_or}
use Rattle.rvs_insn.specs.Isa.{Isa}
use Rattle.rvs_asm.specs.declared.location.Location.{Location}
use Rattle.rvs_asm.specs.declared.refusal.AsmKind.{AsmKind}
use Rattle.rvs_asm.specs.declared.refusal.AsmRefusal.{AsmRefusal}
use Rattle.rvs_asm.specs.Symbols.{Table}
use Rattle.rvs_asm.specs.Locations.{Reading, body_of, label_of, next, start, location_after}
use Rattle.rvs_asm.specs.Locations.{own_label}
use Rattle.rvs_asm.specs.Locations.{labels, address}
use Rattle.rvs_asm.specs.Faults.{fault, at_line, first_fault, symbol_fault, second_fault}
use Rattle.rvs_asm.specs.Laws.{RefusedHaveNone, IsFirstFault, FirstFaultsAreFirst, IsFirstUnlinked}
use Rattle.rvs_asm.specs.Laws.{SecondFaultsAreFirst}
use Rattle.rvs_asm.proofs.Stands.{image_answered}

pub refused_have_none : RefusedHaveNone
refused_have_none text isa refusal image is stands = grind (arith, image_answered)

-- a line and those behind it, by whether the line is faulty
first_by : (isa : Isa) (ss : Table) (p : Location) (n : ℕ) (r : Reading) (rs : List Reading)
    (k : Option AsmKind) (refusal : AsmRefusal) → fault isa ss p r ≡ k → option_or (at_line n k)
    (first_fault isa (ss ++ own_label (label_of r) p) (next p (body_of r)) (n + 1) rs) ≡ Some
    refusal
    → (first_fault isa (ss ++ own_label (label_of r) p) (next p (body_of r)) (n + 1) rs
    ≡ Some refusal
    → IsFirstFault isa (ss ++ own_label (label_of r) p) (next p (body_of r)) (n + 1) rs refusal)
    → IsFirstFault isa ss p n (r ∷ rs) refusal
first_by isa ss p n r rs (Some kind) refusal is e later =
    let same : record { line = n; kind = kind } ≡ refusal = cc in
    record {
      before = [];
      line = r;
      behind = rs;
      split = refl;
      faultless = tt;
      number = ap (λ (x : AsmRefusal). x.line) (sym same) ∙ omega arith;
      kind = ap (λ (t : Table). fault isa t p r) (append-nil ss) ∙ is
          ∙ ap (λ (x : AsmRefusal). Some x.kind) same;
    }
first_by isa ss p n r rs None refusal is e later =
    let f = later e in
    record {
      before = r ∷ f.before;
      line = f.line;
      behind = f.behind;
      split = ap (λ (l : List Reading). r ∷ l) f.split;
      faultless = (is, f.faultless);
      number = f.number ∙ omega arith;
      kind = ap (λ (t : Table). fault isa t (location_after f.before (next p (body_of r))) f.line)
          (sym (append_assoc ss (own_label (label_of r) p) (labels f.before (next p (body_of r)))))
          ∙ f.kind;
    }

first_from : (isa : Isa) (ss : Table) (p : Location) (n : ℕ) (rs : List Reading)
    (refusal : AsmRefusal)
    → first_fault isa ss p n rs ≡ Some refusal → IsFirstFault isa ss p n rs refusal
first_from isa ss p n [] refusal e = absurd cc
first_from isa ss p n (r ∷ rs) refusal e = first_by isa ss p n r rs (fault isa ss p r) refusal refl
    e (first_from isa (ss ++ own_label (label_of r) p) (next p (body_of r)) (n + 1) rs refusal)

pub first_faults_are_first : FirstFaultsAreFirst
first_faults_are_first isa rs refusal e = first_from isa [] (start isa.memory) 1 rs refusal e

second_by : (ss : Table) (p : Location) (n : ℕ) (r : Reading) (rs : List Reading)
    (k : Option AsmKind)
    (refusal : AsmRefusal) → symbol_fault ss (address p) (body_of r) ≡ k → option_or (at_line n k)
    (second_fault ss (next p (body_of r)) (n + 1) rs) ≡ Some refusal
    → (second_fault ss (next p (body_of r)) (n + 1) rs ≡ Some refusal
    → IsFirstUnlinked ss (next p (body_of r)) (n + 1) rs refusal)
    → IsFirstUnlinked ss p n (r ∷ rs) refusal
second_by ss p n r rs (Some kind) refusal is e later =
    let same : record { line = n; kind = kind } ≡ refusal = cc in
    record {
      before = [];
      line = r;
      behind = rs;
      split = refl;
      faultless = tt;
      number = ap (λ (x : AsmRefusal). x.line) (sym same) ∙ omega arith;
      kind = is ∙ ap (λ (x : AsmRefusal). Some x.kind) same;
    }
second_by ss p n r rs None refusal is e later =
    let f = later e in
    record {
      before = r ∷ f.before;
      line = f.line;
      behind = f.behind;
      split = ap (λ (l : List Reading). r ∷ l) f.split;
      faultless = (is, f.faultless);
      number = f.number ∙ omega arith;
      kind = f.kind;
    }

second_from : (ss : Table) (p : Location) (n : ℕ) (rs : List Reading) (refusal : AsmRefusal)
    → second_fault ss p n rs ≡ Some refusal → IsFirstUnlinked ss p n rs refusal
second_from ss p n [] refusal e = absurd cc
second_from ss p n (r ∷ rs) refusal e =
    grind (arith, second_by, (second_from ss (next p (body_of r)) (n + 1) rs refusal))

pub second_faults_are_first : SecondFaultsAreFirst
second_faults_are_first memory ss rs refusal e = second_from ss (start memory) 1 rs refusal e
