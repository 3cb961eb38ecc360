-- What `generate` leaves of a single point that a choice hits.
use Rattle.std.proofs.Common.{◌≡◌, ◌<◌, inl, inr, ℕ, Bool, true, false, if◌then◌else◌, List, []}
use Rattle.std.proofs.Common.{◌∷◌, ◌++◌, length, Contains, Option, Some, None, is_some}
use Rattle.std.proofs.Common.{option_to_list, refl, sym, ap, subst, ◌∙◌, arith, rules}
use Rattle.std.specs.List.{range_with_len}
use Rattle.rvs_base.specs.Host.{Files, written}
use Rattle.rvs_insn.specs.Isa.{Isa}
use Rattle.rvs_cgf.specs.Groups.{Label, Point}
use Rattle.rvs_solver.specs.Solving.{first_at, IsSolvableAt}
use Rattle.rvs_choice.specs.declared.solved.Solved.{Solved}
use Rattle.rvs_test_text.specs.declared.claim.Claim.{Claim}
use Rattle.rvs_test.specs.Made.{is_solved, solved_among, numbered, claims_of, cases_of}
use Rattle.rvs_test.specs.Made.{cases_among, text_for, text_of_label}
use Rattle.rvs_test.proofs.Joined.{accounted}

-- the claim of its only point
abbrev pub only_claim : Claim
only_claim = record { case = 0; point = 0 }

claims-by : (isa : Isa) (l : Label) (b : Bool) → is_solved isa l 0 ≡ b
    → numbered 0 (solved_among isa l (0 ∷ [])) ≡ (if b then only_claim ∷ [] else [])
claims-by isa l b is = grind arith

pub claims-are : (isa : Isa) (l : Label) (p : Point) (b : Bool) → l.points ≡ p ∷ []
    → is_solved isa l 0 ≡ b → claims_of isa l ≡ (if b then only_claim ∷ [] else [])
unfolding claims_of
claims-are isa l p b one is =
    ap (λ (ps : List Point). numbered 0 (solved_among isa l (range_with_len 0 (length ps)))) one
    ∙ claims-by isa l b is

none-there : (c : Claim) → Contains [] c → ⊥
none-there c there = omega (arith, there.1)

solved-by : (isa : Isa) (l : Label) (p : Point) (b : Bool) → l.points ≡ p ∷ []
    → is_solved isa l 0 ≡ b → IsSolvableAt isa l 0 → is_solved isa l 0 ≡ true
solved-by isa l p true one is solvable = is
solved-by isa l p false one is solvable =
    elim (accounted isa l 0 (subst (λ (ps : List Point). 0 < length ps) (sym one) (omega arith))) [
      | inl left ↦ absurd (left.1 solvable)
      | inr claimed ↦ absurd
          (none-there claimed.0 (subst (λ (cs : List Claim). Contains cs claimed.0)
          (claims-are isa l p false one is) claimed.1))
    ]

-- the cases of its only point
cases-by : (isa : Isa) (l : Label) (first : Option Solved) → first_at isa l 0 ≡ first
    → is_solved isa l 0 ≡ true
    → (cases : List Solved) × (s : Solved) × (cases_among isa l (0 ∷ []) ≡ s ∷ cases)
cases-by isa l None is solved = grind (arith, is_some)
cases-by isa l (Some s) is solved = ([], s, ap (λ (o : Option Solved). option_to_list o ++ []) is)

cases-are : (isa : Isa) (l : Label) (p : Point) → l.points ≡ p ∷ [] → is_solved isa l 0 ≡ true
    → (cases : List Solved) × (s : Solved) × (cases_of isa l ≡ s ∷ cases)
unfolding cases_of
cases-are isa l p one solved =
    let c = cases-by isa l (first_at isa l 0) refl solved in
    (c.0, c.1, ap (λ (ps : List Point). cases_among isa l (range_with_len 0 (length ps))) one ∙ c.2)

-- it has a test, whose only claim is of that point
pub record OnePoint (isa : Isa) (l : Label) : Type 0 where
  pub text : List ℕ
  pub is : text_of_label isa l ≡ Some text
  pub claims : claims_of isa l ≡ only_claim ∷ []

text-of : (isa : Isa) (l : Label) (cs : List Solved) (s : Solved) (more : List Solved)
    → cs ≡ s ∷ more → (text : List ℕ) × (text_for isa l cs ≡ Some text)
text-of isa l cs s more is = (_, ap (λ (x : List Solved). text_for isa l x) is)

pub one-point : (isa : Isa) (l : Label) (p : Point) → l.points ≡ p ∷ [] → IsSolvableAt isa l 0
    → OnePoint isa l
one-point isa l p one solvable =
    let solved = solved-by isa l p (is_solved isa l 0) one refl solvable in
    let c = cases-are isa l p one solved in
    let t = text-of isa l (cases_of isa l) c.1 c.0 c.2 in
    record { text = t.0; is = t.1; claims = claims-are isa l p true one solved }

-- the file of a written text
pub file-there : (path text : List ℕ) (files : Option Files) (files' : Files)
    → written path text files ≡ Some files' → files' path ≡ Some text
file-there path text files files' is = search rules
