-- The lines of a label's points: one a point, with its case where a choice hits it.
use Rattle.std.proofs.Common.{◌≡◌, ◌<◌, inl, inr, ℕ, zero, suc, ◌+◌, ◌==◌, Bool, true, false}
use Rattle.std.proofs.Common.{cond, not, if◌then◌else◌, List, [], ◌∷◌, ◌++◌, length, All, Contains}
use Rattle.std.proofs.Common.{filter, flat_map, Some, None, option_map, slice_get, refl}
use Rattle.std.proofs.Common.{sym, ap, ◌∙◌, arith}
use Rattle.std.specs.List.{range_with_len}
use Rattle.std.proofs.lemmas.Bool.{ne_eqb, not-true}
use Rattle.std.proofs.lemmas.Option.{slice_get_within}
use Rattle.std.proofs.lemmas.List.Elements.{All-nil, All-cons, All-head, All-tail, All-contains}
use Rattle.std.proofs.lemmas.List.Elements.{filter_passes}
use Rattle.rvs_insn.specs.Isa.{Isa}
use Rattle.rvs_cgf.specs.Groups.{Label, Point}
use Rattle.rvs_solver.specs.Solving.{IsSolvableAt}
use Rattle.rvs_test_text.specs.declared.claim.Claim.{Claim}
use Rattle.rvs_test.specs.Made.{places, is_solved, solved_among, numbered, claims_of, unsolved_of}
use Rattle.rvs_test.proofs.Joined.{accounted}
use Rattle.rvs_generate.specs.GenerateTexts.{case_line, unsolved_line}
use Rattle.rvs_test_text.specs.Claims.{case_at}
use Rattle.rvs_generate.specs.GenerateTexts.{point_lines}
use Rattle.rvs_test_text.specs.Claims.{claims_after}
use Rattle.rvs_promises.specs.Tested.{HasLines}

-- ---- a point is solved exactly where a choice hits it
claims-pass : (q : ℕ → Bool) (ks : List ℕ) (j : ℕ) → All (λ (k : ℕ). q k ≡ true) ks
    → All (λ (c : Claim). q c.point ≡ true) (numbered j ks)
claims-pass q [] j all = All-nil (λ (c : Claim). q c.point ≡ true)
claims-pass q (k ∷ ks) j all =
    All-cons (λ (c : Claim). q c.point ≡ true) (record { case = j; point = k })
    (numbered (j + 1) ks) (All-head (λ (x : ℕ). q x ≡ true) k ks all)
    (claims-pass q ks (j + 1) (All-tail (λ (x : ℕ). q x ≡ true) k ks all))

pub claim-solved : (isa : Isa) (l : Label) (c : Claim) → Contains (claims_of isa l) c
    → is_solved isa l c.point ≡ true
unfolding claims_of
claim-solved isa l c there =
    All-contains (λ (d : Claim). is_solved isa l d.point ≡ true)
    (numbered 0 (solved_among isa l (places l))) c
    (claims-pass (is_solved isa l) (solved_among isa l (places l)) 0
    (filter_passes (is_solved isa l) (places l))) there

left-unsolved : (isa : Isa) (l : Label) (k : ℕ) → Contains (unsolved_of isa l) k
    → is_solved isa l k ≡ false
unfolding unsolved_of
left-unsolved isa l k there =
    not-true (is_solved isa l k) (All-contains (λ (n : ℕ). not (is_solved isa l n) ≡ true)
    (filter (λ (n : ℕ). not (is_solved isa l n)) (places l)) k
    (filter_passes (λ (n : ℕ). not (is_solved isa l n)) (places l)) there)

solved-at : (isa : Isa) (l : Label) (k : ℕ) → k < length l.points → IsSolvableAt isa l k
    → is_solved isa l k ≡ true
solved-at isa l k within solvable =
    elim (accounted isa l k within) [
      | inl left ↦ absurd (left.1 solvable)
      | inr claimed ↦ ap (is_solved isa l) (sym claimed.2)
          ∙ claim-solved isa l claimed.0 claimed.1
    ]

pub unsolved-at : (isa : Isa) (l : Label) (k : ℕ) → k < length l.points
    → (IsSolvableAt isa l k → ⊥) → is_solved isa l k ≡ false
unsolved-at isa l k within never =
    elim (accounted isa l k within) [
      | inl left ↦ left-unsolved isa l k left.0
      | inr claimed ↦ absurd (never claimed.3)
    ]

-- ---- the walk over the points, where q says which are solved
-- the lines from the a-th point on, where the next case is the j-th
abbrev lines_from : (ℕ → Bool) → ℕ → ℕ → List Point → List (List ℕ)
lines_from q j a [] = []
lines_from q j a (p ∷ ps) = (if q a then case_line j p else unsolved_line p)
    ∷ lines_from q (if q a then j + 1 else j) (a + 1) ps

-- no claim is of the k-th point: they are all of later ones
record IsPassed (claims : List Claim) (k : ℕ) : Type 0 where
  none : case_at claims k ≡ None
  kept : claims_after claims k ≡ claims

apart : (a k : ℕ) → k < a → (a == k) ≡ false
apart a k h = ne_eqb a k (λ e. omega arith)

passed-by : (b : Bool) (j a k : ℕ) (ks : List ℕ) → k < a → IsPassed (numbered j ks) k
    → IsPassed (numbered j (cond b (a ∷ ks) ks)) k
passed-by b j a k ks h later = grind arith

passed : (q : ℕ → Bool) (n j a k : ℕ) → k < a
    → IsPassed (numbered j (filter q (range_with_len a n))) k
passed q zero j a k h = record { none = refl; kept = refl }
passed q (suc n) j a k h = grind (arith, passed-by, (passed q n j (a + 1) k (omega arith)))

step : (b : Bool) (p : Point) (ps : List Point) (j a : ℕ) (ks : List ℕ)
    → IsPassed (numbered j ks) a
    → point_lines (numbered j (cond b (a ∷ ks) ks)) a (p ∷ ps)
    ≡ (if b then case_line j p else unsolved_line p)
    ++ point_lines (numbered (if b then j + 1 else j) ks) (a + 1) ps
step b p ps j a ks later = grind arith

walked : (q : ℕ → Bool) (ps : List Point) (j a : ℕ)
    → point_lines (numbered j (filter q (range_with_len a (length ps)))) a ps
    ≡ flat_map (λ (line : List ℕ). line) (lines_from q j a ps)
walked q [] j a = refl
walked q (p ∷ ps) j a =
    grind (arith, step, passed, (walked q ps (if q a then j + 1 else j) (a + 1)))

lines-many : (q : ℕ → Bool) (ps : List Point) (j a : ℕ)
    → length (lines_from q j a ps) ≡ length ps
lines-many q [] j a = refl
lines-many q (p ∷ ps) j a = ap suc (lines-many q ps (if q a then j + 1 else j) (a + 1))

-- ---- the line of each point
abbrev HasCase : List Claim → List (List ℕ) → ℕ → ℕ → Point → Type 0
HasCase claims lines k n p =
    (c : Claim) × Contains claims c × (c.point ≡ n)
    × (slice_get lines k ≡ Some (case_line c.case p))

first-case : (b : Bool) (j a n : ℕ) (x p : Point) (ks : List ℕ) (lines : List (List ℕ)) → b ≡ true
    → a ≡ n → Some x ≡ Some p
    → HasCase (numbered j (cond b (a ∷ ks) ks))
    ((if b then case_line j x else unsolved_line x) ∷ lines) 0 n p
first-case true j a n x p ks lines is here same = (
  record { case = j; point = a },
  (0, omega arith, refl),
  here,
  ap (option_map (case_line j)) same,
)
first-case false j a n x p ks lines is here same = absurd cc

more-there : (b : Bool) (j a : ℕ) (ks : List ℕ) (c : Claim)
    → Contains (numbered (if b then j + 1 else j) ks) c
    → Contains (numbered j (cond b (a ∷ ks) ks)) c
more-there true j a ks c there =
    let within : there.0 < length (numbered (j + 1) ks) = there.1 in
    (suc there.0, omega arith, there.2)
more-there false j a ks c there = there

has-case : (q : ℕ → Bool) (ps : List Point) (j a k n : ℕ) (p : Point) → slice_get ps k ≡ Some p
    → a + k ≡ n → q n ≡ true
    → HasCase (numbered j (filter q (range_with_len a (length ps)))) (lines_from q j a ps) k n p
has-case q [] j a k n p is at solved = absurd cc
has-case q (x ∷ ps) j a zero n p is at solved =
    let here : a ≡ n = omega arith in
    first-case (q a) j a n x p (filter q (range_with_len (a + 1) (length ps)))
    (lines_from q (if q a then j + 1 else j) (a + 1) ps) (ap q here ∙ solved) here is
has-case q (x ∷ ps) j a (suc k) n p is at solved =
    let next : a + 1 + k ≡ n = omega arith in
    let later = has-case q ps (if q a then j + 1 else j) (a + 1) k n p is next solved in (
      later.0,
      more-there (q a) j a (filter q (range_with_len (a + 1) (length ps))) later.0 later.1,
      later.2,
      later.3,
    )

has-none : (q : ℕ → Bool) (ps : List Point) (j a k n : ℕ) (p : Point) → slice_get ps k ≡ Some p
    → a + k ≡ n → q n ≡ false → slice_get (lines_from q j a ps) k ≡ Some (unsolved_line p)
has-none q [] j a k n p is at left = absurd cc
has-none q (x ∷ ps) j a zero n p is at left = grind (arith, option_map)
has-none q (x ∷ ps) j a (suc k) n p is at left =
    let next : a + 1 + k ≡ n = omega arith in
    has-none q ps (if q a then j + 1 else j) (a + 1) k n p is next left

-- ---- the lines of a label
pub has-lines : (isa : Isa) (l : Label) → HasLines isa l
unfolding claims_of
has-lines isa l = record {
  lines = lines_from (is_solved isa l) 0 0 l.points;
  together = walked (is_solved isa l) l.points 0 0;
  as_many = lines-many (is_solved isa l) l.points 0 0;
  solved = λ k p is solvable.
      let at : 0 + k ≡ k = omega arith in
      has-case (is_solved isa l) l.points 0 0 k k p is at
      (solved-at isa l k (slice_get_within l.points k p is) solvable);
  unsolved = λ k p is never.
      let at : 0 + k ≡ k = omega arith in
      has-none (is_solved isa l) l.points 0 0 k k p is at
      (unsolved-at isa l k (slice_get_within l.points k p is) never);
}
