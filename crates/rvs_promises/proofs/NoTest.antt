-- What `generate` leaves of a single point that no choice hits.
use Rattle.std.proofs.Common.{◌≡◌, ◌<◌, ℕ, Bool, true, false, cond, not, if◌then◌else◌, List, []}
use Rattle.std.proofs.Common.{◌∷◌, ◌++◌, length, Option, None, is_some, option_to_list}
use Rattle.std.proofs.Common.{flat_map, codes, refl, sym, ap, subst, ◌∙◌, arith, append_assoc}
use Rattle.std.proofs.Common.{append-nil}
use Rattle.std.specs.List.{range_with_len}
use Rattle.std.specs.Fmt.{digits}
use Rattle.rvs_insn.specs.Isa.{Isa}
use Rattle.rvs_cgf.specs.Groups.{Label, Point, Skipped}
use Rattle.rvs_solver.specs.Solving.{first_at, IsSolvableAt}
use Rattle.rvs_choice.specs.declared.solved.Solved.{Solved}
use Rattle.rvs_count.specs.Report.{skipped_line}
use Rattle.rvs_test_text.specs.declared.claim.Claim.{Claim}
use Rattle.rvs_test_text.specs.TestText.{step_limit}
use Rattle.rvs_test.specs.Made.{is_solved, unsolved_among, cases_among, claims_of, unsolved_of}
use Rattle.rvs_test.specs.Made.{cases_of, text_for, text_of_label}
use Rattle.rvs_generate.specs.GenerateTexts.{unsolved_line, point_lines, steps_line, name_line}
use Rattle.rvs_generate.specs.GenerateTexts.{none}
use Rattle.rvs_generate.specs.GenerateTexts.{sum_up_to_most, tests_in, Totals, total_line, listing}
use Rattle.rvs_promises.proofs.OneTest.{claims-are}
use Rattle.rvs_promises.proofs.PointLines.{unsolved-at}

-- what is made of it
none-first : (first : Option Solved) → is_some first ≡ false → first ≡ None
none-first first is = grind arith

cases-none : (isa : Isa) (l : Label) (p : Point) → l.points ≡ p ∷ [] → first_at isa l 0 ≡ None
    → cases_of isa l ≡ []
unfolding cases_of
cases-none isa l p one is =
    ap (λ (ps : List Point). cases_among isa l (range_with_len 0 (length ps))) one
    ∙ ap (λ (first : Option Solved). option_to_list first ++ []) is

-- its only place, where it is left
abbrev place_by : Bool → List ℕ
place_by solved = cond (not solved) (0 ∷ []) []

unsolved-are : (isa : Isa) (l : Label) (p : Point) → l.points ≡ p ∷ [] → is_solved isa l 0 ≡ false
    → unsolved_of isa l ≡ 0 ∷ []
unfolding unsolved_of
unsolved-are isa l p one is =
    ap (λ (ps : List Point). unsolved_among isa l (range_with_len 0 (length ps))) one
    ∙ ap place_by is

-- it has no test and no claim, and the point is left
pub record NoPoint (isa : Isa) (l : Label) : Type 0 where
  pub text : text_of_label isa l ≡ None
  pub claims : claims_of isa l ≡ []
  pub unsolved : unsolved_of isa l ≡ 0 ∷ []

pub no-point : (isa : Isa) (l : Label) (p : Point) → l.points ≡ p ∷ [] → (IsSolvableAt isa l 0 → ⊥)
    → NoPoint isa l
no-point isa l p one never =
    let within : 0 < length l.points =
    subst (λ (ps : List Point). 0 < length ps) (sym one) (omega arith) in
    let is = unsolved-at isa l 0 within never in
    record {
      text = ap (λ (cs : List Solved). text_for isa l cs)
          (cases-none isa l p one (none-first (first_at isa l 0) is));
      claims = claims-are isa l p false one is;
      unsolved = unsolved-are isa l p one is;
    }

-- ---- what is put of a single label
abbrev put_totals : Bool → List Skipped → List Claim → List ℕ → Option (List ℕ) → Totals
put_totals selected skipped claims unsolved text =
    if selected then (record {
      tests = sum_up_to_most 0 (tests_in text);
      cases = sum_up_to_most 0 (length claims);
      unsolved = sum_up_to_most 0 (length unsolved);
      skipped = sum_up_to_most 0 (length skipped);
    }) else none

abbrev put_label : List ℕ → Bool → List Point → List Skipped → List Claim → Option (List ℕ) → ℕ
    → List ℕ
put_label name selected points skipped claims text steps =
    if selected then name_line name ++ (point_lines claims 0 points
    ++ (flat_map skipped_line skipped ++ steps_line text steps))
    else codes "label " ++ (name ++ codes " unselected\n")

abbrev put_of : List ℕ → Bool → List Point → List Skipped → List Claim → List ℕ
    → Option (List ℕ) → ℕ → List ℕ
put_of name selected points skipped claims unsolved text steps =
    (put_label name selected points skipped claims text steps ++ [])
    ++ total_line (put_totals selected skipped claims unsolved text)

tidy : (name line total : List ℕ)
    → ((name ++ ((line ++ []) ++ [])) ++ []) ++ total ≡ name ++ (line ++ total)
tidy name line total = simp (append-nil, append_assoc)

total-is : total_line (record { tests = 0; cases = 0; unsolved = 1; skipped = 0 })
    ≡ codes "total 0 tests, 0 cases, 1 unsolved, 0 skipped\n"
unfolding digits
total-is = refl

pub listing-none : (isa : Isa) (l : Label) (p : Point) → l.selected ≡ true → l.points ≡ p ∷ []
    → l.skipped ≡ [] → NoPoint isa l
    → listing isa (l ∷ []) ≡ name_line l.name ++ (unsolved_line p
    ++ codes "total 0 tests, 0 cases, 1 unsolved, 0 skipped\n")
unfolding listing
listing-none isa l p selected one skipped made =
    let steps = step_limit (cases_of isa l) in
    let put : listing isa (l ∷ []) ≡ put_of l.name true (p ∷ []) [] [] (0 ∷ []) None steps =
    λ i. put_of l.name (selected i) (one i) (skipped i) (made.claims i) (made.unsolved i)
    (made.text i) steps in
    put
    ∙ tidy (name_line l.name) (unsolved_line p)
    (total_line (record { tests = 0; cases = 0; unsolved = 1; skipped = 0 }))
    ∙ ap (λ (total : List ℕ). name_line l.name ++ (unsolved_line p ++ total)) total-is
