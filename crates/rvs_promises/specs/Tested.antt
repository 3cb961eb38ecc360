-- What holds of the tests that are made of accepted inputs, whichever command makes them.
use Rattle.std.specs.Prelude.{◌≡◌, ◌<◌, List, ℕ, length, map, Contains, Some, IsTrue, slice_get}
use Rattle.std.specs.List.{flat_map}
use Rattle.rvs_insn.specs.Isa.{Isa}
use Rattle.rvs_cgf.specs.Groups.{Label, Point}
use Rattle.rvs_points.specs.Valid.{IsValid}
use Rattle.rvs_solver.specs.Solving.{IsSolvableAt}
use Rattle.rvs_test_text.specs.declared.claim.Claim.{Claim}
use Rattle.rvs_test.specs.Made.{claims_of, unsolved_of, cases_of, text_of_label}
use Rattle.rvs_test.specs.Named.{claims_read, named_claim}
use Rattle.rvs_test.specs.Claimed.{TestRuns, IsAccounted}
use Rattle.rvs_test_text.specs.TestText.{step_limit}
use Rattle.rvs_generate.specs.GenerateTexts.{point_lines, case_line, unsolved_line}
use Rattle.rvs_inputs.specs.GroupFiles.{Inputs}

-- the lines that are put for the points of a label
pub record HasLines (isa : Isa) (l : Label) : Type 0 where
  pub lines : List (List ℕ)
  pub together : point_lines (claims_of isa l) 0 l.points ≡ flat_map (λ line. line) lines
  -- they are one a point, in the order of the points
  pub as_many : length lines ≡ length l.points
  -- a point that a choice of the datasets hits has the line of a case that claims it
  pub solved : (k : ℕ) (p : Point) → slice_get l.points k ≡ Some p → IsSolvableAt isa l k
      → (c : Claim) × Contains (claims_of isa l) c × (c.point ≡ k)
      × (slice_get lines k ≡ Some (case_line c.case p))
  -- a point that none hits is listed as unsolved
  pub unsolved : (k : ℕ) (p : Point) → slice_get l.points k ≡ Some p → (IsSolvableAt isa l k → ⊥)
      → slice_get lines k ≡ Some (unsolved_line p)

pub record AreTested (inputs : Inputs) : Type 0 where
  -- A selected label is valid for the core. So no two of its points have one kind and key, and what
  -- each of them means is what its key says.
  pub valid : (l : Label) → Contains inputs.groups l → IsTrue l.selected → IsValid inputs.isa l
  -- One image stands to the text of each test; its run halts within the header's steps, hits each
  -- point that is claimed, and leaves the outcome of each case and no other words. The claims are
  -- those of all points that a choice hits.
  pub runs : (l : Label) (text : List ℕ) → Contains inputs.groups l → IsTrue l.selected
      → text_of_label inputs.isa l ≡ Some text
      → TestRuns inputs.isa l text (claims_of inputs.isa l) (step_limit (cases_of inputs.isa l))
  -- these claims, by case, kind and key, are what is read back from the bytes of the text alone
  pub read : (l : Label) (text : List ℕ) → Contains inputs.groups l → IsTrue l.selected
      → text_of_label inputs.isa l ≡ Some text
      → claims_read text ≡ Some (map (named_claim l) (claims_of inputs.isa l))
  -- each point of a label is claimed, where a choice of the datasets hits it, or is among the
  -- unsolved ones, where none does
  pub accounted : (l : Label) (k : ℕ) → Contains inputs.groups l → k < length l.points
      → IsAccounted inputs.isa l (claims_of inputs.isa l) (unsolved_of inputs.isa l) k
  -- the output names them in their order: with a case, where a choice of the datasets hits the
  -- point, or as unsolved, where none does
  pub lines : (l : Label) → Contains inputs.groups l → IsTrue l.selected → HasLines inputs.isa l
