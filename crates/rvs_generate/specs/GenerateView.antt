-- What the code holds of labels, as the definition has it.
use Rattle.std.specs.Prelude.{◌≡◌}
use Rattle.rvs_insn.specs.Isa.{Isa}
use Rattle.rvs_cgf.specs.Groups.{Label}
use Rattle.rvs_test.specs.declared.made.Made.{Made}
use Rattle.rvs_test.specs.Made.{claims_of, unsolved_of, cases_of, text_of_label}
use Rattle.rvs_test_text.specs.TestText.{step_limit}
use Rattle.rvs_generate.specs.GenerateTexts.{Totals}
use Rattle.rvs_generate.specs.declared.listing.Totals.{Totals as Code}

abbrev pub totals_view : Code → Totals
totals_view t =
    record { tests = t.tests; cases = t.cases; unsolved = t.unsolved; skipped = t.skipped }

-- this was made of a label
pub record IsMade (isa : Isa) (l : Label) (m : Made) : Type 0 where
  pub text : m.text ≡ text_of_label isa l
  pub claims : m.claims ≡ claims_of isa l
  pub unsolved : m.unsolved ≡ unsolved_of isa l
  pub steps : m.steps ≡ step_limit (cases_of isa l)
