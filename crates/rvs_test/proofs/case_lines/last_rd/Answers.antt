use Rattle.std.proofs.Common.{◌∙◌, sym, ap}
use Rattle.std.specs.Prelude.{unwrap_or}
use Rattle.rvs_insn.specs.Fields.{Fields}
use Rattle.rvs_test.proofs.Grows.{last_there}
use Rattle.rvs_test.proofs.case_lines.last_rd.Goals as goal

pub returns-in-Some-clause-value : goal.returns-in-Some-clause-value
returns-in-Some-clause-value c =
    c.number.ensures.value ∙ ap (λ (i : Fields). unwrap_or i.rd 0) c.place.view_is
    ∙ last_there c.args.places.now c.in-Some.place.now (sym c.in-Some.ensures.value)
