use Rattle.std.proofs.Common.{◌≡◌, rules, to_z, of_z, w64}
use Rattle.std.proofs.lemmas.Int.{to_z-of_z}
use Rattle.std.specs.Prelude.{FitsSigned}
use Rattle.rvs_index.proofs.Cells.{one_adds}
use Rattle.rvs_index.proofs.cell.one.Goals as goal

pub returns-in-Some : goal.returns-in-Some
returns-in-Some c =
    let fits : FitsSigned w64 c.in-Some.value = search rules in
    let same : to_z w64 (of_z w64 c.in-Some.value) ≡ c.in-Some.value = to_z-of_z _ _ fits in
    one_adds c.args.asked c.args.slot.now c.in-Some.value c.pair.result c.in-Some.ensures.value
    (rw (same, c.in-Some.ensures.place) at c.pair.ensures)
