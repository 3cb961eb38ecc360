use Rattle.std.proofs.Common.{◌≡◌, rules, to_z, of_z, w64}
use Rattle.std.proofs.lemmas.Int.{to_z-of_z}
use Rattle.std.specs.Prelude.{FitsSigned}
use Rattle.rvs_index.proofs.Cells.{two_add}
use Rattle.rvs_index.proofs.cell.two.Goals as goal

pub returns-in-Some-told : goal.returns-in-Some-told
returns-in-Some-told c =
    let first : FitsSigned w64 c.in-Some.value = search rules in
    let second : FitsSigned w64 c.in-Some-told.other = search rules in
    let same : to_z w64 (of_z w64 c.in-Some.value) ≡ c.in-Some.value = to_z-of_z _ _ first in
    let alike : to_z w64 (of_z w64 c.in-Some-told.other) ≡ c.in-Some-told.other =
    to_z-of_z _ _ second in
    two_add c.args.asked c.args.first.now c.args.second.now c.in-Some.value c.in-Some-told.other
    c.pair.result c.in-Some.ensures.value c.in-Some-told.ensures.value
    (rw (same, alike, c.in-Some.ensures.place, c.in-Some-told.ensures.place) at c.pair.ensures)
