use Rattle.std.proofs.Common.{◌≡◌, refl, rules, to_z, of_z, true, w64}
use Rattle.std.proofs.lemmas.Int.{to_z-of_z}
use Rattle.std.specs.Prelude.{FitsSigned}
use Rattle.rvs_index.specs.declared.cell.Cell.{Cell}
use Rattle.rvs_index.proofs.Bounding.{bound_adds}
use Rattle.rvs_index.proofs.cell.more.Goals as goal

pub returns-in-Some : goal.returns-in-Some
returns-in-Some c =
    let first : FitsSigned w64 c.in-Some.first = search rules in
    let second : FitsSigned w64 c.in-Some.second = search rules in
    let same : to_z w64 (of_z w64 c.in-Some.first) ≡ c.in-Some.first = to_z-of_z _ _ first in
    let alike : to_z w64 (of_z w64 c.in-Some.second) ≡ c.in-Some.second = to_z-of_z _ _ second in
    let cell : Cell =
    record {
      first = c.in-Some.first;
      second = c.in-Some.second;
      first_at = 0;
      second_at = 0;
      more = true;
    } in
    rw (same, alike) (bound_adds c.args.asked c.args.slots.now cell refl c.in-Some.ensures)
