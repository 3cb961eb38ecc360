use Rattle.std.proofs.Common.{◌≡◌, ◌&&◌, rules, to_z, of_z, w64}
use Rattle.std.proofs.lemmas.Int.{to_z-of_z}
use Rattle.std.specs.Prelude.{FitsSigned}
use Rattle.rvs_expr.specs.Equated.{is_value}
use Rattle.rvs_index.proofs.Masks.{more_signs}
use Rattle.rvs_index.proofs.joined.joined.Goals as goal

pub returns-in-Values-Signs : goal.returns-in-Values-Signs
returns-in-Values-Signs c op t =
    let a = c.in-Values-Signs in
    let first : FitsSigned w64 a.value = search rules in
    let second : FitsSigned w64 a.second = search rules in
    let same : to_z w64 (of_z w64 a.value) ≡ a.value = to_z-of_z _ _ first in
    let alike : to_z w64 (of_z w64 a.second) ≡ a.second = to_z-of_z _ _ second in
    rw (same, alike, a.is-0, a.is-1)
    (more_signs (is_value a.value (t.num a.name) && is_value a.second (t.num a.other)) t a.mask
    a.more)
