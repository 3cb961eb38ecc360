use Rattle.std.proofs.Common.{sym, ap, ◌∙◌, to_z, w64}
use Rattle.std.proofs.lemmas.Int.{to_z-of_z}
use Rattle.rvs_index.proofs.Marks.{place_says}
use Rattle.rvs_index.proofs.mark.at_place.Goals as goal

pub returns-then-place-value : goal.returns-then-place-value
returns-then-place-value c =
    place_says c.args.place c.args.value
    (sym (to_z-of_z _ _ c.ranges.place) ∙ ap (to_z w64) c.if-place-value.true
    ∙ to_z-of_z _ _ c.ranges.value)
