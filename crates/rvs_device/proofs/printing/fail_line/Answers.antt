use Rattle.std.proofs.Common.{◌≡◌, ◌∙◌, w32, to_z, of_z}
use Rattle.std.proofs.lemmas.Int.{to_z-of_z}
use Rattle.rvs_device.proofs.printing.fail_line.Goals as goal

pub returns : goal.returns
returns c =
    let same : to_z w32 (of_z w32 c.args.status) ≡ c.args.status = to_z-of_z _ _ c.ranges.status in
    c.from.ensures ∙ rw same at c.in_ok-format.ensures.ok
