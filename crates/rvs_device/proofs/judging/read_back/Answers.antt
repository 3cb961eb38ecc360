use Rattle.std.proofs.Common.{◌≡◌, w32, to_z, of_z}
use Rattle.std.proofs.lemmas.Int.{to_z-of_z}
use Rattle.rvs_device.proofs.Back.{back-found, back-absent, back-long}
use Rattle.rvs_device.proofs.judging.read_back.Goals as goal

pub returns-in_ok-verdict_on-in-Ok : goal.returns-in_ok-verdict_on-in-Ok
returns-in_ok-verdict_on-in-Ok g c =
    let same : to_z w32 (of_z w32 c.args.status) ≡ c.args.status = to_z-of_z _ _ c.ranges.status in
    back-found c.args.signature.now c.args.status c.args.reference.now c.in-Ok.bytes _ _ _
    c.in-Ok.ensures.reads_only c.in-Ok.ensures.whole c.in-Ok.ensures.unfaulted
    c.in-Ok.ensures.at_most (rw (c.as_slice.ensures, same) at c.in_ok-verdict_on-in-Ok.ensures)

pub returns-in-Err-NoFile : goal.returns-in-Err-NoFile
returns-in-Err-NoFile g c =
    let same : to_z w32 (of_z w32 c.args.status) ≡ c.args.status = to_z-of_z _ _ c.ranges.status in
    rw same (back-absent c.args.signature.now c.args.status c.args.reference.now _ _
    c.in-Err-NoFile.ensures.reads_only c.in-Err-NoFile.ensures.at_most
    (rw c.in-Err-NoFile.field-0-is at c.in-Err-NoFile.ensures.refused))

pub returns-in-Err-TooLong : goal.returns-in-Err-TooLong
returns-in-Err-TooLong g c =
    let same : to_z w32 (of_z w32 c.args.status) ≡ c.args.status = to_z-of_z _ _ c.ranges.status in
    let refused = rw c.in-Err-TooLong.field-0-is at c.in-Err-TooLong.ensures.refused in
    rw same (back-long c.args.signature.now c.args.status c.args.reference.now _ _
    c.in-Err-TooLong.ensures.reads_only c.in-Err-TooLong.ensures.at_most refused.1 refused.2)
