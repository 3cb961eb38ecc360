use Rattle.std.proofs.Common.{◌≡◌, rules, to_z, of_z, w32}
use Rattle.std.specs.Prelude.{pos, unwrap_or}
use Rattle.rvs_test.proofs.CaseSizes.{jump_is}
use Rattle.rvs_test.proofs.sizes.jump_bytes.Goals as goal

pub returns : goal.returns
returns c =
    let imm : to_z w32 (of_z w32 c.unwrap_or.result) ≡ unwrap_or c.args.choice.now.imm (pos 0) =
    search rules in
    jump_is c.sources.result c.frame_bytes.result (to_z w32 (of_z w32 c.unwrap_or.result))
    c.args.choice.now c.sources.ensures.value imm c.frame_bytes.ensures.value
