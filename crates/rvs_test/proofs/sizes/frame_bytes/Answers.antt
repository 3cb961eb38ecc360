use Rattle.std.proofs.Common.{◌≡◌, rules, arith}
use Rattle.std.proofs.lemmas.Int.{ints}
use Rattle.std.specs.Prelude.{pos, ◌≤ℤ◌}
use Rattle.rvs_test_text.specs.TestText.{between}
use Rattle.rvs_test.proofs.CaseSizes.{forward_at}
use Rattle.rvs_test.proofs.sizes.frame_bytes.Goals as goal

pub returns-else-imm-lt0-clause-value : goal.returns-else-imm-lt0-clause-value
returns-else-imm-lt0-clause-value c =
    let high : pos 0 ≤ℤ c.args.imm = grind (arith, ints) in
    let words : c.between-else-imm-lt0.result ≡ between c.args.imm = search rules in
    forward_at c.args.imm c.forward_bytes.result c.between-else-imm-lt0.result high words
    c.forward_bytes.ensures.value
