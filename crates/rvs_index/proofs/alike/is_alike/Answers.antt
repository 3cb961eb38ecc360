use Rattle.std.proofs.Common.{sym, ◌∙◌, arith}
use Rattle.rvs_index.proofs.Blocks.{alike_next}
use Rattle.rvs_index.proofs.alike.is_alike.Goals as goal

pub loop-bucket-preserved : goal.loop-bucket-preserved
loop-bucket-preserved c =
    alike_next c.args.cells.now c.args.left c.args.right c.loop-bucket.bucket _ _
    c.loop-bucket.invariant
    (omega (arith, c.requires.all, c.requires.left, c.loop-bucket-test.true))
    (omega (arith, c.requires.all, c.requires.right, c.loop-bucket-test.true))
    (sym c.is_same.ensures ∙ c.if-not-is_same.false)
