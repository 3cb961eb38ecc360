use Rattle.std.proofs.Common.{sym}
use Rattle.rvs_base.proofs.Cuts.{return_dropped, no_return, no_return_empty}
use Rattle.rvs_base.proofs.lines.without_return.Goals as goal
use Rattle.rvs_base.proofs.lines.without_return.Goals.{else-end-gt0-via-then-end-gt0+else-line-end-eq13}
use Rattle.rvs_base.proofs.lines.without_return.Goals.{else-end-gt0-via-else-end-gt0}

pub returns-then-line-end-eq13 : goal.returns-then-line-end-eq13
returns-then-line-end-eq13 c =
    sym (return_dropped c.args.line.now c.if-end-gt0.true c.if-line-end-eq13.true)

pub returns-else-end-gt0 : goal.returns-else-end-gt0
returns-else-end-gt0 c =
    elim c.else-end-gt0.branch [
      | else-end-gt0-via-then-end-gt0+else-line-end-eq13 w ↦ sym
          (no_return c.args.line.now w.if-end-gt0.true w.if-line-end-eq13.false)
      | else-end-gt0-via-else-end-gt0 w ↦ sym (no_return_empty c.args.line.now w.if-end-gt0.false)
    ]
