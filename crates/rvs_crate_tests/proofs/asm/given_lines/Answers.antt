use Rattle.rvs_base.specs.Lines.{cut_lines}
use Rattle.rvs_asm.proofs.TextLines.{first_is}
use Rattle.rvs_crate_tests.proofs.asm.given_lines.Goals as goal

pub line-requires-clause-line : goal.line-requires-clause-line
line-requires-clause-line c =
    first_is c.loop-line.rest.now c.in-Some.line.now (cut_lines c.in-Some.after.now)
    c.in-Some.ensures.lines
