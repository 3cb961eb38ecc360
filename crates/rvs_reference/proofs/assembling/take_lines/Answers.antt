use Rattle.std.proofs.Common.{arith}
use Rattle.rvs_base.specs.Lines.{cut_lines}
use Rattle.rvs_asm.proofs.TextLines.{none_taken, one_taken, all_taken, first_is}
use Rattle.rvs_reference.proofs.assembling.take_lines.Goals as goal

pub loop-line-init : goal.loop-line-init
loop-line-init c = record {
  taken = none_taken c.args.spec.now c.args.text.now _ c.in_ok-assembler.ensures.given;
  count = omega (arith, c.in_ok-assembler.ensures.none);
}

pub loop-line-preserved : goal.loop-line-preserved
loop-line-preserved c = record {
  taken = one_taken c.args.spec.now c.args.text.now c.loop-line.rest.now c.in-Some.after.now
      c.in-Some.line.now c.loop-line.assembler c.line.new.self c.in-Some.ensures.lines
      (c.in_ok-line.ensures.given c.args.spec.now) c.loop-line.invariant.taken;
  count = omega (
    arith,
    c.loop-line.invariant.count,
    c.in_ok-line.ensures.counted,
    c.in-Some.ensures.shorter,
  );
}

pub line-requires-clause-line : goal.line-requires-clause-line
line-requires-clause-line c =
    first_is c.loop-line.rest.now c.in-Some.line.now (cut_lines c.in-Some.after.now)
    c.in-Some.ensures.lines

pub returns : goal.returns
returns c =
    all_taken c.args.spec.now c.args.text.now c.loop-line.rest.now c.loop-line.assembler
    c.in_default.ensures.lines c.loop-line.invariant.taken
