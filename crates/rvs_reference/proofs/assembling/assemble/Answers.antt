use Rattle.std.proofs.Common.{subst}
use Rattle.rvs_base.specs.Lines.{cut_lines}
use Rattle.rvs_base.specs.Answers.{Answers}
use Rattle.rvs_asm.proofs.TextLines.{same_answer, answers_same}
use Rattle.rvs_reference.proofs.assembling.assemble.Goals as goal

pub returns-clause-answer : goal.returns-clause-answer
returns-clause-answer c =
    subst (Answers c.finish.result) (same_answer c.args.spec.now c.args.text.now)
    (c.finish.ensures.answer c.args.spec.now (cut_lines c.args.text.now) c.in_ok-assembler.ensures)

pub returns-clause-image : goal.returns-clause-image
returns-clause-image c =
    answers_same c.args.spec.now c.args.text.now c.finish.result
    (c.finish.ensures.image c.args.spec.now (cut_lines c.args.text.now) c.in_ok-assembler.ensures)
