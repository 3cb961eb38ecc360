use Rattle.std.proofs.Common.{◌∙◌, sym, ap, false}
use Rattle.rvs_yaml.specs.Stack.{step, steps}
use Rattle.rvs_yaml.specs.StackView.{open_blocks}
use Rattle.rvs_yaml_text.specs.Text.{words_at}
use Rattle.rvs_yaml.proofs.Giving.{gives_passes, passes_same}
use Rattle.rvs_yaml.proofs.WholeLines.{steps-one, line-bad, line-again, line-start, line-dots}
use Rattle.rvs_yaml.proofs.WholeLines.{line-plain}
use Rattle.rvs_yaml.proofs.line.read_line.Goals as goal

pub returns-in_default : goal.returns-in_default
returns-in_default c =
    let bs = open_blocks c.args.stack in
    gives_passes _ _ _ _ (ap (step bs) c.refused.ensures ∙ steps-one bs _ ∙ sym (ap (steps bs)
    (line-bad c.args.line c.args.started c.args.bytes.now c.in_default.ensures.cases.0)))
    c.step.ensures.given

pub returns-then-started : goal.returns-then-started
returns-then-started c =
    let bs = open_blocks c.args.stack in
    gives_passes _ _ _ _ (ap (step bs) c.refused-then-started.ensures ∙ steps-one bs _
    ∙ sym (ap (steps bs) (line-again c.args.line c.args.started c.args.bytes.now
    c.in-Ok.ensures.cases.1 (sym c.is_mark.ensures ∙ c.if-is_mark.true) c.if-started.true)))
    c.step-then-started.ensures.given

pub returns-else-started : goal.returns-else-started
returns-else-started c =
    ap (steps (open_blocks c.args.stack)) (line-start c.args.line c.args.started
    c.args.bytes.now c.in-Ok.ensures.cases.1 (sym c.is_mark.ensures ∙ c.if-is_mark.true)
    c.if-started.false)

pub returns-then-is_mark-2 : goal.returns-then-is_mark-2
returns-then-is_mark-2 c =
    let bs = open_blocks c.args.stack in
    gives_passes _ _ _ _ (ap (step bs) c.refused-then-is_mark-2.ensures ∙ steps-one bs _
    ∙ sym (ap (steps bs) (line-dots c.args.line c.args.started c.args.bytes.now
    c.in-Ok.ensures.cases.1 (sym c.is_mark.ensures ∙ c.if-is_mark.false)
    (sym c.is_mark-2.ensures ∙ c.if-is_mark-2.true)))) c.step-then-is_mark-2.ensures.given

pub returns : goal.returns
returns c =
    let bs = open_blocks c.args.stack in
    passes_same _ _ _ _ (ap (λ t. steps bs (words_at c.args.line false 0 t)) c.in-Ok.ensures.cases.0
    ∙ sym (ap (steps bs) (line-plain c.args.line c.args.started c.args.bytes.now
    c.in-Ok.ensures.cases.1 (sym c.is_mark.ensures ∙ c.if-is_mark.false)
    (sym c.is_mark-2.ensures ∙ c.if-is_mark-2.false)))) c.read_words.ensures
