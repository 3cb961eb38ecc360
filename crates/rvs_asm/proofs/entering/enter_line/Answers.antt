use Rattle.std.proofs.Common.{cond, Some, ap, sym, ◌∙◌}
use Rattle.std.specs.Option.{option_or}
use Rattle.rvs_asm.specs.declared.refusal.AsmKind.TheVariants.{DoubleSymbol}
use Rattle.rvs_asm.specs.Locations.{body_of, label_of, next}
use Rattle.rvs_asm.specs.Faults.{body_fault, label_fault, fault}
use Rattle.rvs_asm.proofs.entering.enter_line.Goals as goal

pub returns-in-Err-clause-fault : goal.returns-in-Err-clause-fault
returns-in-Err-clause-fault c =
    ap (fault c.args.spec.now c.args.symbols.now c.args.location.now)
    (sym c.read_line.ensures.line ∙ c.in-Err.is)
    ∙ ap (λ k. Some k) (sym c.kind_of_fault.ensures)

pub returns-then-is_double_label-clause-fault : goal.returns-then-is_double_label-clause-fault
returns-then-is_double_label-clause-fault c =
    let p = c.args.location.now in
    ap (fault c.args.spec.now c.args.symbols.now p) (sym c.read_line.ensures.line ∙ c.in-Ok.is)
    ∙ ap (λ b. cond b (Some DoubleSymbol) (option_or
    (body_fault c.args.spec.now p c.in-Ok.line.body) (label_fault c.in-Ok.line.label p)))
    (sym c.is_double_label.ensures ∙ c.if-is_double_label.true)

pub returns-in-Some-clause-fault : goal.returns-in-Some-clause-fault
returns-in-Some-clause-fault c =
    let p = c.args.location.now in
    let own = label_fault c.in-Ok.line.label p in
    ap (fault c.args.spec.now c.args.symbols.now p) (sym c.read_line.ensures.line ∙ c.in-Ok.is)
    ∙ ap (λ b. cond b (Some DoubleSymbol) (option_or
    (body_fault c.args.spec.now p c.in-Ok.line.body) own))
    (sym c.is_double_label.ensures ∙ c.if-is_double_label.false)
    ∙ ap (λ o. option_or o own) c.in_ok-next.ensures.good
    ∙ sym c.label_fault.ensures.fault ∙ c.in-Some.is

pub returns-clause-good : goal.returns-clause-good
returns-clause-good c =
    let p = c.args.location.now in
    let own = label_fault c.in-Ok.line.label p in
    ap (fault c.args.spec.now c.args.symbols.now p) (sym c.read_line.ensures.line ∙ c.in-Ok.is)
    ∙ ap (λ b. cond b (Some DoubleSymbol) (option_or
    (body_fault c.args.spec.now p c.in-Ok.line.body) own))
    (sym c.is_double_label.ensures ∙ c.if-is_double_label.false)
    ∙ ap (λ o. option_or o own) c.in_ok-next.ensures.good
    ∙ sym c.label_fault.ensures.fault ∙ c.in-None.is

pub returns-clause-label : goal.returns-clause-label
returns-clause-label c = sym (ap label_of (sym c.read_line.ensures.line ∙ c.in-Ok.is))

pub returns-clause-body : goal.returns-clause-body
returns-clause-body c = sym (ap body_of (sym c.read_line.ensures.line ∙ c.in-Ok.is))

pub returns-clause-next : goal.returns-clause-next
returns-clause-next c =
    c.in_ok-next.ensures.next
    ∙ sym (ap (λ r. next c.args.location.now (body_of r))
    (sym c.read_line.ensures.line ∙ c.in-Ok.is))

pub returns-clause-ready : goal.returns-clause-ready
returns-clause-ready c = c.in-Ok.ensures.ready

pub returns-clause-new : goal.returns-clause-new
returns-clause-new c = sym c.is_double_label.ensures ∙ c.if-is_double_label.false

pub returns-clause-short : goal.returns-clause-short
returns-clause-short c = c.in_ok-next.ensures.short

pub returns-clause-marked : goal.returns-clause-marked
returns-clause-marked c = c.label_fault.ensures.marked c.in-None.is
