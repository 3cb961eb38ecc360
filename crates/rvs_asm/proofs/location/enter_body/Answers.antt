use Rattle.std.proofs.Common.{cond, Some, None, ap, sym, subst, ◌∙◌, ◌≡◌}
use Rattle.std.specs.Option.{option_or}
use Rattle.rvs_asm.specs.declared.refusal.AsmKind.TheVariants.{NotInIsa}
use Rattle.rvs_asm.specs.Locations.{IsLocation, size_of}
use Rattle.rvs_asm.specs.Faults.{body_fault, is_refused}
use Rattle.rvs_asm.proofs.Roomy.{fault_is}
use Rattle.rvs_asm.proofs.Short.{entered}
use Rattle.rvs_asm.proofs.location.enter_body.Goals as goal

pub returns-in-Some-clause-fault : goal.returns-in-Some-clause-fault
returns-in-Some-clause-fault c =
    let rest = cond (is_refused c.args.spec.now c.args.body.now) (Some NotInIsa) None in
    fault_is c.args.spec.now c.args.location.now c.args.body.now c.size_at-size.result
    c.requires.here
    (c.size_at-size.ensures ∙ ap (λ n. size_of n c.args.body.now) c.offset_in.ensures)
    ∙ ap (λ o. option_or o rest) (sym c.room_fault.ensures.fault ∙ c.in-Some.is)

pub returns-then-is_refused_by-clause-fault : goal.returns-then-is_refused_by-clause-fault
returns-then-is_refused_by-clause-fault c =
    let rest = cond (is_refused c.args.spec.now c.args.body.now) (Some NotInIsa) None in
    fault_is c.args.spec.now c.args.location.now c.args.body.now c.size_at-size.result
    c.requires.here
    (c.size_at-size.ensures ∙ ap (λ n. size_of n c.args.body.now) c.offset_in.ensures)
    ∙ ap (λ o. option_or o rest) (sym c.room_fault.ensures.fault ∙ c.in-None.is)
    ∙ ap (λ b. cond b (Some NotInIsa) None)
    (sym c.is_refused_by.ensures ∙ c.if-is_refused_by.true)

pub returns-clause-good : goal.returns-clause-good
returns-clause-good c =
    let rest = cond (is_refused c.args.spec.now c.args.body.now) (Some NotInIsa) None in
    fault_is c.args.spec.now c.args.location.now c.args.body.now c.size_at-size.result
    c.requires.here
    (c.size_at-size.ensures ∙ ap (λ n. size_of n c.args.body.now) c.offset_in.ensures)
    ∙ ap (λ o. option_or o rest) (sym c.room_fault.ensures.fault ∙ c.in-None.is)
    ∙ ap (λ b. cond b (Some NotInIsa) None)
    (sym c.is_refused_by.ensures ∙ c.if-is_refused_by.false)

pub location_past-requires-clause-there : goal.location_past-requires-clause-there
location_past-requires-clause-there c =
    let rest = cond (is_refused c.args.spec.now c.args.body.now) (Some NotInIsa) None in
    let good : body_fault c.args.spec.now c.args.location.now c.args.body.now ≡ None =
    fault_is c.args.spec.now c.args.location.now c.args.body.now c.size_at-size.result
    c.requires.here
    (c.size_at-size.ensures ∙ ap (λ n. size_of n c.args.body.now) c.offset_in.ensures)
    ∙ ap (λ o. option_or o rest) (sym c.room_fault.ensures.fault ∙ c.in-None.is)
    ∙ ap (λ b. cond b (Some NotInIsa) None)
    (sym c.is_refused_by.ensures ∙ c.if-is_refused_by.false) in
    entered c.args.spec.now c.args.location.now c.args.body.now c.requires.here good

pub returns-clause-short : goal.returns-clause-short
returns-clause-short c =
    let rest = cond (is_refused c.args.spec.now c.args.body.now) (Some NotInIsa) None in
    let good : body_fault c.args.spec.now c.args.location.now c.args.body.now ≡ None =
    fault_is c.args.spec.now c.args.location.now c.args.body.now c.size_at-size.result
    c.requires.here
    (c.size_at-size.ensures ∙ ap (λ n. size_of n c.args.body.now) c.offset_in.ensures)
    ∙ ap (λ o. option_or o rest) (sym c.room_fault.ensures.fault ∙ c.in-None.is)
    ∙ ap (λ b. cond b (Some NotInIsa) None)
    (sym c.is_refused_by.ensures ∙ c.if-is_refused_by.false) in
    subst IsLocation (sym c.location_past.ensures)
    (entered c.args.spec.now c.args.location.now c.args.body.now c.requires.here good)
