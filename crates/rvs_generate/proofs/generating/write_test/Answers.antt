use Rattle.std.proofs.Common.{ℕ, Bool, List, Option, Ok, if◌then◌else◌, sym, subst}
use Rattle.std.proofs.lemmas.Result.{err_from_is_err_and}
use Rattle.rvs_plan.specs.World.{world}
use Rattle.rvs_plan.specs.Plan.{Plan, gives}
use Rattle.rvs_plan.specs.Meets.{Meets}
use Rattle.rvs_plan.proofs.Sequence.{Meets-gives, Meets-no_memory}
use Rattle.rvs_cgf.specs.GroupView.{label_view}
use Rattle.rvs_test.specs.Made.{text_of_label}
use Rattle.rvs_generate.specs.Generate.{path_of, writes_text}
use Rattle.rvs_generate.proofs.generating.write_test.Goals as goal

abbrev chosen : Bool → List ℕ → Option (List ℕ) → Plan (Unit {0})
chosen b path text = if b then writes_text path text else gives tt

pub returns-in_err-push_unselected-clause-met : goal.returns-in_err-push_unselected-clause-met
returns-in_err-push_unselected-clause-met g c = λ out.
    let p = err_from_is_err_and c.from_residual.result c.from_residual.ensures.1 in
    rw (p.1, p.2) (Meets-no_memory _ (world (g.H.Host.state c.args.host.now) out))

pub returns-then-not-label-clause-met : goal.returns-then-not-label-clause-met
returns-then-not-label-clause-met g c = λ out.
    let same = world (g.H.Host.state c.args.host.now) out in
    subst (λ (b : Bool). Meets (chosen b (path_of c.args.work.now c.args.label.now.name)
    (text_of_label c.args.isa.now (label_view c.args.label.now))) same same (Ok tt))
    (sym c.if-not-label.true) (Meets-gives tt same)

pub returns-in_err-made-clause-met : goal.returns-in_err-made-clause-met
returns-in_err-made-clause-met g c = λ out.
    let p = err_from_is_err_and c.from_residual-in_err-made.result
    c.from_residual-in_err-made.ensures.1 in
    rw (p.1, p.2) (Meets-no_memory _ (world (g.H.Host.state c.args.host.now) out))

pub returns-clause-met : goal.returns-clause-met
returns-clause-met g c = λ out.
    let path = path_of c.args.work.now c.args.label.now.name in
    let old = world (g.H.Host.state c.args.host.now) out in
    let new = world (g.H.Host.state c.write_text-written.new.host) out in
    let result = c.write_text-written.result in
    let written = subst (λ (text : Option (List ℕ)). Meets (writes_text path text) old new result)
    c.in_ok-made.ensures.made.text (c.write_text-written.ensures out) in
    subst (λ (b : Bool). Meets (chosen b path
    (text_of_label c.args.isa.now (label_view c.args.label.now))) old new result)
    (sym c.if-not-label.false) written
