use Rattle.std.proofs.Common.{◌≡◌, List, All, map, Ok, ap, sym, subst, ◌∙◌}
use Rattle.std.proofs.lemmas.Result.{err_from_is_err_and}
use Rattle.rvs_plan.specs.World.{world}
use Rattle.rvs_plan.specs.Plan.{gives}
use Rattle.rvs_plan.specs.Meets.{Meets}
use Rattle.rvs_plan.proofs.Sequence.{Meets-then, Meets-stop, Meets-gives, Meets-no_memory}
use Rattle.rvs_cgf.specs.Groups.{Label}
use Rattle.rvs_cgf.specs.GroupView.{label_view}
use Rattle.rvs_points.specs.declared.group.Label.{Label as Code}
use Rattle.rvs_inputs.specs.GroupsView.{groups_view, inputs_view}
use Rattle.rvs_inputs.specs.GroupFiles.{Inputs, parted_inputs}
use Rattle.rvs_inputs.proofs.PartsKept.{parted_map, all-parted}
use Rattle.rvs_generate.specs.Testable.{IsTestableIfSelected}
use Rattle.rvs_generate.specs.TestedInputs.{gives_part}
use Rattle.rvs_generate.proofs.rooms.read_labels.Goals as goal

pub returns-in_err-inputs-clause-met : goal.returns-in_err-inputs-clause-met
returns-in_err-inputs-clause-met g c = λ out.
    let p = err_from_is_err_and c.from_residual.result c.from_residual.ensures.1 in
    rw (p.1, p.2) (Meets-stop (gives_part c.args.part.now) (c.in_err-inputs.ensures.met out))

pub returns-in_err-groups-clause-met : goal.returns-in_err-groups-clause-met
returns-in_err-groups-clause-met g c = λ out.
    let p = err_from_is_err_and c.from_residual-in_err-groups.result
    c.from_residual-in_err-groups.ensures.1 in
    rw (p.1, p.2) (Meets-then (gives_part c.args.part.now) (c.in_ok-inputs.ensures.met out)
    (Meets-no_memory _ (world (g.H.Host.state c.read_tested.new.host) out)))

pub returns-clause-met : goal.returns-clause-met
returns-clause-met g c = λ out.
    let w = world (g.H.Host.state c.read_tested.new.host) out in
    let inputs = c.in_ok-inputs.inputs in
    let with : List Label → Inputs = λ labels. record { isa = inputs.isa; groups = labels } in
    let kept = with (groups_view c.in_ok-groups.groups) in
    let same : kept ≡ parted_inputs c.args.part.now (inputs_view inputs) =
    ap (λ (labels : List Code). with (map label_view labels)) c.in_ok-groups.ensures
    ∙ ap with (sym (parted_map label_view c.args.part.now 0 inputs.groups)) in
    Meets-then (gives_part c.args.part.now) (c.in_ok-inputs.ensures.met out)
    (subst (λ (i : Inputs). Meets (gives i) w w (Ok kept)) same (Meets-gives kept w))

pub returns-clause-testable : goal.returns-clause-testable
returns-clause-testable g c =
    let inputs = c.in_ok-inputs.inputs in
    subst (All (λ (l : Code). IsTestableIfSelected inputs.isa (label_view l)))
    (sym c.in_ok-groups.ensures)
    (all-parted (λ (l : Code). IsTestableIfSelected inputs.isa (label_view l)) c.args.part.now 0
    inputs.groups c.in_ok-inputs.ensures.testable)
