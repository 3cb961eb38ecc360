use Rattle.std.proofs.lemmas.Result.{err_from_is_err_and}
use Rattle.rvs_plan.specs.World.{world}
use Rattle.rvs_plan.specs.Plan.{gives, ◌>>=◌}
use Rattle.rvs_plan.proofs.Sequence.{Meets-then, Meets-stop, Meets-gives}
use Rattle.rvs_inputs.specs.GroupsView.{groups_view}
use Rattle.rvs_inputs.specs.GroupFiles.{group_files}
use Rattle.rvs_inputs.proofs.group_files.read_inputs.Goals as goal

pub returns-in_err-said-clause-met : goal.returns-in_err-said-clause-met
returns-in_err-said-clause-met g c = λ out.
    let p = err_from_is_err_and c.from_residual.result c.from_residual.ensures.1 in
    rw (p.1, p.2)
    (Meets-stop (λ said. group_files said.spec c.args.families c.args.names.now >>=
    (λ groups. gives (record {
      isa = said.spec;
      groups = groups;
    }))) (c.in_err-said.ensures out))

pub returns-in_err-groups-clause-met : goal.returns-in_err-groups-clause-met
returns-in_err-groups-clause-met g c = λ out.
    let p = err_from_is_err_and c.from_residual-in_err-groups.result
    c.from_residual-in_err-groups.ensures.1 in
    let isa = c.in_ok-said.said.spec in
    rw (p.1, p.2)
    (Meets-then (λ said. group_files said.spec c.args.families c.args.names.now >>=
    (λ groups. gives (record {
      isa = said.spec;
      groups = groups;
    }))) (c.in_ok-said.ensures out) (Meets-stop
    (λ groups. gives (record { isa = isa; groups = groups }))
    (c.in_err-groups.ensures.met out)))

pub returns-clause-met : goal.returns-clause-met
returns-clause-met g c = λ out.
    let isa = c.in_ok-said.said.spec in
    let w = world (g.H.Host.state c.read_group_files.new.host) out in
    Meets-then (λ said. group_files said.spec c.args.families c.args.names.now >>=
    (λ groups. gives (record {
      isa = said.spec;
      groups = groups;
    }))) (c.in_ok-said.ensures out)
    (Meets-then (λ groups. gives (record { isa = isa; groups = groups }))
    (c.in_ok-groups.ensures.met out) (Meets-gives (record {
      isa = isa;
      groups = groups_view c.in_ok-groups.groups;
    }) w))
