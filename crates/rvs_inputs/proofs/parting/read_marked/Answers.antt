use Rattle.std.proofs.Common.{List, Ok, subst}
use Rattle.std.proofs.lemmas.Result.{err_from_is_err_and}
use Rattle.rvs_plan.specs.World.{world}
use Rattle.rvs_plan.specs.Plan.{gives}
use Rattle.rvs_plan.specs.Meets.{Meets}
use Rattle.rvs_plan.proofs.Sequence.{Meets-then, Meets-stop, Meets-gives, Meets-no_memory}
use Rattle.rvs_select.specs.declared.database.Entry.{Entry}
use Rattle.rvs_inputs.specs.DatabaseInput.{gives_marked}
use Rattle.rvs_inputs.proofs.parting.read_marked.Goals as goal

pub returns-in_err-database : goal.returns-in_err-database
returns-in_err-database g c = λ out.
    let p = err_from_is_err_and c.from_residual.result c.from_residual.ensures.1 in
    rw (p.1, p.2) (Meets-stop (gives_marked c.args.part.now) (c.in_err-database.ensures out))

pub returns-in_err-marked : goal.returns-in_err-marked
returns-in_err-marked g c = λ out.
    let p = err_from_is_err_and c.from_residual-in_err-marked.result
    c.from_residual-in_err-marked.ensures.1 in
    rw (p.1, p.2) (Meets-then (gives_marked c.args.part.now) (c.in_ok-database.ensures out)
    (Meets-no_memory _ (world (g.H.Host.state c.read_database_file.new.host) out)))

pub returns : goal.returns
returns g c = λ out.
    let w = world (g.H.Host.state c.read_database_file.new.host) out in
    let all = c.in_ok-marked.field-0 in
    Meets-then (gives_marked c.args.part.now) (c.in_ok-database.ensures out)
    (subst (λ (entries : List Entry). Meets (gives entries) w w (Ok all))
    c.in_ok-marked.ensures (Meets-gives all w))
