use Rattle.std.proofs.lemmas.Result.{err_from_is_err_and}
use Rattle.rvs_base.specs.Answers.{seen}
use Rattle.rvs_plan.specs.World.{world}
use Rattle.rvs_plan.specs.Plan.{Ends}
use Rattle.rvs_plan.proofs.Sequence.{Meets-then, Meets-stop}
use Rattle.rvs_cgf.specs.Print.{normal_text}
use Rattle.rvs_inputs.specs.GroupFiles.{groups_found}
use Rattle.rvs_plain.proofs.normalizing.read_normal_files.Goals as goal

pub returns-in_err-text : goal.returns-in_err-text
returns-in_err-text g c = λ out.
    let p = err_from_is_err_and c.from_residual.result c.from_residual.ensures.1 in
    rw (p.1, p.2)
    (Meets-stop (λ text. Ends (seen normal_text (groups_found c.args.isa.now c.args.families text)))
    (rw c.as_slice.ensures at (c.in_err-text.ensures out)))

pub returns : goal.returns
returns g c = λ out.
    let w = world (g.H.Host.state c.read_joined.new.host) out in
    Meets-then (λ text. Ends (seen normal_text (groups_found c.args.isa.now c.args.families text)))
    (rw c.as_slice.ensures at (c.in_ok-text.ensures out)) (c.write_text.ensures w)
