use Rattle.std.proofs.lemmas.Result.{err_from_is_err_and}
use Rattle.rvs_plan.specs.World.{world}
use Rattle.rvs_plan.specs.Plan.{Ends}
use Rattle.rvs_plan.proofs.Sequence.{Meets-then, Meets-stop, Meets-no_memory}
use Rattle.rvs_inputs.specs.GroupFiles.{joined, within_limit}
use Rattle.rvs_inputs.proofs.group_files.join_file.Goals as goal

pub returns-in_err-bytes : goal.returns-in_err-bytes
returns-in_err-bytes g c = λ out.
    let p = err_from_is_err_and c.from_residual.result c.from_residual.ensures.1 in
    let stopped = rw c.room-limit.ensures at (c.in_err-bytes.ensures out) in
    rw (p.1, p.2) (Meets-stop (λ bytes. Ends (within_limit (joined c.args.front bytes))) stopped)

pub returns-in_err-text : goal.returns-in_err-text
returns-in_err-text g c = λ out.
    let p = err_from_is_err_and c.from_residual-in_err-text.result
    c.from_residual-in_err-text.ensures.1 in
    let read = rw c.room-limit.ensures at (c.in_ok-bytes.ensures out) in
    rw (p.1, p.2) (Meets-then (λ bytes. Ends (within_limit (joined c.args.front bytes))) read
    (Meets-no_memory (Ends (within_limit (joined c.args.front c.in_ok-bytes.bytes)))
    (world (g.H.Host.state c.read_part.new.host) out)))

pub returns : goal.returns
returns g c = λ out.
    let read = rw c.room-limit.ensures at (c.in_ok-bytes.ensures out) in
    let checked = rw c.in_ok-text.ensures at
    (c.within_limit.ensures (world (g.H.Host.state c.read_part.new.host) out)) in
    Meets-then (λ bytes. Ends (within_limit (joined c.args.front bytes))) read checked
