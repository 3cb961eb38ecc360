use Rattle.std.proofs.Common.{◌≡◌, ◌∙◌, List, ℕ, subst, sym}
use Rattle.std.proofs.lemmas.Result.{err_from_is_err_and}
use Rattle.rvs_plan.specs.World.{world, IsAnswer}
use Rattle.rvs_plan.specs.Plan.{Plan, gives, ◌>>=◌}
use Rattle.rvs_plan.specs.Meets.{MeetsWith}
use Rattle.rvs_plan.specs.declared.status.Finish.{Finish}
use Rattle.rvs_plan.proofs.Sequence.{Meets-then, Meets-stop, Meets-weaker}
use Rattle.rvs_device.specs.DeviceFile.{Told}
use Rattle.rvs_inputs.specs.GroupFiles.{Inputs}
use Rattle.rvs_inputs.specs.DeviceInput.{device_file}
use Rattle.rvs_inputs.proofs.Chains.{then-then, then-same}
use Rattle.rvs_generate.specs.TestedInputs.{part_inputs}
use Rattle.rvs_run.specs.RunTests.{RunInputs, run, runs, runs_over}
use Rattle.rvs_words.specs.declared.command.RunArguments.{RunArguments}
use Rattle.rvs_run.proofs.run.run_tests.Goals as goal

abbrev with_device : Inputs → Told → Plan RunInputs
with_device inputs told = gives (record { groups = inputs; device = told })

abbrev device_behind : List ℕ → Inputs → Plan RunInputs
device_behind device inputs = device_file device >>= with_device inputs

-- the core and the groups are read, and then all else
one_behind : (asked : RunArguments) → run asked
    ≡ (part_inputs asked.part asked.isa asked.families asked.groups >>= runs_over asked)
one_behind asked =
    let inputs = part_inputs asked.part asked.isa asked.families asked.groups in
    let next = runs asked.program asked.work in
    then-then inputs (device_behind asked.device) next
    ∙ then-same inputs (λ i. device_behind asked.device i >>= next) (runs_over asked)
    (λ i. then-then (device_file asked.device) (with_device i) next)

pub returns-in_err-inputs : goal.returns-in_err-inputs
returns-in_err-inputs g c =
    let out = g.O.Sink.state c.args.out.now in
    let p = err_from_is_err_and c.from_residual.result c.from_residual.ensures.1 in
    rw (p.1, p.2) (Meets-weaker (Meets-stop (runs c.args.asked.now.program c.args.asked.now.work)
    (Meets-stop (device_behind c.args.asked.now.device) (c.in_err-inputs.ensures.met out))))

pub returns : goal.returns
returns g c =
    let asked = c.args.asked.now in
    let out = g.O.Sink.state c.args.out.now in
    let new = world (g.H.Host.state c.run_over-finish.new.host)
    (g.O.Sink.state c.run_over-finish.new.out) in
    subst (λ (p : Plan Finish). MeetsWith IsAnswer p (world (g.H.Host.state c.args.host.now) out)
    new c.run_over-finish.result) (sym (one_behind asked))
    (Meets-then (runs_over asked) (Meets-weaker (c.in_ok-inputs.ensures.met out))
    c.run_over-finish.ensures)
