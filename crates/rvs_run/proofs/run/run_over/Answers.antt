use Rattle.std.proofs.Common.{◌≡◌, ◌∙◌, ap, subst, rules}
use Rattle.std.proofs.lemmas.Result.{err_from_is_err_and}
use Rattle.rvs_plan.specs.World.{world, IsAnswer}
use Rattle.rvs_plan.specs.Plan.{Plan}
use Rattle.rvs_plan.specs.Meets.{MeetsWith}
use Rattle.rvs_plan.specs.declared.status.Finish.{Finish}
use Rattle.rvs_plan.proofs.Sequence.{Meets-then, Meets-stop, Meets-no_memory, Meets-weaker}
use Rattle.rvs_device.specs.DeviceFile.{Told}
use Rattle.rvs_device.specs.DeviceView.{told}
use Rattle.rvs_inputs.specs.GroupFiles.{Inputs}
use Rattle.rvs_inputs.specs.GroupsView.{inputs_view}
use Rattle.rvs_generate.specs.GenerateTexts.{listing}
use Rattle.rvs_generate.specs.Tests.{tests_of, held}
use Rattle.rvs_run.specs.RunTests.{judges_gathered, RunInputs, bench_of, runs}
use Rattle.rvs_run.specs.RunView.{bench_view}
use Rattle.rvs_generate.specs.declared.gathering.Gathered.{Gathered}
use Rattle.rvs_words.specs.declared.command.RunArguments.{RunArguments}
use Rattle.rvs_generate.proofs.Runnable.{all-ready}
use Rattle.rvs_run.proofs.run.run_over.Goals as goal

abbrev inputs_with : Inputs → Told → RunInputs
inputs_with inputs told = record { groups = inputs; device = told }

-- what follows when the device file is read
abbrev next : RunArguments → Inputs → Told → Plan Finish
next asked inputs told = runs asked.program asked.work (inputs_with inputs told)

pub returns-in_err-device : goal.returns-in_err-device
returns-in_err-device g c =
    let inputs = inputs_view c.args.inputs.now in
    let p = err_from_is_err_and c.from_residual.result c.from_residual.ensures.1 in
    rw (p.1, p.2) (Meets-weaker (Meets-stop (next c.args.asked.now inputs)
    (c.in_err-device.ensures (g.O.Sink.state c.args.out.now))))

pub returns-in_err-gathered : goal.returns-in_err-gathered
returns-in_err-gathered g c =
    let out = g.O.Sink.state c.args.out.now in
    let inputs = inputs_view c.args.inputs.now in
    let device = told c.in_ok-device.device in
    let w = world (g.H.Host.state c.read_device_file.new.host) out in
    let p = err_from_is_err_and c.from_residual-in_err-gathered.result
    c.from_residual-in_err-gathered.ensures.1 in
    rw (p.1, p.2) (Meets-weaker (Meets-then (next c.args.asked.now inputs)
    (c.in_ok-device.ensures out) (Meets-no_memory (next c.args.asked.now inputs device) w)))

pub returns-in_err-bench : goal.returns-in_err-bench
returns-in_err-bench g c =
    let out = g.O.Sink.state c.args.out.now in
    let inputs = inputs_view c.args.inputs.now in
    let device = told c.in_ok-device.device in
    let w = world (g.H.Host.state c.read_device_file.new.host) out in
    let p = err_from_is_err_and c.from_residual-in_err-bench.result
    c.from_residual-in_err-bench.ensures.1 in
    rw (p.1, p.2) (Meets-weaker (Meets-then (next c.args.asked.now inputs)
    (c.in_ok-device.ensures out) (Meets-no_memory (next c.args.asked.now inputs device) w)))

pub judge_gathered-ended-requires : goal.judge_gathered-ended-requires
judge_gathered-ended-requires g c =
    let inputs = c.args.inputs.now in
    let ready = all-ready inputs.isa inputs.groups c.requires in
    search rules

pub returns : goal.returns
returns g c =
    let inputs = inputs_view c.args.inputs.now in
    let device = told c.in_ok-device.device in
    let host = g.H.Host.state c.read_device_file.new.host in
    let bench = bench_of c.args.asked.now.program c.args.asked.now.work
    (inputs_with inputs device) in
    let old = world host (g.O.Sink.state c.args.out.now) in
    let new = world (g.H.Host.state c.judge_gathered-ended.new.host)
    (g.O.Sink.state c.judge_gathered-ended.new.out) in
    let all = c.in_ok-gathered.ensures.both.0 in
    let text : c.in_ok-bench.gathered.text ≡ listing inputs.isa inputs.groups =
    ap (λ (g : Gathered). g.text) c.in_ok-bench.ensures.both.1
    ∙ rw all at c.gather_tests.ensures.text in
    let tests : c.in_ok-bench.gathered.tests ≡ held (tests_of inputs.isa inputs.groups) =
    ap (λ (g : Gathered). g.tests) c.in_ok-bench.ensures.both.1
    ∙ rw all at c.gather_tests.ensures.tests in
    let made : bench_view c.in_ok-bench.bench ≡ bench =
    rw c.in_ok-bench.ensures.both.0 at c.bench_of-bench.ensures
    ∙ ap (λ (d : Told). bench_of c.args.asked.now.program c.args.asked.now.work
    (inputs_with inputs d)) (ap told c.in_ok-gathered.ensures.both.1) in
    let judged = subst (λ (plan : Plan Finish). MeetsWith IsAnswer plan old new
    c.judge_gathered-ended.result)
    (λ i. judges_gathered (made i) (text i) (tests i)) c.judge_gathered-ended.ensures in
    Meets-then (next c.args.asked.now inputs)
    (Meets-weaker (c.in_ok-device.ensures (g.O.Sink.state c.args.out.now))) judged
