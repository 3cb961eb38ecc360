use Rattle.std.proofs.Common.{◌≡◌, ◌∙◌, All, List, [], ◌∷◌, ap, sym, subst}
use Rattle.std.proofs.lemmas.List.Elements.{All-cons, All-nil}
use Rattle.std.proofs.lemmas.Result.{err_from_is_err_and}
use Rattle.rvs_plan.specs.World.{world, IsAnswer}
use Rattle.rvs_plan.specs.Meets.{MeetsWith}
use Rattle.rvs_plan.proofs.Sequence.{Meets-then, Meets-stop, Meets-gives, Meets-no_memory}
use Rattle.rvs_plan.proofs.Sequence.{Meets-weaker}
use Rattle.rvs_insn.specs.Isa.{Isa}
use Rattle.rvs_isa.specs.declared.accepted_spec.AcceptedSpec.{AcceptedSpec}
use Rattle.rvs_device.specs.DeviceFile.{Told}
use Rattle.rvs_device.specs.DeviceView.{told}
use Rattle.rvs_select.specs.declared.database.Entry.{Entry}
use Rattle.rvs_plan.specs.Plan.{Plan}
use Rattle.rvs_plan.specs.declared.status.Finish.{Finish}
use Rattle.rvs_run.specs.RunTests.{judges_tests}
use Rattle.rvs_run.specs.RunView.{bench_view}
use Rattle.rvs_run.specs.RunDatabase.{chosen, DatabaseInputs, with_device}
use Rattle.rvs_run.specs.RunDatabase.{device_behind, database_behind, database_bench}
use Rattle.rvs_run.specs.RunDatabase.{runs_database}
use Rattle.rvs_generate.specs.Tests.{to_read, IsReady}
use Rattle.rvs_generate.specs.declared.sources.Given.{Given}
use Rattle.rvs_generate.specs.declared.sources.Source.{Source}
use Rattle.rvs_generate.specs.declared.sources.Source.TheVariants.{Read}
use Rattle.rvs_run.proofs.run_database.run_selected.Goals as goal

abbrev inputs_with : Isa → List Entry → Told → DatabaseInputs
inputs_with isa entries told = record { isa = isa; entries = entries; device = told }

pub returns-in_err-said : goal.returns-in_err-said
returns-in_err-said g c =
    let asked = c.args.asked.now in
    let out = g.O.Sink.state c.args.out.now in
    let p = err_from_is_err_and c.from_residual.result c.from_residual.ensures.1 in
    rw (p.1, p.2) (Meets-weaker (Meets-stop (runs_database asked.program asked.work)
    (Meets-stop (λ (said : AcceptedSpec). database_behind asked said.spec)
    (c.in_err-said.ensures out))))

pub returns-in_err-database : goal.returns-in_err-database
returns-in_err-database g c =
    let asked = c.args.asked.now in
    let out = g.O.Sink.state c.args.out.now in
    let p = err_from_is_err_and c.from_residual-in_err-database.result
    c.from_residual-in_err-database.ensures.1 in
    rw (p.1, p.2) (Meets-weaker (Meets-stop (runs_database asked.program asked.work)
    (Meets-then (λ (said : AcceptedSpec). database_behind asked said.spec)
    (c.in_ok-said.ensures out)
    (Meets-stop (device_behind asked.device c.in_ok-said.said.spec)
    (c.in_err-database.ensures out)))))

pub returns-in_err-device : goal.returns-in_err-device
returns-in_err-device g c =
    let asked = c.args.asked.now in
    let out = g.O.Sink.state c.args.out.now in
    let isa = c.in_ok-said.said.spec in
    let read = rw c.in_err-device.ensures.none at (c.read_device_file.ensures out) in
    let p = err_from_is_err_and c.from_residual-in_err-device.result
    c.from_residual-in_err-device.ensures.1 in
    rw (p.1, p.2) (Meets-weaker (Meets-stop (runs_database asked.program asked.work)
    (Meets-then (λ (said : AcceptedSpec). database_behind asked said.spec)
    (c.in_ok-said.ensures out)
    (Meets-then (device_behind asked.device isa) (c.in_ok-database.ensures out)
    (Meets-stop (with_device isa c.in_ok-database.database) read)))))

pub returns-in_err-bench : goal.returns-in_err-bench
returns-in_err-bench g c =
    let asked = c.args.asked.now in
    let out = g.O.Sink.state c.args.out.now in
    let isa = c.in_ok-said.said.spec in
    let entries = c.in_ok-database.database in
    let inputs = inputs_with isa entries (told c.in_ok-device.device) in
    let w = world (g.H.Host.state c.read_device_file.new.host) out in
    let next = runs_database asked.program asked.work in
    let read = rw c.in_ok-device.ensures.both.0 at (c.read_device_file.ensures out) in
    let p = err_from_is_err_and c.from_residual-in_err-bench.result
    c.from_residual-in_err-bench.ensures.1 in
    rw (p.1, p.2) (Meets-weaker (Meets-then next
    (Meets-then (λ (said : AcceptedSpec). database_behind asked said.spec)
    (c.in_ok-said.ensures out)
    (Meets-then (device_behind asked.device isa) (c.in_ok-database.ensures out)
    (Meets-then (with_device isa entries) read (Meets-gives inputs w))))
    (Meets-no_memory (next inputs) w)))

pub returns-in_err-sources : goal.returns-in_err-sources
returns-in_err-sources g c =
    let asked = c.args.asked.now in
    let out = g.O.Sink.state c.args.out.now in
    let isa = c.in_ok-said.said.spec in
    let entries = c.in_ok-database.database in
    let inputs = inputs_with isa entries (told c.in_ok-device.device) in
    let w = world (g.H.Host.state c.read_device_file.new.host) out in
    let next = runs_database asked.program asked.work in
    let read = rw c.in_ok-device.ensures.both.0 at (c.read_device_file.ensures out) in
    let p = err_from_is_err_and c.from_residual-in_err-sources.result
    c.from_residual-in_err-sources.ensures.1 in
    rw (p.1, p.2) (Meets-weaker (Meets-then next
    (Meets-then (λ (said : AcceptedSpec). database_behind asked said.spec)
    (c.in_ok-said.ensures out)
    (Meets-then (device_behind asked.device isa) (c.in_ok-database.ensures out)
    (Meets-then (with_device isa entries) read (Meets-gives inputs w))))
    (Meets-no_memory (next inputs) w)))

pub returns : goal.returns
returns g c =
    let asked = c.args.asked.now in
    let out = g.O.Sink.state c.args.out.now in
    let isa = c.in_ok-said.said.spec in
    let entries = c.in_ok-database.database in
    let inputs = inputs_with isa entries (told c.in_ok-device.device) in
    let host = g.H.Host.state c.read_device_file.new.host in
    let w = world host out in
    let next = runs_database asked.program asked.work in
    let bench = database_bench asked.program asked.work inputs in
    let old = world host (g.O.Sink.state c.args.out.now) in
    let new = world (g.H.Host.state c.judge_tests-ended.new.host)
    (g.O.Sink.state c.judge_tests-ended.new.out) in
    let read = rw c.in_ok-device.ensures.both.0 at (c.read_device_file.ensures out) in
    let kept : c.in_ok-bench.database ≡ entries =
    c.in_ok-bench.ensures.both.1 ∙ c.in_ok-device.ensures.both.1 in
    let made : bench_view c.in_ok-sources.bench ≡ bench =
    ap bench_view c.in_ok-sources.ensures.both.1
    ∙ rw c.in_ok-bench.ensures.both.0 at c.bench_of-bench.ensures in
    let sources : c.as_slice-2.result.now ≡ to_read (chosen 0 entries) =
    c.as_slice-2.ensures ∙ rw c.in_ok-sources.ensures.both.0 at c.choose-sources.ensures
    ∙ ap (λ (es : List Entry). to_read (chosen 0 es)) (c.as_slice.ensures ∙ kept) in
    let judged = subst (λ (plan : Plan Finish). MeetsWith IsAnswer plan old new
    c.judge_tests-ended.result) (λ i. judges_tests (made i) (sources i))
    c.judge_tests-ended.ensures in
    Meets-then next (Meets-weaker
    (Meets-then (λ (said : AcceptedSpec). database_behind asked said.spec)
    (c.in_ok-said.ensures out)
    (Meets-then (device_behind asked.device isa) (c.in_ok-database.ensures out)
    (Meets-then (with_device isa entries) read (Meets-gives inputs w)))))
    judged

-- tests of a database are as they come
all-read : (isa : Isa) (given : List Given) → All (IsReady isa) (to_read given)
all-read isa [] = All-nil (IsReady isa)
all-read isa (g ∷ given) = All-cons (IsReady isa) (Read g) (to_read given) tt (all-read isa given)

pub judge_tests-ended-requires : goal.judge_tests-ended-requires
judge_tests-ended-requires g c =
    let isa = c.in_ok-sources.bench.isa in
    subst (λ (ss : List Source). All (IsReady isa) ss)
    (sym (c.as_slice-2.ensures ∙ rw c.in_ok-sources.ensures.both.0 at c.choose-sources.ensures))
    (all-read isa (chosen 0 c.as_slice.result.now))
