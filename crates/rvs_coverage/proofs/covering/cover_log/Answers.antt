use Rattle.std.proofs.Common.{List, ℕ}
use Rattle.std.proofs.lemmas.Result.{err_from_is_err_and}
use Rattle.rvs_plan.specs.Plan.{Plan}
use Rattle.rvs_plan.specs.World.{world}
use Rattle.rvs_plan.proofs.Sequence.{Meets-then, Meets-stop}
use Rattle.rvs_log.proofs.Telling.{told-nothing}
use Rattle.rvs_inputs.specs.GroupFiles.{Inputs, group_inputs}
use Rattle.rvs_inputs.specs.Printing.{print_text}
use Rattle.rvs_inputs.proofs.GroupInputs.{reads-inputs}
use Rattle.rvs_inputs.proofs.Keeping.{reads-none}
use Rattle.rvs_coverage.specs.Coverage.{measure}
use Rattle.rvs_coverage.specs.LogReport.{reads_logs}
use Rattle.rvs_coverage.proofs.Quiet.{meets-unlost, told-unlost}
use Rattle.rvs_coverage.proofs.Tellings.{still-tells, told-since}
use Rattle.rvs_words.specs.declared.command.CoverageArguments.{CoverageArguments}
use Rattle.rvs_coverage.proofs.covering.cover_log.Goals as goal

-- what follows when the inputs are read
abbrev next : CoverageArguments → Inputs → Plan (List ℕ)
next asked inputs = reads_logs (measure asked.windows) asked.logs inputs.groups

pub returns-in_err-inputs-clause-met : goal.returns-in_err-inputs-clause-met
returns-in_err-inputs-clause-met g c =
    let p = err_from_is_err_and c.from_residual.result c.from_residual.ensures.1 in
    rw (p.1, p.2) (Meets-stop print_text (Meets-stop (next c.args.asked.now)
    (c.in_err-inputs.ensures.met (g.O.Sink.state c.args.out.now))))

pub returns-in_err-report-clause-met : goal.returns-in_err-report-clause-met
returns-in_err-report-clause-met g c =
    let p = err_from_is_err_and c.from_residual-in_err-report.result
    c.from_residual-in_err-report.ensures.1 in
    let out = g.O.Sink.state c.args.out.now in
    rw (p.1, p.2) (Meets-stop print_text (Meets-then (next c.args.asked.now)
    (c.in_ok-inputs.ensures.met out) (c.in_err-report.ensures.met out)))

pub returns-clause-met : goal.returns-clause-met
returns-clause-met g c =
    let out = g.O.Sink.state c.args.out.now in
    Meets-then print_text (Meets-then (next c.args.asked.now) (c.in_ok-inputs.ensures.met out)
    (c.in_ok-report.ensures.met out))
    (meets-unlost c.print_text.result c.unlost.result c.unlost.ensures
    (c.print_text.ensures (g.H.Host.state c.report_logs-outcome.new.host)))

pub returns-in_err-inputs-clause-told : goal.returns-in_err-inputs-clause-told
returns-in_err-inputs-clause-told g c =
    let p = err_from_is_err_and c.from_residual.result c.from_residual.ensures.1 in
    rw (p.1, p.2) (told-nothing _ _ _ _)

pub returns-in_err-report-clause-told : goal.returns-in_err-report-clause-told
returns-in_err-report-clause-told g c =
    let p = err_from_is_err_and c.from_residual-in_err-report.result
    c.from_residual-in_err-report.ensures.1 in
    let asked = c.args.asked.now in
    let sink = g.E.Sink.state c.args.err.now in
    let plan = group_inputs asked.isa asked.families asked.groups in
    rw (p.1, p.2) (told-since (still-tells plan _ (world (g.H.Host.state c.args.host.now) sink)
    (world (g.H.Host.state c.read_inputs.new.host) sink)
    (reads-none plan (reads-inputs asked.isa asked.families asked.groups))
    (c.in_ok-inputs.ensures.met sink)) c.in_err-report.ensures.told)

pub returns-clause-told : goal.returns-clause-told
returns-clause-told g c =
    let asked = c.args.asked.now in
    let sink = g.E.Sink.state c.args.err.now in
    let plan = group_inputs asked.isa asked.families asked.groups in
    told-unlost c.print_text.result c.unlost.result c.unlost.ensures
    (told-since (still-tells plan _ (world (g.H.Host.state c.args.host.now) sink)
    (world (g.H.Host.state c.read_inputs.new.host) sink)
    (reads-none plan (reads-inputs asked.isa asked.families asked.groups))
    (c.in_ok-inputs.ensures.met sink)) c.in_ok-report.ensures.told)
