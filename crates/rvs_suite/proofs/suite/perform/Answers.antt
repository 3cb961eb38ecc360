use Rattle.std.proofs.lemmas.Result.{err_from_is_err_and}
use Rattle.std.proofs.Common.{subst}
use Rattle.rvs_log.proofs.Telling.{told-nothing}
use Rattle.rvs_plan.specs.World.{world}
use Rattle.rvs_words.specs.Words.{texts}
use Rattle.rvs_words.specs.Commands.{command_of}
use Rattle.rvs_suite.specs.Plans.{Performs}
use Rattle.rvs_promises.specs.Progressing.{asks_progress, lines_of}
use Rattle.rvs_coverage.specs.Telling.{HasToldOf, as_planned}
use Rattle.rvs_words.specs.declared.command.Command.{Command}
use Rattle.rvs_suite.proofs.Performing.{Performs-no_memory}
use Rattle.rvs_suite.proofs.suite.perform.Goals as goal

pub returns-in_err-command-clause-done : goal.returns-in_err-command-clause-done
returns-in_err-command-clause-done g c =
    let p = err_from_is_err_and c.from_residual.result c.from_residual.ensures.1 in
    rw (p.1, p.2) (Performs-no_memory (command_of (texts c.args.words.now))
    (world (g.H.Host.state c.args.host.now) (g.O.Sink.state c.args.out.now)))

pub returns-in_err-command-clause-told : goal.returns-in_err-command-clause-told
returns-in_err-command-clause-told g c =
    let p = err_from_is_err_and c.from_residual.result c.from_residual.ensures.1 in
    rw (p.1, p.2) (told-nothing _ _ _ _)

pub returns-clause-done : goal.returns-clause-done
returns-clause-done g c =
    let old = world (g.H.Host.state c.args.host.now) (g.O.Sink.state c.args.out.now) in
    let new =
    world (g.H.Host.state c.run_command-ended.new.host)
    (g.O.Sink.state c.run_command-ended.new.out) in
    subst (λ (command : Command). Performs command old new (as_planned c.run_command-ended.result))
    c.in_ok-command.ensures c.run_command-ended.ensures.done

pub returns-clause-told : goal.returns-clause-told
returns-clause-told g c =
    subst (λ (command : Command). HasToldOf (asks_progress command) (lines_of command)
    (g.H.Host.state c.args.host.now) (g.E.Sink.state c.args.err.now)
    (g.E.Sink.state c.run_command-ended.new.err) c.run_command-ended.result)
    c.in_ok-command.ensures c.run_command-ended.ensures.told
