use Rattle.std.proofs.Common.{◌≡◌, ◌+◌, ◌∷◌, ◌∙◌, List, ℕ, true, false, Result, Ok, Err, drop, ap}
use Rattle.std.proofs.Common.{sym, subst}
use Rattle.std.proofs.lemmas.List.{drop_more, drop_all}
use Rattle.std.proofs.lemmas.Result.{err_from_is_err_and}
use Rattle.rvs_plan.specs.World.{World, world}
use Rattle.rvs_plan.specs.Meets.{Meets}
use Rattle.rvs_plan.specs.declared.stop.Stop.{Stop}
use Rattle.rvs_plan.proofs.Sequence.{Meets-then, Meets-stop, Meets-gives}
use Rattle.rvs_log.specs.Progress.{HasTold}
use Rattle.rvs_coverage.specs.LogReport.{takes_log, takes_logs}
use Rattle.rvs_coverage.specs.Telling.{is_untold, lines_of_logs, stop_of}
use Rattle.rvs_coverage.proofs.Tellings.{still-tells, told-none, told-stop, told-then}
use Rattle.rvs_coverage.proofs.taking_logs.take_onto.Goals as goal

-- a log taken by a taker that knows as much more of each
alike : {L K : Type 0} (was is : L → K → List ℕ → K) (log : L) (known : K) (name : List ℕ)
    (old new : World) (result : Result K Stop) → is ≡ was
    → Meets (takes_log (is log) known name) old new result
    → Meets (takes_log (was log) known name) old new result
alike was is log known name old new result same met =
    subst (λ more. Meets (takes_log (more log) known name) old new result) same met

pub returns-in_err-known-clause-met : goal.returns-in_err-known-clause-met
returns-in_err-known-clause-met g c = λ out.
    let p = err_from_is_err_and c.from_residual.result c.from_residual.ensures.1 in
    let i = c.loop-log.log-index in
    let named = g.T.LogTaker.name in
    let more = g.T.LogTaker.more c.args.taker.now in
    let rest = drop (i + 1) c.args.logs.now in
    let log = c.log-item.result in
    let old = world (g.H.Host.state c.loop-log.host) out in
    let new = world (g.H.Host.state c.take_one.new.host) out in
    let here : drop i c.args.logs.now ≡ log ∷ rest =
    drop_more c.args.logs.now i _ c.loop-log-test.true ∙ ap (λ x. x ∷ rest) (sym c.log-item.is) in
    let stopped = Meets-stop (λ now. takes_logs named more now rest)
    (alike more _ log c.loop-log.known (named log) old new _ c.loop-log.invariant.same
    (c.in_err-known.ensures.met out)) in
    rw (p.1, p.2) (c.loop-log.invariant.rest out new _ (subst (λ logs. Meets
    (takes_logs named more c.loop-log.known logs) old new (Err (stop_of c.in_err-known.field-0.0)))
    (sym here) stopped))

pub loop-log-preserved : goal.loop-log-preserved
loop-log-preserved g c =
    let i = c.loop-log.log-index in
    let named = g.T.LogTaker.name in
    let more = g.T.LogTaker.more c.args.taker.now in
    let rest = drop (i + 1) c.args.logs.now in
    let log = c.log-item.result in
    let here : drop i c.args.logs.now ≡ log ∷ rest =
    drop_more c.args.logs.now i _ c.loop-log-test.true ∙ ap (λ x. x ∷ rest) (sym c.log-item.is) in
    record {
      rest = λ out new result later.
          let old = world (g.H.Host.state c.loop-log.host) out in
          let next = world (g.H.Host.state c.take_one.new.host) out in
          let one = alike more _ log c.loop-log.known (named log) old next
          (Ok c.in_ok-known.known) c.loop-log.invariant.same (c.in_ok-known.ensures.met out) in
          c.loop-log.invariant.rest out new result (subst (λ logs. Meets
          (takes_logs named more c.loop-log.known logs) old new result) (sym here)
          (Meets-then (λ now. takes_logs named more now rest) one later));
      fits = λ n none. c.in_ok-known.ensures.fits n (c.loop-log.invariant.fits n none);
      same = c.in_ok-known.ensures.same ∙ c.loop-log.invariant.same;
      tells = λ whole lost sink later.
          let host = g.H.Host.state c.loop-log.host in
          let next = g.H.Host.state c.take_one.new.host in
          let still = still-tells (takes_log (g.T.LogTaker.more c.loop-log.taker log)
          c.loop-log.known (named log)) c.in_ok-known.known (world host sink) (world next sink)
          (λ found. tt) (c.in_ok-known.ensures.met sink) in
          c.loop-log.invariant.tells whole lost sink (subst (λ logs. HasTold c.args.progress
          (lines_of_logs named logs) host (g.E.Sink.state c.loop-log.err) sink whole lost)
          (sym here) (told-then c.in_ok-known.ensures.told still later));
    }

pub returns-clause-met : goal.returns-clause-met
returns-clause-met g c = λ out.
    let w = world (g.H.Host.state c.loop-log.host) out in
    let known = c.loop-log.known in
    c.loop-log.invariant.rest out w (Ok known) (subst (λ logs. Meets
    (takes_logs g.T.LogTaker.name (g.T.LogTaker.more c.args.taker.now) known logs) w w (Ok known))
    (sym (drop_all c.loop-log.log-index c.args.logs.now c.loop-log-test.false))
    (Meets-gives known w))

pub returns-in_err-known-clause-told : goal.returns-in_err-known-clause-told
returns-in_err-known-clause-told g c =
    let p = err_from_is_err_and c.from_residual.result c.from_residual.ensures.1 in
    let i = c.loop-log.log-index in
    let named = g.T.LogTaker.name in
    let rest = drop (i + 1) c.args.logs.now in
    let lost = is_untold c.in_err-known.field-0.0 in
    let sink = g.E.Sink.state c.take_one.new.err in
    let here : drop i c.args.logs.now ≡ c.log-item.result ∷ rest =
    drop_more c.args.logs.now i _ c.loop-log-test.true ∙ ap (λ x. x ∷ rest) (sym c.log-item.is) in
    rw (p.1, p.2) (c.loop-log.invariant.tells false lost sink (subst (λ logs. HasTold
    c.args.progress (lines_of_logs named logs) (g.H.Host.state c.loop-log.host)
    (g.E.Sink.state c.loop-log.err) sink false lost) (sym here)
    (told-stop (lines_of_logs named rest) c.in_err-known.ensures.told)))

pub returns-clause-told : goal.returns-clause-told
returns-clause-told g c =
    let host = g.H.Host.state c.loop-log.host in
    let sink = g.E.Sink.state c.loop-log.err in
    c.loop-log.invariant.tells true false sink (subst (λ logs. HasTold c.args.progress
    (lines_of_logs g.T.LogTaker.name logs) host sink sink true false)
    (sym (drop_all c.loop-log.log-index c.args.logs.now c.loop-log-test.false))
    (told-none c.args.progress host sink))
