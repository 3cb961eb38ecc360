use Rattle.std.proofs.Common.{◌≡◌, ℕ, List, [], ◌∷◌, ◌++◌, length, ap, ◌∙◌}
use Rattle.std.proofs.lemmas.Result.{err_from_is_err_and}
use Rattle.rvs_base.specs.declared.asked.Window.{Window as Span}
use Rattle.rvs_points.specs.declared.group.Label.{Label}
use Rattle.rvs_log.specs.Taken.{ended}
use Rattle.rvs_log.proofs.Streams.{begun_is}
use Rattle.rvs_prop.specs.State.{TrackState, state_of, trail_of}
use Rattle.rvs_prop.proofs.Ends.{all_hits, all_instructions, all_labels, all_reached}
use Rattle.rvs_prop.proofs.Trails.{trail_told}
use Rattle.rvs_propagate.specs.Propagate.{more_by, taken_more, tracked_with, tracks_more}
use Rattle.rvs_propagate.specs.Propagate.{with_trail}
use Rattle.rvs_inputs.specs.GroupsView.{groups_view}
use Rattle.rvs_coverage.specs.Summing.{plus_each}
use Rattle.rvs_propagate.specs.declared.propagating.Traced.{Traced}
use Rattle.rvs_coverage.proofs.LogReads.{knows-log, wants-log}
use Rattle.rvs_coverage.proofs.Tellings.{told-cut}
use Rattle.rvs_propagate.proofs.propagating.TrackingLogTaker.take_one.Goals as goal

-- with what a tracker has at the end of a log
at-end : (labels : List Label) (range : Span) (tracked : Traced) (bytes : List ℕ) (n : ℕ)
    → with_trail tracked (state_of labels range.lo range.hi (ended bytes) n).told
    ≡ tracked_with range (groups_view labels) tracked bytes
unfolding tracked_with
at-end labels range tracked bytes n = λ i. record {
  reached = plus_each tracked.reached (all_reached labels range.lo range.hi bytes n i);
  hits = plus_each tracked.hits (all_hits labels range.lo range.hi bytes n i);
  ran = tracked.ran ++ all_instructions labels range.lo range.hi bytes n i ∷ [];
}

pub returns-in_err-take_log-clause-met : goal.returns-in_err-take_log-clause-met
returns-in_err-take_log-clause-met g c = λ out.
    let p = err_from_is_err_and c.from_residual.result c.from_residual.ensures.1 in
    let none = ap (λ (s : TrackState). s.fed) c.restart.ensures in
    let met = c.in_err-take_log.ensures.stopped out
    (taken_more c.args.self.now c.args.log.now) c.args.known none in
    rw (p.1, p.2) (rw c.as_str-name.ensures at met)

pub returns-in_err-ran-clause-met : goal.returns-in_err-ran-clause-met
returns-in_err-ran-clause-met g c = λ out.
    let p = err_from_is_err_and c.from_residual-in_err-ran.result
    c.from_residual-in_err-ran.ensures.1 in
    let met = wants-log out (taken_more c.args.self.now c.args.log.now) c.args.known
    c.in_ok-take_log.ensures.taken in
    rw (p.1, p.2) (rw c.as_str-name.ensures at met)

pub returns-clause-met : goal.returns-clause-met
returns-clause-met g c = λ out.
    let was = c.args.self.now.tracker in
    let labels = was.told.labels in
    let range = c.args.log.now.signature in
    let log = c.in_ok-take_log.ensures.taken in
    let count = length log.bytes in
    let none = ap (λ (s : TrackState). s.fed) c.restart.ensures in
    let begun : c.restart.new.self ≡ state_of labels range.lo range.hi [] 0 =
    c.restart.ensures ∙ begun_is (trail_of labels range.lo range.hi) in
    let at_end : c.take_log.new.reader ≡ state_of labels range.lo range.hi (ended log.bytes) count =
    log.state (trail_of labels range.lo range.hi) (trail_told labels range.lo range.hi) begun in
    let reached : c.in_ok-ran.counts.0
    ≡ plus_each c.args.known.reached c.told-trail.result.now.reached =
    ap (λ (p : List ℕ × List ℕ). p.0) c.in_ok-ran.ensures.both.1
    ∙ c.plus_each-reached.ensures.numbers
    ∙ ap (plus_each c.args.known.reached) c.reached.ensures in
    let hits : c.in_ok-ran.counts.1 ≡ plus_each c.args.known.hits c.told-trail.result.now.hits =
    ap (λ (p : List ℕ × List ℕ). p.1) c.in_ok-ran.ensures.both.1 ∙ c.plus_each-hits.ensures.numbers
    ∙ ap (plus_each c.args.known.hits) c.hits.ensures in
    let ran : c.in_ok-ran.ran ≡ c.args.known.ran ++ c.told-trail.result.now.instructions ∷ [] =
    rw c.in_ok-ran.ensures.both.0 at c.with_number.ensures
    ∙ ap (λ (n : ℕ). c.args.known.ran ++ n ∷ []) c.instructions.ensures in
    let now : record {
      reached = c.in_ok-ran.counts.0;
      hits = c.in_ok-ran.counts.1;
      ran = c.in_ok-ran.ran;
    }
    ≡ tracked_with range (groups_view labels) c.args.known log.bytes =
    (λ i. record { reached = reached i; hits = hits i; ran = ran i })
    ∙ ap (with_trail c.args.known) c.told-trail.ensures
    ∙ ap (λ (s : TrackState). with_trail c.args.known s.told) at_end
    ∙ at-end labels range c.args.known log.bytes count in
    rw c.as_str-name.ensures at (knows-log out (more_by was c.args.log.now) c.args.known _ log none
    now)

pub returns-clause-same : goal.returns-clause-same
returns-clause-same g c =
    let was = c.args.self.now.tracker in
    let labels = was.told.labels in
    let range = c.args.log.now.signature in
    let log = c.in_ok-take_log.ensures.taken in
    let count = length log.bytes in
    let begun : c.restart.new.self ≡ state_of labels range.lo range.hi [] 0 =
    c.restart.ensures ∙ begun_is (trail_of labels range.lo range.hi) in
    let at_end : c.take_log.new.reader ≡ state_of labels range.lo range.hi (ended log.bytes) count =
    log.state (trail_of labels range.lo range.hi) (trail_told labels range.lo range.hi) begun in
    ap more_by at_end ∙ λ i. tracks_more
    (groups_view (all_labels labels range.lo range.hi (ended log.bytes) count i))

pub returns-in_err-take_log-clause-told : goal.returns-in_err-take_log-clause-told
returns-in_err-take_log-clause-told g c =
    let p = err_from_is_err_and c.from_residual.result c.from_residual.ensures.1 in
    rw (p.1, p.2) (rw c.as_str-name.ensures at c.in_err-take_log.ensures.told)

pub returns-in_err-ran-clause-told : goal.returns-in_err-ran-clause-told
returns-in_err-ran-clause-told g c =
    let p = err_from_is_err_and c.from_residual-in_err-ran.result
    c.from_residual-in_err-ran.ensures.1 in
    rw (p.1, p.2) (told-cut (rw c.as_str-name.ensures at c.in_ok-take_log.ensures.told))

pub returns-clause-told : goal.returns-clause-told
returns-clause-told g c = rw c.as_str-name.ensures at c.in_ok-take_log.ensures.told
