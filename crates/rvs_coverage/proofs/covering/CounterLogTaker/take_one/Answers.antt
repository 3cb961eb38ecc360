use Rattle.std.proofs.Common.{◌≡◌, ℕ, List, [], ◌∷◌, ◌++◌, length, ap, ◌∙◌}
use Rattle.std.proofs.lemmas.Result.{err_from_is_err_and}
use Rattle.rvs_base.specs.declared.asked.Window.{Window as Span}
use Rattle.rvs_points.specs.declared.group.Label.{Label}
use Rattle.rvs_log.specs.Taken.{ended}
use Rattle.rvs_log.proofs.Streams.{begun_is}
use Rattle.rvs_index.specs.State.{CountState, state_of, tally_of}
use Rattle.rvs_count.proofs.Ends.{counted_all, counted_instructions, counted_labels}
use Rattle.rvs_count.proofs.Ends.{counted_windows}
use Rattle.rvs_count.proofs.Streams.{tally_told}
use Rattle.rvs_coverage.specs.Coverage.{counted_with, counts_more, taken_more, with_tally}
use Rattle.rvs_inputs.specs.GroupsView.{groups_view}
use Rattle.rvs_coverage.specs.Summing.{plus_each}
use Rattle.rvs_coverage.specs.declared.covering.Covered.{Covered}
use Rattle.rvs_coverage.proofs.LogReads.{knows-log, wants-log}
use Rattle.rvs_coverage.proofs.Tellings.{told-cut}
use Rattle.rvs_coverage.proofs.covering.CounterLogTaker.take_one.Goals as goal

-- with what a counter has at the end of a log
at-end : (labels : List Label) (windows : List Span) (counted : Covered) (bytes : List ℕ) (n : ℕ)
    → with_tally counted (state_of labels windows (ended bytes) n).told
    ≡ counted_with windows (groups_view labels) counted bytes
unfolding counted_with
at-end labels windows counted bytes n = λ i. record {
  counts = plus_each counted.counts (counted_all labels windows bytes n i);
  ran = counted.ran ++ counted_instructions labels windows bytes n i ∷ [];
}

pub returns-in_err-take_log-clause-met : goal.returns-in_err-take_log-clause-met
returns-in_err-take_log-clause-met g c = λ out.
    let p = err_from_is_err_and c.from_residual.result c.from_residual.ensures.1 in
    let none = ap (λ (s : CountState). s.fed) c.restart.ensures in
    let met = c.in_err-take_log.ensures.stopped out
    (taken_more c.args.self.now c.args.log.now) c.args.known none in
    rw (p.1, p.2) (rw c.as_str.ensures at met)

pub returns-in_err-ran-clause-met : goal.returns-in_err-ran-clause-met
returns-in_err-ran-clause-met g c = λ out.
    let p = err_from_is_err_and c.from_residual-in_err-ran.result
    c.from_residual-in_err-ran.ensures.1 in
    let met = wants-log out (taken_more c.args.self.now c.args.log.now) c.args.known
    c.in_ok-take_log.ensures.taken in
    rw (p.1, p.2) (rw c.as_str.ensures at met)

pub returns-clause-met : goal.returns-clause-met
returns-clause-met g c = λ out.
    let was = c.args.self.now in
    let labels = was.told.labels in
    let windows = was.told.windows in
    let log = c.in_ok-take_log.ensures.taken in
    let count = length log.bytes in
    let none = ap (λ (s : CountState). s.fed) c.restart.ensures in
    let begun : c.restart.new.self ≡ state_of labels windows [] 0 =
    c.restart.ensures ∙ begun_is (tally_of labels windows) in
    let at_end : c.take_log.new.reader ≡ state_of labels windows (ended log.bytes) count =
    log.state (tally_of labels windows) (tally_told labels windows) begun in
    let counts : c.in_ok-ran.counts ≡ plus_each c.args.known.counts c.told-tally.result.now.counts =
    c.in_ok-ran.ensures.both.1 ∙ c.plus_each-counts.ensures.numbers
    ∙ ap (plus_each c.args.known.counts) c.counts.ensures in
    let ran : c.in_ok-ran.ran ≡ c.args.known.ran ++ c.told-tally.result.now.instructions ∷ [] =
    rw c.in_ok-ran.ensures.both.0 at c.with_number.ensures
    ∙ ap (λ (n : ℕ). c.args.known.ran ++ n ∷ []) c.instructions.ensures in
    let now : record { counts = c.in_ok-ran.counts; ran = c.in_ok-ran.ran }
    ≡ counted_with windows (groups_view labels) c.args.known log.bytes =
    (λ i. record { counts = counts i; ran = ran i })
    ∙ ap (with_tally c.args.known) c.told-tally.ensures
    ∙ ap (λ (s : CountState). with_tally c.args.known s.told) at_end
    ∙ at-end labels windows c.args.known log.bytes count in
    rw c.as_str.ensures at (knows-log out (taken_more was c.args.log.now) c.args.known _ log none
    now)

pub returns-clause-same : goal.returns-clause-same
returns-clause-same g c =
    let was = c.args.self.now in
    let labels = was.told.labels in
    let windows = was.told.windows in
    let log = c.in_ok-take_log.ensures.taken in
    let count = length log.bytes in
    let begun : c.restart.new.self ≡ state_of labels windows [] 0 =
    c.restart.ensures ∙ begun_is (tally_of labels windows) in
    let at_end : c.take_log.new.reader ≡ state_of labels windows (ended log.bytes) count =
    log.state (tally_of labels windows) (tally_told labels windows) begun in
    ap taken_more at_end ∙ λ i. counts_more
    (counted_windows labels windows (ended log.bytes) count i)
    (groups_view (counted_labels labels windows (ended log.bytes) count i))

pub returns-in_err-take_log-clause-told : goal.returns-in_err-take_log-clause-told
returns-in_err-take_log-clause-told g c =
    let p = err_from_is_err_and c.from_residual.result c.from_residual.ensures.1 in
    rw (p.1, p.2) (rw c.as_str.ensures at c.in_err-take_log.ensures.told)

pub returns-in_err-ran-clause-told : goal.returns-in_err-ran-clause-told
returns-in_err-ran-clause-told g c =
    let p = err_from_is_err_and c.from_residual-in_err-ran.result
    c.from_residual-in_err-ran.ensures.1 in
    rw (p.1, p.2) (told-cut (rw c.as_str.ensures at c.in_ok-take_log.ensures.told))

pub returns-clause-told : goal.returns-clause-told
returns-clause-told g c = rw c.as_str.ensures at c.in_ok-take_log.ensures.told
