use Rattle.std.proofs.Common.{◌≡◌, List, [], ap, ◌∙◌, subst, length}
use Rattle.std.proofs.lemmas.Result.{err_from_is_err_and}
use Rattle.rvs_base.specs.declared.asked.Window.{Window as Span}
use Rattle.rvs_index.specs.State.{state_of}
use Rattle.rvs_count.proofs.Ends.{counted_labels, counted_windows}
use Rattle.rvs_log.proofs.Telling.{told-nothing}
use Rattle.rvs_plan.specs.World.{world}
use Rattle.rvs_plan.proofs.Sequence.{Meets-no_memory}
use Rattle.rvs_plan.specs.Meets.{Meets}
use Rattle.rvs_inputs.specs.GroupsView.{groups_view}
use Rattle.rvs_coverage.specs.Coverage.{file_name, counts_more, taken_more}
use Rattle.rvs_coverage.specs.LogReport.{takes_logs}
use Rattle.rvs_coverage.specs.Telling.{as_planned}
use Rattle.rvs_coverage.proofs.covering.count_all.Goals as goal

pub returns-in_err-none-clause-met : goal.returns-in_err-none-clause-met
returns-in_err-none-clause-met g c = λ out.
    let p = err_from_is_err_and c.from_residual.result c.from_residual.ensures.1 in
    rw (p.1, p.2) (Meets-no_memory _ (world (g.H.Host.state c.args.host.now) out))

pub returns-in_err-kept-clause-met : goal.returns-in_err-kept-clause-met
returns-in_err-kept-clause-met g c = λ out.
    let p = err_from_is_err_and c.from_residual-in_err-kept.result
    c.from_residual-in_err-kept.ensures.1 in
    rw (p.1, p.2) (Meets-no_memory _ (world (g.H.Host.state c.args.host.now) out))

pub returns-in_err-counter-clause-met : goal.returns-in_err-counter-clause-met
returns-in_err-counter-clause-met g c = λ out.
    let p = err_from_is_err_and c.from_residual-in_err-counter.result
    c.from_residual-in_err-counter.ensures.1 in
    rw (p.1, p.2) (Meets-no_memory _ (world (g.H.Host.state c.args.host.now) out))

pub returns-clause-met : goal.returns-clause-met
returns-clause-met g c = λ out.
    let windows = c.args.windows.now in
    let logs = c.args.logs.now in
    let groups = c.args.groups.now in
    let old = world (g.H.Host.state c.args.host.now) out in
    let new = world (g.H.Host.state c.take_onto-covered.new.host) out in
    let kept : c.from.result ≡ windows = c.from.ensures
    ∙ (rw c.in_ok-kept.ensures.both.0 at c.to_vec.ensures).items_if_clones_equal (λ x y e. e) in
    let begun : c.in_ok-counter.counter ≡ state_of groups windows [] 0 =
    rw c.in_ok-counter.ensures.both.0 at c.new_counter-counter.ensures
    ∙ ap (λ (w : List Span). state_of groups w [] 0) kept in
    let none = c.in_ok-counter.ensures.both.1 ∙ c.in_ok-kept.ensures.both.1
    ∙ c.in_ok-none.ensures.counted in
    let more : taken_more c.in_ok-counter.counter ≡ counts_more windows (groups_view groups) =
    ap taken_more begun ∙ λ i. counts_more (counted_windows groups windows [] 0 i)
    (groups_view (counted_labels groups windows [] 0 i)) in
    subst (λ none. Meets (takes_logs file_name (counts_more windows (groups_view groups)) none logs)
    old new (as_planned c.take_onto-covered.result)) none
    (subst (λ more. Meets (takes_logs file_name more c.in_ok-counter.none logs) old new
    (as_planned c.take_onto-covered.result)) more (c.take_onto-covered.ensures.met out))

pub returns-clause-long : goal.returns-clause-long
returns-clause-long g c =
    let same = c.in_ok-counter.ensures.both.1 ∙ c.in_ok-kept.ensures.both.1 in
    c.take_onto-covered.ensures.fits _ (ap (λ k. length k.counts) same ∙ c.in_ok-none.ensures.long)

pub returns-in_err-none-clause-told : goal.returns-in_err-none-clause-told
returns-in_err-none-clause-told g c =
    let p = err_from_is_err_and c.from_residual.result c.from_residual.ensures.1 in
    rw (p.1, p.2) (told-nothing _ _ _ _)

pub returns-in_err-kept-clause-told : goal.returns-in_err-kept-clause-told
returns-in_err-kept-clause-told g c =
    let p = err_from_is_err_and c.from_residual-in_err-kept.result
    c.from_residual-in_err-kept.ensures.1 in
    rw (p.1, p.2) (told-nothing _ _ _ _)

pub returns-in_err-counter-clause-told : goal.returns-in_err-counter-clause-told
returns-in_err-counter-clause-told g c =
    let p = err_from_is_err_and c.from_residual-in_err-counter.result
    c.from_residual-in_err-counter.ensures.1 in
    rw (p.1, p.2) (told-nothing _ _ _ _)

pub returns-clause-told : goal.returns-clause-told
returns-clause-told g c = c.take_onto-covered.ensures.told
