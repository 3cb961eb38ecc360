use Rattle.std.proofs.Common.{◌≡◌, ◌+◌, ◌∷◌, ◌∙◌, List, [], Ok, Err, drop, ap, sym}
use Rattle.std.proofs.Common.{subst, arith}
use Rattle.std.proofs.lemmas.List.{drop_more, drop_all}
use Rattle.std.proofs.lemmas.Result.{err_from_is_err_and}
use Rattle.rvs_plan.specs.World.{world, IsAnswer}
use Rattle.rvs_plan.specs.Meets.{MeetsWith}
use Rattle.rvs_plan.proofs.Sequence.{Meets-then, Meets-stop, Meets-gives}
use Rattle.rvs_run.specs.RunTests.{judges_all, with_one}
use Rattle.rvs_run.specs.RunView.{bench_view}
use Rattle.rvs_generate.specs.declared.sources.Source.{Source}
use Rattle.rvs_run.proofs.run.judge_all.Goals as goal

pub returns-in_err-pass-clause-met : goal.returns-in_err-pass-clause-met
returns-in_err-pass-clause-met g c =
    let p = err_from_is_err_and c.from_residual.result c.from_residual.ensures.1 in
    let i = c.loop-source.source-index in
    let bench = bench_view c.args.bench.now in
    let passed = c.loop-source.passed in
    let rest = drop (i + 1) c.args.sources.now in
    let old = world (g.H.Host.state c.loop-source.host) (g.O.Sink.state c.loop-source.out) in
    let new = world (g.H.Host.state c.judge_one.new.host) (g.O.Sink.state c.judge_one.new.out) in
    let here : drop i c.args.sources.now ≡ c.source-item.result ∷ rest =
    drop_more c.args.sources.now i _ c.loop-source-test.true
    ∙ ap (λ (t : Source). t ∷ rest) (sym c.source-item.is) in
    let stopped =
    Meets-stop (λ pass. judges_all bench (with_one passed pass) rest) c.in_err-pass.ensures in
    rw (p.1, p.2) (c.loop-source.invariant.met new (Err c.in_err-pass.field-0.0) (subst
    (λ (ts : List Source). MeetsWith IsAnswer (judges_all bench passed ts) old new
    (Err c.in_err-pass.field-0.0)) (sym here) stopped))

pub loop-source-preserved : goal.loop-source-preserved
loop-source-preserved g c =
    let i = c.loop-source.source-index in
    let bench = bench_view c.args.bench.now in
    let passed = c.loop-source.passed in
    let rest = drop (i + 1) c.args.sources.now in
    let old = world (g.H.Host.state c.loop-source.host) (g.O.Sink.state c.loop-source.out) in
    let here : drop i c.args.sources.now ≡ c.source-item.result ∷ rest =
    drop_more c.args.sources.now i _ c.loop-source-test.true
    ∙ ap (λ (t : Source). t ∷ rest) (sym c.source-item.is) in
    record {
      met = λ new result later. c.loop-source.invariant.met new result
          (subst (λ (ts : List Source). MeetsWith IsAnswer
          (judges_all bench passed ts) old new result) (sym here)
          (Meets-then (λ pass. judges_all bench (with_one passed pass) rest) c.in_ok-pass.ensures
          (rw c.with_one-passed.ensures.value at later)));
      some = let before = c.loop-source.invariant.some in
          let more = c.with_one-passed.ensures.some in
          omega (arith, before, more);
    }

pub returns-clause-met : goal.returns-clause-met
returns-clause-met g c =
    let w = world (g.H.Host.state c.loop-source.host) (g.O.Sink.state c.loop-source.out) in
    let bench = bench_view c.args.bench.now in
    let passed = c.loop-source.passed in
    let over : drop c.loop-source.source-index c.args.sources.now ≡ [] =
    drop_all c.loop-source.source-index c.args.sources.now c.loop-source-test.false in
    c.loop-source.invariant.met w (Ok passed) (subst
    (λ (ts : List Source). MeetsWith IsAnswer (judges_all bench passed ts) w w (Ok passed))
    (sym over) (Meets-gives passed w))
