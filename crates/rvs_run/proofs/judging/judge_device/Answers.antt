use Rattle.std.proofs.Common.{◌≡◌, ℕ, List, Result, sym, subst, ◌∙◌}
use Rattle.std.proofs.lemmas.Result.{err_from_is_err_and}
use Rattle.rvs_plan.specs.World.{world, IsAnswer}
use Rattle.rvs_plan.specs.Meets.{MeetsWith}
use Rattle.rvs_plan.specs.declared.stop.Stop.{Stop}
use Rattle.rvs_plan.proofs.Sequence.{Meets-no_memory}
use Rattle.rvs_device.specs.Command.{Filling}
use Rattle.rvs_device.specs.Judging.{Task, task}
use Rattle.rvs_device.specs.Plans.{judged, stopped}
use Rattle.rvs_device.specs.declared.verdicts.TestVerdict.{TestVerdict}
use Rattle.rvs_run.specs.RunTests.{judges_by}
use Rattle.rvs_run.specs.RunView.{bench_view}
use Rattle.rvs_run.proofs.judging.judge_device.Goals as goal

pub returns-in_err-test : goal.returns-in_err-test
returns-in_err-test g c = λ out.
    let p = err_from_is_err_and c.from_residual.result c.from_residual.ensures.1 in
    rw (p.1, p.2) (Meets-no_memory
    (judges_by (bench_view c.args.bench.now) c.args.files.now c.args.words.now)
    (world (g.H.Host.state c.args.host.now) out))

pub returns-in_err-signature : goal.returns-in_err-signature
returns-in_err-signature g c = λ out.
    let p = err_from_is_err_and c.from_residual-in_err-signature.result
    c.from_residual-in_err-signature.ensures.1 in
    rw (p.1, p.2) (Meets-no_memory
    (judges_by (bench_view c.args.bench.now) c.args.files.now c.args.words.now)
    (world (g.H.Host.state c.args.host.now) out))

pub returns : goal.returns
returns g c = λ out.
    let bench = bench_view c.args.bench.now in
    let files = c.args.files.now in
    let words = c.args.words.now in
    let old = world (g.H.Host.state c.args.host.now) out in
    let new = world (g.H.Host.state c.judge-judged.new.host) out in
    let program : c.as_str-3.result.now ≡ bench.program = c.as_str-3.ensures in
    let test : c.as_str-4.result.now ≡ files.test =
    c.as_str-4.ensures ∙ c.in_ok-test.ensures ∙ c.as_str.ensures in
    let executable : c.as_str-5.result.now ≡ files.executable = c.as_str-5.ensures in
    let signature : c.as_str-6.result.now ≡ files.device =
    c.as_str-6.ensures ∙ c.in_ok-signature.ensures ∙ c.as_str-2.ensures in
    let text : c.text_base.result ≡ bench.isa.memory.text_base = c.text_base.ensures in
    let data_from : c.data_base.result ≡ bench.isa.memory.data_base = c.data_base.ensures in
    let filled : List ℕ → List ℕ → List ℕ → List ℕ → ℕ → ℕ → Filling =
    λ program test elf signature text_base data_base.
    record {
      program = program;
      test = test;
      elf = elf;
      signature = signature;
      text_base = text_base;
      data_base = data_base;
    } in
    let t = task bench.device.command (filled c.as_str-3.result.now c.as_str-4.result.now
    c.as_str-5.result.now c.as_str-6.result.now c.text_base.result c.data_base.result) words in
    let is : c.with_stop.result ≡ stopped t c.judge-judged.result =
    c.with_stop.ensures t c.as_str-4.ensures c.as_str-6.ensures in
    let met = subst (λ (r : Result TestVerdict Stop). MeetsWith IsAnswer (judged t) old new r)
    (sym is) (c.judge-judged.ensures.planned out) in
    subst (λ (t : Task). MeetsWith IsAnswer (judged t) old new c.with_stop.result)
    (λ i. task bench.device.command (filled (program i) (test i) (executable i) (signature i)
    (text i) (data_from i)) words)
    met
