use Rattle.std.proofs.Common.{◌≡◌, List, ℕ, Result, subst, ◌∙◌}
use Rattle.rvs_run.specs.RunTests.{files_for, made_found}
use Rattle.rvs_run.specs.RunView.{bench_view}
use Rattle.rvs_reference.specs.TestRun.{Accepts}
use Rattle.rvs_run.specs.declared.judging.Made.{Made}
use Rattle.rvs_generate.specs.declared.test_files.TestFiles.{TestFiles}
use Rattle.rvs_run.proofs.MadeFound.{held-made}
use Rattle.rvs_run.proofs.judging.make_held.Goals as goal

pub returns : goal.returns
returns c =
    let bench = bench_view c.args.bench.now in
    let test = c.args.test.now in
    let result = c.made_found.result in
    let text : c.as_bytes.result.now ≡ test.text = c.as_bytes.ensures.value ∙ c.as_str.ensures in
    let named = subst (λ (files : TestFiles). Accepts (made_found bench files c.as_bytes.result.now)
    result) c.in_ok-files.ensures c.made_found.ensures in
    let made = subst (λ (bytes : List ℕ). Accepts
    (made_found bench (files_for bench test) bytes) result) text named in
    subst (λ (found : Result Made (List ℕ)). Accepts found result)
    (held-made bench test c.requires) made
