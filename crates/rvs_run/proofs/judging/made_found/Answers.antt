use Rattle.std.proofs.Common.{◌≡◌, List, ℕ, ap, sym, ◌∙◌, subst, Result, Ok, Err}
use Rattle.std.proofs.lemmas.Result.{err_from_is_err_and}
use Rattle.rvs_plan.specs.declared.stop.Stop.{Stop}
use Rattle.rvs_base.specs.Answers.{seen}
use Rattle.rvs_reference.specs.TestRun.{Accepts}
use Rattle.rvs_generate.specs.declared.test_files.TestFiles.{TestFiles}
use Rattle.rvs_run.specs.declared.judging.Found.{Found}
use Rattle.rvs_run.specs.declared.judging.Made.{Made}
use Rattle.rvs_run.specs.RunTests.{made_found}
use Rattle.rvs_run.specs.RunView.{bench_view, made_with}
use Rattle.rvs_run.proofs.judging.made_found.Goals as goal

-- what was found has its files beside it
with-files : (found : Result Made (List ℕ)) (files : TestFiles) (result end : Result Found Stop)
    → result ≡ end → Accepts found (seen (made_with files) result)
    → Accepts found (seen (made_with files) end)
with-files found files result end is =
    subst (λ (r : Result Found Stop). Accepts found (seen (made_with files) r)) is

pub returns-in_err-found : goal.returns-in_err-found
returns-in_err-found c =
    let p = err_from_is_err_and c.from_residual.result c.from_residual.ensures.1 in
    let files = c.args.files in
    rw (p.1, p.2) (with-files
    (made_found (bench_view c.args.bench.now) files c.args.bytes.now) files c.found_of.result
    (Err c.in_err-found.field-0.0) c.in_err-found.ensures.none c.found_of.ensures)

pub returns : goal.returns
returns c =
    let files = c.args.files in
    let found = c.in_ok-found.found in
    with-files (made_found (bench_view c.args.bench.now) files c.args.bytes.now) files
    c.found_of.result (Ok found) c.in_ok-found.ensures.both.0 c.found_of.ensures
    ∙ ap (λ (f : TestFiles). Ok (made_with f found)) (sym c.in_ok-found.ensures.both.1)
