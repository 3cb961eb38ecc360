use Rattle.std.proofs.Common.{◌≡◌, List, ℕ, None, Result, Ok, Err, sym, ap, subst, ◌∙◌}
use Rattle.std.proofs.lemmas.Result.{err_from_is_err_and}
use Rattle.rvs_plan.specs.declared.stop.Stop.{Stop}
use Rattle.rvs_insn.specs.Isa.{Isa}
use Rattle.rvs_reference.specs.TestRun.{Accepts, test_found}
use Rattle.rvs_generate.specs.declared.gathering.Test.{Test}
use Rattle.rvs_reference.specs.declared.test_run.Run.{Run}
use Rattle.rvs_generate.proofs.Runnable.{held-found, never-refused}
use Rattle.rvs_generate.proofs.expected.reference_of.Goals as goal

abbrev words_in : Result Run (List ℕ) → Result (List ℕ) (List ℕ)
words_in (Ok run) = Ok run.words
words_in (Err text) = Err text

-- what the call was given is the test
of_test : (isa : Isa) (name path bytes : List ℕ) (test : Test) (result : Result Run Stop)
    → name ≡ path → bytes ≡ test.text → Accepts (test_found None isa name bytes) result
    → Accepts (test_found None isa path test.text) result
of_test isa name path bytes test result named text accepts =
    subst (λ (n : List ℕ). Accepts (test_found None isa n test.text) result) named
    (subst (λ (b : List ℕ). Accepts (test_found None isa name b) result) text accepts)

pub returns-in_err-run : goal.returns-in_err-run
returns-in_err-run c =
    let p = err_from_is_err_and c.from_residual.result c.from_residual.ensures.1 in
    let test = c.args.test.now in
    let found = held-found c.args.isa c.args.path.now test c.requires.text c.requires.runs in
    rw (p.1, p.2) (never-refused _ found.0 _ c.in_err-run.field-0.0 found.1
    (of_test c.args.isa c.as_str.result.now c.args.path.now c.as_bytes.result.now test
    (Err c.in_err-run.field-0.0) c.as_str.ensures (c.as_bytes.ensures.value ∙ c.as_str-2.ensures)
    c.in_err-run.ensures))

pub returns : goal.returns
returns c =
    let test = c.args.test.now in
    let found = held-found c.args.isa c.args.path.now test c.requires.text c.requires.runs in
    ap (λ (words : List ℕ). Ok words) (sym found.2)
    ∙ ap words_in (sym found.1 ∙ of_test c.args.isa c.as_str.result.now c.args.path.now
    c.as_bytes.result.now test (Ok c.in_ok-run.run') c.as_str.ensures
    (c.as_bytes.ensures.value ∙ c.as_str-2.ensures) c.in_ok-run.ensures)
