use Rattle.std.proofs.Common.{◌≡◌, ℕ, List, None, Result, Ok, Err, sym, ap, subst, ◌∙◌}
use Rattle.std.proofs.lemmas.Result.{err_from_is_err_and}
use Rattle.rvs_plan.specs.declared.stop.Stop.{Stop}
use Rattle.rvs_insn.specs.Isa.{Isa}
use Rattle.rvs_machine.specs.Image.{ImageValue}
use Rattle.rvs_run.specs.RunView.{bench_view}
use Rattle.rvs_run.specs.RunTests.{made_by, made_of_image}
use Rattle.rvs_reference.specs.TestRun.{Accepts, then_found, image_found, limit_of, run_found}
use Rattle.rvs_reference.specs.declared.test_run.Run.{Run}
use Rattle.rvs_generate.proofs.Runnable.{first-stops}
use Rattle.rvs_run.proofs.judging.found_of.Goals as goal

-- the calls were given the name of the file, and the limit of its bytes
image-by : (isa : Isa) (bytes one name : List ℕ) (result : Result ImageValue Stop) → one ≡ name
    → Accepts (image_found isa one bytes) result → Accepts (image_found isa name bytes) result
image-by isa bytes one name result named =
    subst (λ (n : List ℕ). Accepts (image_found isa n bytes) result) named

ran-by : (isa : Isa) (picture image : ImageValue) (bytes one other name : List ℕ) (limit : ℕ)
    (result : Result Run Stop) → picture ≡ image → one ≡ name → other ≡ name
    → limit ≡ limit_of None one bytes → Accepts (run_found other limit isa picture) result
    → Accepts (run_found name (limit_of None name bytes) isa image) result
ran-by isa picture image bytes one other name limit result same named called limited =
    subst (λ (f : Result Run (List ℕ)). Accepts f result) (λ i. run_found (called i)
    ((limited ∙ ap (λ (n : List ℕ). limit_of None n bytes) named) i) isa (same i))

pub returns-in_err-image : goal.returns-in_err-image
returns-in_err-image c =
    let isa = c.args.bench.now.isa in
    let files = c.args.files.now in
    let bytes = c.args.bytes.now in
    let stop = c.in_err-image.field-0.0 in
    let p = err_from_is_err_and c.from_residual.result c.from_residual.ensures.1 in
    rw (p.1, p.2) (first-stops (image_found isa files.test bytes)
    (made_of_image (bench_view c.args.bench.now) files bytes) stop
    (image-by isa bytes c.as_str.result.now files.test (Err stop) c.as_str.ensures
    c.in_err-image.ensures))

pub returns-in_err-run : goal.returns-in_err-run
returns-in_err-run c =
    let bench = bench_view c.args.bench.now in
    let files = c.args.files.now in
    let bytes = c.args.bytes.now in
    let image = c.in_ok-image.image in
    let stop = c.in_err-run.field-0.0 in
    let p = err_from_is_err_and c.from_residual-in_err-run.result
    c.from_residual-in_err-run.ensures.1 in
    let ran = rw c.in_err-run.ensures.none at c.run_image.ensures in
    rw (p.1, p.2) (subst (λ (f : Result ImageValue (List ℕ)). Accepts (then_found f
    (made_of_image bench files bytes)) (Err stop)) (sym (image-by bench.isa bytes
    c.as_str.result.now files.test (Ok image) c.as_str.ensures c.in_ok-image.ensures))
    (first-stops (run_found files.test (limit_of None files.test bytes) bench.isa image)
    (λ run. Ok (made_by bench files image run)) stop (ran-by bench.isa
    c.in_ok-executable.image image bytes c.as_str-2.result.now c.as_str-name.result.now
    files.test c.limit_of-limit.result (Err stop) c.in_ok-executable.ensures.both.1
    c.as_str-2.ensures c.as_str-name.ensures c.limit_of-limit.ensures ran)))

pub returns : goal.returns
returns c =
    let bench = bench_view c.args.bench.now in
    let files = c.args.files.now in
    let bytes = c.args.bytes.now in
    let image = c.in_ok-image.image in
    let run = c.in_ok-run.run' in
    let made = rw c.in_ok-executable.ensures.both.0 at c.executable_of.ensures in
    let ran = rw c.in_ok-run.ensures.both.0 at c.run_image.ensures in
    ap (λ (f : Result ImageValue (List ℕ)). then_found f (made_of_image bench files bytes))
    (image-by bench.isa bytes c.as_str.result.now files.test (Ok image) c.as_str.ensures
    c.in_ok-image.ensures)
    ∙ ap (λ (f : Result Run (List ℕ)). then_found f (λ r. Ok (made_by bench files image r)))
    (ran-by bench.isa c.in_ok-executable.image image bytes c.as_str-2.result.now
    c.as_str-name.result.now files.test c.limit_of-limit.result (Ok run)
    c.in_ok-executable.ensures.both.1 c.as_str-2.ensures c.as_str-name.ensures
    c.limit_of-limit.ensures ran)
    ∙ (λ k. Ok (record {
      files = files;
      executable = sym (c.in_ok-run.ensures.both.1 ∙ made) k;
      words = run.words;
    }))
