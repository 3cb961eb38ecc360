-- What comes of a test that was made: it isn't refused.
use Rattle.std.proofs.Common.{◌≡◌, Result, Ok, sym, ap, ◌∙◌, List, ℕ}
use Rattle.rvs_machine.specs.Image.{ImageValue}
use Rattle.rvs_elf.specs.Written.{elf_of}
use Rattle.rvs_run.specs.RunTests.{Bench, asks_elf, if_asked, files_for, made_for, made_by}
use Rattle.rvs_run.specs.RunTests.{made_of_image, made_found}
use Rattle.rvs_reference.specs.TestRun.{then_found}
use Rattle.rvs_generate.specs.Tests.{IsRunnable, executable_of}
use Rattle.rvs_generate.specs.declared.gathering.Test.{Test}
use Rattle.rvs_reference.specs.declared.test_run.Run.{Run}
use Rattle.rvs_generate.proofs.Paths.{names-text}
use Rattle.rvs_generate.proofs.Runnable.{text-image, held-ran, elf-of-test}

pub held-made : (bench : Bench) (test : Test) → IsRunnable bench.isa test
    → made_found bench (files_for bench test) test.text ≡ Ok (made_for bench test)
held-made bench test r =
    let files = files_for bench test in
    let n = names-text bench.work test.name in
    let ran = held-ran bench.isa files.test test n r in
    let executable : elf_of r.image ≡ executable_of bench.isa test =
    sym (elf-of-test bench.isa test r.image r.assembled) in
    ap (λ (f : Result ImageValue (List ℕ)). then_found f (made_of_image bench files test.text))
    (text-image bench.isa files.test test.text r.image n r.assembled)
    ∙ ap (λ (f : Result Run (List ℕ)). then_found f
    (λ run. Ok (made_by bench files r.image run))) ran.1
    ∙ (λ k. Ok (record {
      files = files;
      executable = if_asked (asks_elf bench) (executable k);
      words = ran.2 k;
    }))
