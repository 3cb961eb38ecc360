-- What holds of the tests of accepted inputs.
use Rattle.std.proofs.Common.{◌≡◌, Ok, ap, sym, subst, ◌∙◌}
use Rattle.rvs_insn.specs.Isa.{Isa}
use Rattle.rvs_insn.specs.Memory.{Memory, HasRoom}
use Rattle.rvs_machine.specs.Image.{ImageValue}
use Rattle.rvs_elf.specs.Executable.{image_of_elf}
use Rattle.rvs_elf.specs.Laws.{with_marks}
use Rattle.rvs_elf.specs.Written.{elf_of}
use Rattle.rvs_elf.proofs.ReadBack.{reads_back, runs_alike}
use Rattle.rvs_asm.proofs.Answered.{answered_stands}
use Rattle.rvs_device.proofs.Passing as passing
use Rattle.rvs_generate.specs.Tests.{IsRunnable, executable_of}
use Rattle.rvs_suite.specs.RunLeft.{task_of}
use Rattle.rvs_generate.specs.declared.gathering.Test.{Test}
use Rattle.rvs_generate.proofs.Runnable.{elf-of-test}
use Rattle.rvs_promises.proofs.Signed as signed
use Rattle.rvs_promises.proofs.Tested.{tested-labels, testable-labels}
use Rattle.rvs_suite.proofs.TestedRuns.{groups-accepted}
use Rattle.rvs_promises.proofs.Tested.{runnable-labels}
use Rattle.rvs_promises.proofs.Written.{apart-labels}
use Rattle.rvs_uses.specs.Made.{TestsRun, NamesAreApart, TextsAreProved, UntestedHaveNone}
use Rattle.rvs_uses.specs.Made.{TestsAreRunnable, IsExecutableOf, ExecutablesRun, RunsAccept}
use Rattle.rvs_uses.specs.Made.{PassesBySpelling}

pub tests-run : TestsRun
tests-run = tested-labels

pub names-are-apart : NamesAreApart
names-are-apart = apart-labels

pub texts-are-proved : TextsAreProved
texts-are-proved files part isa families names inputs given l text there selected is =
    signed.proved inputs l text (tested-labels files part isa families names inputs given) there
    selected is

pub untested-have-none : UntestedHaveNone
untested-have-none = signed.untested

pub tests-are-runnable : TestsAreRunnable
tests-are-runnable = runnable-labels

is-executable : (isa : Isa) (test : Test) → HasRoom isa.memory → IsRunnable isa test
    → IsExecutableOf isa test (executable_of isa test)
is-executable isa test place r =
    let stands = answered_stands isa test.text r.image r.assembled in
    let same : r.image.memory ≡ isa.memory =
    ap (λ (i : ImageValue). i.memory) stands.made in
    let own : HasRoom r.image.memory = subst HasRoom (sym same) place in
    let is : executable_of isa test ≡ elf_of r.image =
    elf-of-test isa test r.image r.assembled in
    let back = reads_back r.image own stands.regions in
    let read : image_of_elf isa.memory (executable_of isa test) ≡ Ok (with_marks r.image) =
    subst (λ (m : Memory). image_of_elf m (executable_of isa test) ≡ Ok (with_marks r.image)) same
    (ap (image_of_elf r.image.memory) is ∙ back) in
    record {
      image = r.image;
      assembled = r.assembled;
      written = is;
      again = with_marks r.image;
      read = read;
      alike = runs_alike r.image (with_marks r.image) own stands.regions back;
    }

pub executables-run : ExecutablesRun
executables-run files part isa families names inputs given test there =
    is-executable inputs.isa test
    (testable-labels files part isa families names inputs given).place
    (runnable-labels files part isa families names inputs given test there)

pub runs-accept : RunsAccept
runs-accept = groups-accepted

pub passes-by-spelling : PassesBySpelling
passes-by-spelling bench test run = passing.passes (task_of bench test) run.status run.after
