-- What the files of `reference` say, and what is left of their run.
use Rattle.std.specs.Prelude.{◌≡◌, ◌≤◌, ◌⊎◌, ℕ, List, length, Option, Some, None, Err}
use Rattle.rvs_base.specs.Host.{Files, with_file}
use Rattle.rvs_base.specs.Sink.{appended}
use Rattle.rvs_plan.specs.World.{World}
use Rattle.rvs_insn.specs.Isa.{Isa}
use Rattle.rvs_isa.specs.declared.accepted_spec.AcceptedSpec.{AcceptedSpec}
use Rattle.rvs_sig.specs.Words.{text_of_words}
use Rattle.rvs_uses.specs.Limits.{PassesLimit}
use Rattle.rvs_promises.specs.Says.{Says}
use Rattle.rvs_promises.specs.Halting.{BothHalt, with_log}
use Rattle.rvs_uses.specs.Says.{IsRefused}
use Rattle.rvs_reference.specs.TestTexts.{ran_line}
use Rattle.rvs_reference.specs.TestRun.{test_found}
use Rattle.rvs_reference.specs.Reference.{test_limit}
use Rattle.rvs_reference.specs.declared.test_run.Run.{Run}
use Rattle.rvs_words.specs.declared.command.ReferenceArguments.{ReferenceArguments}

-- The test halts. The files are as before, but that of the signature, which has its words, and that
-- of the log, which has the executed instructions. The output has the line that counts both.
pub record HasRecorded (files : Files) (asked : ReferenceArguments) (old new : World) : Type
    0 where
  pub run : Run
  pub both : BothHalt files asked.isa asked.test asked.steps run
  pub files_are : new.host.files
      ≡ Some (with_log asked.log run.trace
      (with_file asked.signature (text_of_words run.words) files))
  pub printed : new.out.bytes
      ≡ appended old.out.bytes (ran_line (length run.trace) (length run.words))

-- the test is within its limit, and has no image, traps, or doesn't halt
pub record FailsToHalt (isa : Isa) (test bytes : List ℕ) (steps : Option ℕ) (text : List ℕ) : Type
    0 where
  pub within : length bytes ≤ test_limit
  pub found : test_found steps isa test bytes ≡ Err text

-- the named test is there and is refused, for the reason that this text says
pub record IsTestRefused (files : Files) (isa : Isa) (test : List ℕ) (steps : Option ℕ)
    (text : List ℕ) : Type 0 where
  pub bytes : List ℕ
  pub there : files test ≡ Some bytes
  pub reason : PassesLimit test_limit test bytes text ⊎ FailsToHalt isa test bytes steps text

-- the ISA file is refused, or it is accepted and the test is refused
abbrev pub FirstRefused : Files → List ℕ → List ℕ → Option ℕ → List ℕ → Type 0
FirstRefused files isa test steps text = IsRefused files isa text ⊎
    ((said : AcceptedSpec) × Says files isa said × IsTestRefused files said.spec test steps text)

-- the ISA file isn't there, or it is accepted and the test isn't there; this is its name
abbrev pub FirstMissing : Files → List ℕ → List ℕ → List ℕ → Type 0
FirstMissing files isa test name = ((name ≡ isa) × (files isa ≡ None)) ⊎
    ((said : AcceptedSpec) × Says files isa said × (name ≡ test) × (files test ≡ None))
