-- What a test is of which `reference` tells the run.
use Rattle.std.specs.Prelude.{◌≡◌, ◌≤◌, ℕ, List, length, IsTrue, Option, Some, None, Ok}
use Rattle.rvs_base.specs.Host.{Files, with_file}
use Rattle.rvs_insn.specs.Isa.{Isa}
use Rattle.rvs_isa.specs.declared.accepted_spec.AcceptedSpec.{AcceptedSpec}
use Rattle.rvs_machine.specs.Image.{ImageValue}
use Rattle.rvs_machine.specs.Machine.{State, started, signature_of}
use Rattle.rvs_machine.specs.Run.{run_of}
use Rattle.rvs_machine.specs.declared.event.Executed.{Executed}
use Rattle.rvs_machine.specs.declared.event.End.TheVariants.{Halted}
use Rattle.rvs_elf.specs.Laws.{AreOctets}
use Rattle.rvs_asm.specs.Answer.{Assembles}
use Rattle.rvs_log.specs.Logs.{log_of}
use Rattle.rvs_promises.specs.Says.{Says}
use Rattle.rvs_reference.specs.TestRun.{image_found, is_executable_name, limit_of}
use Rattle.rvs_reference.specs.Reference.{test_limit}
use Rattle.rvs_reference.specs.declared.test_run.Run.{Run}

-- the run of the image halts within so many instructions, and these are the instructions and the
-- words of the signature after them
pub record Halts (isa : Isa) (limit : ℕ) (image : ImageValue) (run : Run) : Type 0 where
  pub state : State
  pub halts : run_of (started image isa).setup limit (started image isa).state
      ≡ record { trace = run.trace; state = state; end = Halted }
  pub words : run.words ≡ signature_of (record { setup = (started image isa).setup; state = state })

-- the named test is there, within its limit, and has an image, whose run halts
pub record TestHalts (files : Files) (isa : Isa) (test : List ℕ) (steps : Option ℕ)
    (run : Run) : Type 0 where
  pub bytes : List ℕ
  pub there : files test ≡ Some bytes
  pub within : length bytes ≤ test_limit
  pub image : ImageValue
  pub spelt : image_found isa test bytes ≡ Ok image
  pub halts : Halts isa (limit_of steps test bytes) image run

-- the ISA file is accepted, and the test halts on the core of which it speaks
pub record BothHalt (files : Files) (isa test : List ℕ) (steps : Option ℕ) (run : Run) : Type
    0 where
  pub said : AcceptedSpec
  pub says : Says files isa said
  pub test_halts : TestHalts files said.spec test steps run

-- the same of a test that is assembler text: an image stands to the text, and its run halts
pub record TextHalts (files : Files) (isa test : List ℕ) (steps : Option ℕ) (run : Run) : Type
    0 where
  pub said : AcceptedSpec
  pub says : Says files isa said
  pub bytes : List ℕ
  pub there : files test ≡ Some bytes
  pub image : ImageValue
  pub stands : Assembles bytes said.spec image
  pub halts : Halts said.spec (limit_of steps test bytes) image run

-- where the name is that of an executable, what the file of this name holds are bytes
abbrev pub HoldsOctets : Files → List ℕ → Type 0
HoldsOctets files name =
    IsTrue (is_executable_name name) → (bytes : List ℕ) → files name ≡ Some bytes → AreOctets bytes

-- the files with a log, where one is asked for
abbrev pub with_log : Option (List ℕ) → List Executed → Files → Files
with_log None trace files = files
with_log (Some log) trace files = with_file log (log_of trace) files
