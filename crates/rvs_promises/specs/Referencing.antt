-- What every call of `reference` promises.
use Rattle.std.specs.Prelude.{◌≡◌, ◌≢◌, List, ℕ, length, Option, Some, Result, Ok}
use Rattle.rvs_base.specs.Host.{Files, Tells, with_file}
use Rattle.rvs_base.specs.Sink.{appended}
use Rattle.rvs_plan.specs.Inputs.{part_end}
use Rattle.rvs_plan.specs.declared.stop.Stop.{Stop}
use Rattle.rvs_insn.specs.Isa.{Isa}
use Rattle.rvs_sig.specs.Words.{text_of_words}
use Rattle.rvs_promises.specs.Answered.{Answered, OnDone}
use Rattle.rvs_promises.specs.Call.{Call, Asks}
use Rattle.rvs_inputs.specs.GroupFiles.{and_then}
use Rattle.rvs_promises.specs.Halting.{TextHalts, with_log}
use Rattle.rvs_reference.specs.Reference.{test_limit}
use Rattle.rvs_inputs.specs.Specification.{said_in}
use Rattle.rvs_reference.specs.TestRun.{NamesText, found_end, test_found}
use Rattle.rvs_reference.specs.TestTexts.{ran_line}
use Rattle.rvs_reference.specs.declared.test_run.Run.{Run}
use Rattle.rvs_words.specs.declared.command.Command.TheVariants.{Reference}
use Rattle.rvs_words.specs.declared.command.ReferenceArguments.{ReferenceArguments}

-- what the named test leaves on a core, or why the command stops there
abbrev pub trial_in : Files → Option ℕ → Isa → List ℕ → Result Run Stop
trial_in files steps isa test =
    and_then (part_end test_limit test test test_limit (files test))
    (λ bytes. found_end (test_found steps isa test bytes))

-- what the test leaves on the core of which the ISA file speaks, or why the first of both files
-- isn't accepted
abbrev pub run_in : Files → List ℕ → List ℕ → Option ℕ → Result Run Stop
run_in files isa test steps =
    and_then (said_in files isa) (λ said. trial_in files steps said.spec test)

-- The files are as before, but that of the signature, which has the run's words, and that of the
-- log, which has its instructions. The output has the line that counts both.
pub record HasRecorded (call : Call) (files : Files) (signature : List ℕ) (log : Option (List ℕ))
    (run : Run) : Type 0 where
  pub files_are : call.new.host.files
      ≡ Some (with_log log run.trace (with_file signature (text_of_words run.words) files))
  pub printed : call.new.out.bytes
      ≡ appended call.old.out.bytes (ran_line (length run.trace) (length run.words))

-- a call of `reference` on these two of these files, for these outputs
pub record Refers (call : Call) (files : Files) (asked : ReferenceArguments) : Type 0 where
  -- it is done where the ISA file is accepted and the test halts, and has then written the
  -- signature and the log and put its line; it is refused, or the host fails, at the first file
  -- that isn't accepted, and so where the test traps or doesn't halt
  pub answered : Answered call (run_in files asked.isa asked.test asked.steps)
      (OnDone (HasRecorded call files asked.signature asked.log))
  -- where it is assembler text, this image stands to the text
  pub assembled : (run : Run) → run_in files asked.isa asked.test asked.steps ≡ Ok run
      → NamesText asked.test → TextHalts files asked.isa asked.test asked.steps run
  -- it writes no file but those of the signature and the log, however it ends
  pub others_kept : (files' : Files) (other : List ℕ) → other ≢ asked.signature
      → asked.log ≢ Some other
      → call.new.host.files ≡ Some files' → files' other ≡ files other

-- the same of every call: over told files, where its words ask for `reference`
abbrev pub Promise : Call → Type 0
Promise call =
    (files : Files) (asked : ReferenceArguments)
    → Tells call.old.host files → Asks call (Reference asked)
    → Refers call files asked
