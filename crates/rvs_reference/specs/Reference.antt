-- What `reference` does.
use Rattle.std.specs.Prelude.{ℕ, List, length, Option, Some, None}
use Rattle.rvs_plan.specs.Plan.{Plan, gives, writes, ◌>>=◌}
use Rattle.rvs_plan.specs.Inputs.{input}
use Rattle.rvs_plan.specs.declared.status.Finish.{Finish}
use Rattle.rvs_insn.specs.Isa.{Isa}
use Rattle.rvs_sig.specs.Words.{text_of_words}
use Rattle.rvs_machine.specs.declared.event.Executed.{Executed}
use Rattle.rvs_log.specs.Logs.{log_of}
use Rattle.rvs_inputs.specs.Printing.{print_text}
use Rattle.rvs_inputs.specs.Specification.{specification}
use Rattle.rvs_reference.specs.TestTexts.{ran_line}
use Rattle.rvs_reference.specs.TestRun.{accepted, test_found}
use Rattle.rvs_reference.specs.declared.test_run.Run.{Run}
use Rattle.rvs_words.specs.declared.command.ReferenceArguments.{ReferenceArguments}

-- a test file has at most this many bytes: 64 MiB
abbrev pub test_limit : ℕ
test_limit = 67_108_864

-- a test file is read and run
abbrev pub trial : Option ℕ → Isa → List ℕ → Plan Run
trial steps isa test = do
  bytes ← input test_limit test
  accepted (test_found steps isa test bytes)

-- the log is written where one is asked for
abbrev pub writes_log : Option (List ℕ) → List Executed → Plan (Unit {0})
writes_log None trace = gives tt
writes_log (Some log) trace = writes log (log_of trace)

-- one line is put
abbrev pub announces_run : Run → Plan Finish
announces_run run = print_text (ran_line (length run.trace) (length run.words))

abbrev pub records_log : Option (List ℕ) → Run → Plan Finish
records_log log run = do
  _ ← writes_log log run.trace
  announces_run run

-- the signature is written, then the log where one is asked for, and then one line is put
abbrev pub records : List ℕ → Option (List ℕ) → Run → Plan Finish
records signature log run = do
  _ ← writes signature (text_of_words run.words)
  records_log log run

-- a test is run on a core, and what a run that halted leaves is written
abbrev pub reference_on : ReferenceArguments → Isa → Plan Finish
reference_on asked isa = do
  run ← trial asked.steps isa asked.test
  records asked.signature asked.log run

-- the ISA file is read and checked, then the test is read and run, and then the files are written
abbrev pub reference : ReferenceArguments → Plan Finish
reference asked = do
  said ← specification asked.isa
  reference_on asked said.spec
