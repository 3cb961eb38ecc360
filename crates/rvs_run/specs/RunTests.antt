-- What judging tests does, and what `run` over groups does.
use Rattle.std.specs.Prelude.{ℕ, ◌+◌, ◌-◌, ◌==◌, Bool, true, false, if◌then◌else◌, List, [], ◌∷◌}
use Rattle.std.specs.Prelude.{◌++◌, length, codes, decimal, Option, Some, None, Result, Ok}
use Rattle.rvs_plan.specs.Inputs.{input}
use Rattle.rvs_plan.specs.Plan.{Plan, gives, prints, writes, ◌>>=◌}
use Rattle.rvs_plan.specs.declared.status.Finish.{Finish}
use Rattle.rvs_plan.specs.declared.status.Finish.TheVariants.{Done, NotPassed}
use Rattle.rvs_insn.specs.Isa.{Isa}
use Rattle.rvs_machine.specs.Image.{ImageValue}
use Rattle.rvs_elf.specs.Written.{elf_of}
use Rattle.rvs_sig.specs.Words.{text_of_words}
use Rattle.rvs_cgf.specs.Groups.{Label}
use Rattle.rvs_device.specs.Command.{wants_elf, Filling}
use Rattle.rvs_device.specs.DeviceFile.{Told}
use Rattle.rvs_device.specs.Plans.{judged}
use Rattle.rvs_device.specs.Judging.{task}
use Rattle.rvs_device.specs.Printed.{verdict_line}
use Rattle.rvs_device.specs.declared.verdicts.TestVerdict.{TestVerdict}
use Rattle.rvs_device.specs.declared.verdicts.TestVerdict.TheVariants.{Pass}
use Rattle.rvs_inputs.specs.GroupFiles.{Inputs}
use Rattle.rvs_generate.specs.TestedInputs.{part_inputs}
use Rattle.rvs_generate.specs.GenerateTexts.{listing}
use Rattle.rvs_reference.specs.Reference.{test_limit}
use Rattle.rvs_generate.specs.TestFiles.{files_of, files_at}
use Rattle.rvs_reference.specs.TestRun.{accepted, then_found, image_found, limit_of, run_found}
use Rattle.rvs_generate.specs.Tests.{reference_words, executable_of, tests_of, held, source_name}
use Rattle.rvs_inputs.specs.DeviceInput.{device_file}
use Rattle.rvs_generate.specs.declared.gathering.Test.{Test}
use Rattle.rvs_run.specs.declared.judging.Made.{Made}
use Rattle.rvs_generate.specs.declared.sources.Source.{Source}
use Rattle.rvs_generate.specs.declared.sources.Source.TheVariants.{Held, Read}
use Rattle.rvs_generate.specs.declared.test_files.TestFiles.{TestFiles}
use Rattle.rvs_reference.specs.declared.test_run.Run.{Run}
use Rattle.rvs_words.specs.declared.command.RunArguments.{RunArguments}

-- what tests are judged with: the program's own name, a device, the folder of the files, and a core
pub record Bench : Type 0 where
  pub program : List ℕ
  pub device : Told
  pub work : List ℕ
  pub isa : Isa

-- the files of a test
abbrev pub files_for : Bench → Test → TestFiles
files_for bench test = files_of bench.work test.name

-- the device asks for the executables of tests
abbrev pub asks_elf : Bench → Bool
asks_elf bench = wants_elf bench.device.command

abbrev pub if_asked : Bool → List ℕ → Option (List ℕ)
if_asked true executable = Some executable
if_asked false executable = None

-- the executable of a test, where the device asks for it
abbrev pub executable_for : Bench → Test → Option (List ℕ)
executable_for bench test = if_asked (asks_elf bench) (executable_of bench.isa test)

-- what comes of a test that was made before it is judged
abbrev pub made_for : Bench → Test → Made
made_for bench test = record {
  files = files_for bench test;
  executable = executable_for bench test;
  words = reference_words bench.isa test;
}

-- what comes of a test with these files and this image before it is judged, where its run leaves
-- this
abbrev pub made_by : Bench → TestFiles → ImageValue → Run → Made
made_by bench files image run = record {
  files = files;
  executable = if_asked (asks_elf bench) (elf_of image);
  words = run.words;
}

abbrev pub made_of_image : Bench → TestFiles → List ℕ → ImageValue → Result Made (List ℕ)
made_of_image bench files bytes image =
    then_found (run_found files.test (limit_of None files.test bytes) bench.isa image)
    (λ run. Ok (made_by bench files image run))

-- the same of one with these bytes: it is checked and run as `reference` does it where no number of
-- steps is asked for
abbrev pub made_found : Bench → TestFiles → List ℕ → Result Made (List ℕ)
made_found bench files bytes =
    then_found (image_found bench.isa files.test bytes) (made_of_image bench files bytes)

-- a test that was made is at hand; the file of another is read, and run on the reference machine
abbrev pub makes : Bench → Source → Plan Made
makes bench (Held test) = gives (made_for bench test)
makes bench (Read given) = input test_limit given.name
    >>= (λ bytes. accepted (made_found bench (files_at bench.work given.place given.name) bytes))

-- how many tests there are, passed, and didn't pass
unfoldable pub tally_line : ℕ → ℕ → List ℕ
tally_line tests passed =
    codes "total " ++ (decimal tests ++ (codes " tests, " ++ (decimal passed ++ (codes " pass, "
    ++ (decimal (tests - passed) ++ codes " fail\n")))))

-- what stands for the placeholders of the device's words, for a test in these files
abbrev pub filling : Bench → TestFiles → Filling
filling bench files = record {
  program = bench.program;
  test = files.test;
  elf = files.executable;
  signature = files.device;
  text_base = bench.isa.memory.text_base;
  data_base = bench.isa.memory.data_base;
}

-- the device is run on the test in these files, and judged by these words
abbrev pub judges_by : Bench → TestFiles → List ℕ → Plan TestVerdict
judges_by bench files words = judged (task bench.device.command (filling bench files) words)

-- the words are written, and then the device is run
abbrev pub judges_words : Bench → TestFiles → List ℕ → Plan TestVerdict
judges_words bench files words = do
  _ ← writes files.reference (text_of_words words)
  judges_by bench files words

-- an executable is written where there is one
abbrev pub writes_executable : List ℕ → Option (List ℕ) → Plan (Unit {0})
writes_executable name None = gives tt
writes_executable name (Some executable) = writes name executable

-- the text of a test that was made is written
abbrev pub writes_held : List ℕ → Source → Plan (Unit {0})
writes_held name (Held test) = writes name test.text
writes_held name (Read given) = gives tt

-- then its executable is where the device asks for it, and the words that it leaves on the
-- reference machine; the device is run on it and judged by these
abbrev pub judges_made : Bench → Source → Made → Plan TestVerdict
judges_made bench source made = do
  _ ← writes_held made.files.test source
  _ ← writes_executable made.files.executable made.executable
  judges_words bench made.files made.words

abbrev pub passes : TestVerdict → Bool
passes (Pass n status) = true
passes verdict = false

-- the line of the verdict is put
abbrev pub announces : List ℕ → TestVerdict → Plan Bool
announces name verdict = do
  _ ← prints (verdict_line name verdict)
  gives (passes verdict)

-- and the verdict is put with the name of the test
abbrev pub announces_made : Bench → Source → Made → Plan Bool
announces_made bench source made = judges_made bench source made >>= announces (source_name source)

abbrev pub judges_one : Bench → Source → Plan Bool
judges_one bench source = makes bench source >>= announces_made bench source

abbrev pub with_one : ℕ → Bool → ℕ
with_one passed pass = if pass then passed + 1 else passed

-- all tests are judged, one after the other, and those that pass are counted on
abbrev pub judges_all : Bench → ℕ → List Source → Plan ℕ
judges_all bench passed [] = gives passed
judges_all bench passed (source ∷ sources) =
    judges_one bench source >>= (λ pass. judges_all bench (with_one passed pass) sources)

abbrev pub verdict_of_all : ℕ → ℕ → Finish
verdict_of_all tests passed = if passed == tests then Done else NotPassed

-- the totals are put
abbrev pub tallies : ℕ → ℕ → Plan Finish
tallies tests passed = do
  _ ← prints (tally_line tests passed)
  gives (verdict_of_all tests passed)

abbrev pub judges_tests : Bench → List Source → Plan Finish
judges_tests bench sources = judges_all bench 0 sources >>= tallies (length sources)

-- what is said of tests is put, and then they are judged
abbrev pub judges_gathered : Bench → List ℕ → List Source → Plan Finish
judges_gathered bench text tests = do
  _ ← prints text
  judges_tests bench tests

-- what `generate` says of the labels is put, and then their tests are judged
abbrev pub runs_tests : Bench → List Label → Plan Finish
runs_tests bench groups =
    judges_gathered bench (listing bench.isa groups) (held (tests_of bench.isa groups))

-- a core, groups, and a device
pub record RunInputs : Type 0 where
  pub groups : Inputs
  pub device : Told

-- the ISA file and the group files are read and checked, and then the device file is
abbrev pub run_inputs : RunArguments → Plan RunInputs
run_inputs asked = do
  inputs ← part_inputs asked.part asked.isa asked.families asked.groups
  told ← device_file asked.device
  gives (record { groups = inputs; device = told })

abbrev pub bench_of : List ℕ → List ℕ → RunInputs → Bench
bench_of program work inputs =
    record { program = program; device = inputs.device; work = work; isa = inputs.groups.isa }

abbrev pub runs : List ℕ → List ℕ → RunInputs → Plan Finish
runs program work inputs = runs_tests (bench_of program work inputs) inputs.groups.groups

-- the same, where the core and the groups are read
abbrev pub runs_over : RunArguments → Inputs → Plan Finish
runs_over asked inputs = do
  told ← device_file asked.device
  runs asked.program asked.work (record { groups = inputs; device = told })

-- all inputs are read and checked, and then the tests are made, run and judged
abbrev pub run : RunArguments → Plan Finish
run asked = do
  inputs ← run_inputs asked
  runs asked.program asked.work inputs
