-- What comes of a test file: its image, and the run of that.
use Rattle.std.specs.Prelude.{◌≡◌, ◌||◌, ℕ, Bool, false, nat_eq, if◌then◌else◌, List, Option}
use Rattle.std.specs.Prelude.{Some, None, unwrap_or, Result, Ok, Err, codes, ⊤}
use Rattle.std.specs.List.{ends_with}
use Rattle.rvs_plan.specs.Plan.{Plan, Ends}
use Rattle.rvs_plan.specs.Refusing.{input_text}
use Rattle.rvs_plan.specs.declared.stop.Stop.{Stop}
use Rattle.rvs_plan.specs.declared.stop.Stop.TheVariants.{Usage, Refused, NoFile, CannotRead}
use Rattle.rvs_plan.specs.declared.stop.Stop.TheVariants.{CannotWrite, CannotRun, NoMemory}
use Rattle.rvs_plan.specs.declared.stop.Stop.TheVariants.{SinkFault}
use Rattle.rvs_insn.specs.Isa.{Isa}
use Rattle.rvs_machine.specs.Image.{ImageValue}
use Rattle.rvs_machine.specs.ImageNumbers.{refusal_text as image_text}
use Rattle.rvs_machine.specs.ImageText.{image_of_bytes}
use Rattle.rvs_machine.specs.Machine.{Setup, started, signature_of}
use Rattle.rvs_machine.specs.Run.{Outcome, run_of}
use Rattle.rvs_machine.specs.declared.reading.ImageRefusal.{ImageRefusal}
use Rattle.rvs_machine.specs.declared.event.End.{End}
use Rattle.rvs_machine.specs.declared.event.Executed.{Executed}
use Rattle.rvs_machine.specs.declared.event.End.TheVariants as ended
use Rattle.rvs_elf.specs.Executable.{image_of_elf}
use Rattle.rvs_elf.specs.Numbers.{refusal_text as elf_text}
use Rattle.rvs_elf.specs.declared.refusal.ElfRefusal.{ElfRefusal}
use Rattle.rvs_asm_text.specs.Header.{header_steps}
use Rattle.rvs_asm.specs.Answer.{answer}
use Rattle.rvs_asm.specs.KindNumbers.{refusal_text as asm_text}
use Rattle.rvs_asm.specs.declared.refusal.AsmRefusal.{AsmRefusal}
use Rattle.rvs_reference.specs.TestTexts.{trap_text, steps_text}
use Rattle.rvs_reference.specs.declared.test_run.Run.{Run}

-- a value, or the text that says why an input is refused, as an end
abbrev pub found_end : {A : Type 0} → Result A (List ℕ) → Result A Stop
found_end (Ok a) = Ok a
found_end (Err text) = Err (Refused text)

-- no effect, and that end
abbrev pub accepted : {A : Type 0} → Result A (List ℕ) → Plan A
accepted found = Ends (found_end found)

-- goes on with what was found
abbrev pub then_found : {A B : Type 0} → Result A (List ℕ) → (A → Result B (List ℕ))
    → Result B (List ℕ)
then_found (Ok a) next = next a
then_found (Err text) next = Err text

-- a call gives what is found, or says want of memory
abbrev pub Accepts : {A : Type 0} → Result A (List ℕ) → Result A Stop → Type 0
Accepts found (Ok a) = found ≡ Ok a
Accepts found (Err (Refused text)) = found ≡ Err text
Accepts found (Err NoMemory) = ⊤
Accepts found (Err Usage) = ⊥
Accepts found (Err (NoFile name)) = ⊥
Accepts found (Err (CannotRead name)) = ⊥
Accepts found (Err (CannotWrite name)) = ⊥
Accepts found (Err (CannotRun name)) = ⊥
Accepts found (Err SinkFault) = ⊥

-- the name of an image file ends with `.img`
abbrev pub is_image_name : List ℕ → Bool
is_image_name name = ends_with nat_eq name (codes ".img")

-- and that of an executable with `.elf`
abbrev pub is_executable_name : List ℕ → Bool
is_executable_name name = ends_with nat_eq name (codes ".elf")

-- the name is that of assembler text, and of no image file or executable
abbrev pub NamesText : List ℕ → Type 0
NamesText name = (is_image_name name ≡ false) × (is_executable_name name ≡ false)

-- what comes of the named input, or the line that says why it is refused
abbrev pub input_found : {A R : Type 0} → (R → List ℕ) → List ℕ → Result A R → Result A (List ℕ)
input_found said name (Ok a) = Ok a
input_found said name (Err refusal) = Err (input_text name (said refusal))

abbrev pub file_found : List ℕ → Result ImageValue ImageRefusal → Result ImageValue (List ℕ)
file_found name found = input_found image_text name found

abbrev pub executable_found : List ℕ → Result ImageValue ElfRefusal → Result ImageValue (List ℕ)
executable_found name found = input_found elf_text name found

abbrev pub text_found : List ℕ → Result ImageValue AsmRefusal → Result ImageValue (List ℕ)
text_found name found = input_found asm_text name found

-- the image of a test file, which is an image file, an executable or assembler text
abbrev pub image_found : Isa → List ℕ → List ℕ → Result ImageValue (List ℕ)
image_found isa name bytes = if is_image_name name then file_found name
    (image_of_bytes isa.memory bytes)
    else (if is_executable_name name then executable_found name (image_of_elf isa.memory bytes)
    else text_found name (answer isa bytes))

-- how many instructions a test may have, where nothing says it
abbrev pub usual_limit : ℕ
usual_limit = 1_000_000

-- how many instructions a test may have: what was asked for, or what the header of its text says
abbrev pub limit_of : Option ℕ → List ℕ → List ℕ → ℕ
limit_of (Some steps) name bytes = steps
limit_of None name bytes = if is_image_name name || is_executable_name name then usual_limit
    else unwrap_or (header_steps bytes) usual_limit

-- what a run leaves
abbrev pub left_by : Setup → Outcome → Run
left_by setup o =
    record { words = signature_of (record { setup = setup; state = o.state }); trace = o.trace }

-- What a run that halted leaves, or why it didn't halt. No run ends for want of memory.
abbrev pub run_end : List ℕ → ℕ → Run → End → Result Run (List ℕ)
run_end name limit run ended.Halted = Ok run
run_end name limit run (ended.Trapped trap) = Err (trap_text name trap)
run_end name limit run ended.StepLimit = Err (steps_text name limit)
run_end name limit run ended.NoMemory = Err (steps_text name limit)

abbrev pub outcome_end : List ℕ → ℕ → Setup → Outcome → Result Run (List ℕ)
outcome_end name limit setup o = run_end name limit (left_by setup o) o.end

-- the run of at most so many instructions of an image on a core
unfoldable pub run_found : List ℕ → ℕ → Isa → ImageValue → Result Run (List ℕ)
run_found name limit isa image = outcome_end name limit (started image isa).setup
    (run_of (started image isa).setup limit (started image isa).state)

-- a run's words with its trace
abbrev pub with_trace : List Executed → Result (List ℕ) Stop → Result Run Stop
with_trace trace (Ok words) = Ok (record { words = words; trace = trace })
with_trace trace (Err stop) = Err stop

-- the run of a test file
abbrev pub test_found : Option ℕ → Isa → List ℕ → List ℕ → Result Run (List ℕ)
test_found steps isa name bytes =
    then_found (image_found isa name bytes) (run_found name (limit_of steps name bytes) isa)
