-- The log of a test that halts has the executed instructions as its entries.
use Rattle.std.proofs.Common.{◌≡◌, ℕ, Bool, true, false, cond, List, Option, Ok}
use Rattle.std.proofs.Common.{sym, ap, subst, ◌^◌, ◌<◌, arith, rules}
use Rattle.std.specs.Prelude.{map}
use Rattle.rvs_base.specs.Host.{Files}
use Rattle.rvs_insn.specs.Isa.{Isa}
use Rattle.rvs_insn.specs.Memory.{Memory}
use Rattle.rvs_isa.proofs.Rooms.{accepted_have_room}
use Rattle.rvs_machine.specs.Image.{ImageValue}
use Rattle.rvs_machine.specs.ImageText.{image_of_bytes}
use Rattle.rvs_machine.specs.Run.{Outcome}
use Rattle.rvs_elf.specs.Executable.{image_of_elf}
use Rattle.rvs_elf.specs.Laws.{AreOctets}
use Rattle.rvs_elf.proofs.Octets.{octets_stay}
use Rattle.rvs_asm.specs.Answer.{answer}
use Rattle.rvs_log.specs.Entries.{entries_of}
use Rattle.rvs_log.specs.Logs.{log_of, as_entry}
use Rattle.rvs_log.proofs.RunLogs.{trace_of, run_entries}
use Rattle.rvs_reference.specs.TestRun.{is_image_name, is_executable_name, file_found}
use Rattle.rvs_reference.specs.TestRun.{executable_found, text_found, limit_of}
use Rattle.rvs_promises.specs.Halting.{BothHalt, HoldsOctets}
use Rattle.rvs_reference.specs.declared.test_run.Run.{Run}
use Rattle.rvs_log.proofs.Octets.{bytes_below}
use Rattle.rvs_promises.proofs.FoundImages.{of-file, of-elf, of-text, sound}
use Rattle.rvs_promises.proofs.ImageBytes.{HasBytes, of_file, of_text}

-- text and data are bytes
record HasOctets (image : ImageValue) : Type 0 where
  text : AreOctets image.text
  ram : AreOctets image.data_bytes

octets : (image : ImageValue) → HasBytes image → HasOctets image
octets image h = grind (arith, bytes_below)

-- an image file, an executable of bytes, or assembler text
found_bytes : (b e : Bool) (isa : Isa) (name bytes : List ℕ) (image : ImageValue)
    → (e ≡ true → AreOctets bytes)
    → cond b (file_found name (image_of_bytes isa.memory bytes))
    (cond e (executable_found name (image_of_elf isa.memory bytes))
    (text_found name (answer isa bytes)))
    ≡ Ok image → HasOctets image
found_bytes true e isa name bytes image holds h = search (rules, octets, of_file, of-file)
found_bytes false true isa name bytes image holds h = grind (arith, octets_stay, of-elf)
found_bytes false false isa name bytes image holds h = search (rules, octets, of_text, of-text)

image_entries : (image : ImageValue) (isa : Isa) (n : ℕ) → image.memory.text_base < 2 ^ 32
    → HasOctets image
    → entries_of (log_of (trace_of image isa n)) ≡ map as_entry (trace_of image isa n)
image_entries image isa n low h = run_entries image isa n low h.text h.ram

pub halting_entries : (files : Files) (isa test : List ℕ) (steps : Option ℕ) (run : Run)
    → BothHalt files isa test steps run → HoldsOctets files test
    → entries_of (log_of run.trace) ≡ map as_entry run.trace
halting_entries files isa test steps run b holds =
    let t = b.test_halts in
    let core = b.said.spec in
    let h = found_bytes (is_image_name test) (is_executable_name test) core test t.bytes t.image
    (λ executable. holds executable t.bytes t.there) t.spelt in
    let same = ap (λ (o : Outcome). o.trace) t.halts.halts in
    let lies = (sound core test t.bytes t.image t.spelt).1 in
    let low : t.image.memory.text_base < 2 ^ 32 =
    subst (λ (m : Memory). m.text_base < 2 ^ 32) (sym lies)
    (accepted_have_room b.says.tree b.said b.says.accepted).text_low in
    subst (λ es. entries_of (log_of es) ≡ map as_entry es) same
    (image_entries t.image core (limit_of steps test t.bytes) low h)
