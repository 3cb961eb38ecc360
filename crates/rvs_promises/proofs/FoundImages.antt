-- What holds of the image of a test file, whichever kind of file it is.
use Rattle.std.proofs.Common.{◌≡◌, ℕ, Bool, true, false, if◌then◌else◌, List, Result, Ok}
use Rattle.std.proofs.Common.{arith}
use Rattle.rvs_insn.specs.Isa.{Isa}
use Rattle.rvs_machine.specs.Image.{ImageValue, IsImage}
use Rattle.rvs_machine.specs.ImageText.{image_of_bytes}
use Rattle.rvs_machine.specs.declared.reading.ImageRefusal.{ImageRefusal}
use Rattle.rvs_elf.specs.Executable.{image_of_elf}
use Rattle.rvs_elf.specs.declared.refusal.ElfRefusal.{ElfRefusal}
use Rattle.rvs_asm.specs.Answer.{answer}
use Rattle.rvs_asm.specs.declared.refusal.AsmRefusal.{AsmRefusal}
use Rattle.rvs_asm.proofs.Answered.{answered_stands}
use Rattle.rvs_reference.specs.TestRun.{image_found, file_found, executable_found, text_found}
use Rattle.rvs_reference.specs.TestRun.{is_image_name, is_executable_name}
use Rattle.rvs_promises.proofs.ImageRegions.{file-image, elf-image, stands-map}

pub of-file : (name : List ℕ) (r : Result ImageValue ImageRefusal) (image : ImageValue)
    → file_found name r ≡ Ok image → r ≡ Ok image
of-file name r image is = grind arith

pub of-elf : (name : List ℕ) (r : Result ImageValue ElfRefusal) (image : ImageValue)
    → executable_found name r ≡ Ok image → r ≡ Ok image
of-elf name r image is = grind arith

pub of-text : (name : List ℕ) (r : Result ImageValue AsmRefusal) (image : ImageValue)
    → text_found name r ≡ Ok image → r ≡ Ok image
of-text name r image is = grind arith

-- its regions are in order, and it lies where the memory of the core does
pub sound : (isa : Isa) (name bytes : List ℕ) (image : ImageValue)
    → image_found isa name bytes ≡ Ok image → IsImage image × (image.memory ≡ isa.memory)
sound isa name bytes image is = by (is_image_name name) (is_executable_name name) is
  where
    by : (i e : Bool) → (if i then file_found name (image_of_bytes isa.memory bytes)
        else (if e then executable_found name (image_of_elf isa.memory bytes)
        else text_found name (answer isa bytes))) ≡ Ok image
        → IsImage image × (image.memory ≡ isa.memory)
    by true e is = file-image isa.memory bytes image
        (of-file name (image_of_bytes isa.memory bytes) image is)
    by false true is = elf-image isa.memory bytes image
        (of-elf name (image_of_elf isa.memory bytes) image is)
    by false false is =
        let stands = answered_stands isa bytes image (of-text name (answer isa bytes) image is) in
        (stands.regions, stands-map bytes isa image stands)
