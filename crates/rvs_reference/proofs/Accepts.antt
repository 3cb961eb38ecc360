-- What comes of a value or a refusal that was found.
use Rattle.std.proofs.Common.{◌≡◌, ℕ, true, false, List, Result, Ok, Err, refl, sym, subst, inl}
use Rattle.std.proofs.Common.{inr}
use Rattle.rvs_base.specs.Answers.{Answers}
use Rattle.rvs_base.specs.declared.fault.Fault.{Fault}
use Rattle.rvs_base.specs.declared.fault.Fault.TheVariants as fault
use Rattle.rvs_plan.specs.World.{World}
use Rattle.rvs_plan.specs.Meets.{Meets}
use Rattle.rvs_plan.specs.Refusing.{Stops}
use Rattle.rvs_plan.specs.declared.stop.Stop.{Stop}
use Rattle.rvs_plan.specs.declared.stop.Stop.TheVariants.{Usage, Refused, NoFile, CannotRead}
use Rattle.rvs_plan.specs.declared.stop.Stop.TheVariants.{CannotWrite, CannotRun, NoMemory}
use Rattle.rvs_plan.specs.declared.stop.Stop.TheVariants.{SinkFault}
use Rattle.rvs_plan.proofs.Sequence.{Meets-gives, Meets-no_memory}
use Rattle.rvs_insn.specs.Isa.{Isa}
use Rattle.rvs_insn.specs.Memory.{Memory}
use Rattle.rvs_machine.specs.Image.{ImageValue}
use Rattle.rvs_machine.specs.ImageText.{image_of_bytes}
use Rattle.rvs_machine.specs.ImageNumbers.{refusal_text as image_text}
use Rattle.rvs_machine.specs.declared.reading.ImageRefusal.{ImageRefusal}
use Rattle.rvs_elf.specs.Executable.{image_of_elf}
use Rattle.rvs_elf.specs.Numbers.{refusal_text as elf_text}
use Rattle.rvs_elf.specs.declared.refusal.ElfRefusal.{ElfRefusal}
use Rattle.rvs_inputs.proofs.Accepting.{Meets-refused}
use Rattle.rvs_reference.specs.TestRun.{accepted, input_found, Accepts, is_image_name}
use Rattle.rvs_reference.specs.TestRun.{is_executable_name, image_found}

pub Meets-accepts : {A : Type 0} (found : Result A (List ℕ)) (result : Result A Stop) (w : World)
    → Accepts found result → Meets (accepted found) w w result
Meets-accepts {A} found (Ok a) w e =
    subst (λ (f : Result A (List ℕ)). Meets (accepted f) w w (Ok a)) (sym e) (Meets-gives a w)
Meets-accepts {A} found (Err (Refused text)) w e = subst
    (λ (f : Result A (List ℕ)). Meets {A = A} (accepted f) w w (Err (Refused text))) (sym e)
    (Meets-refused text w)
Meets-accepts found (Err NoMemory) w e = Meets-no_memory (accepted found) w
Meets-accepts found (Err Usage) w e = absurd e
Meets-accepts found (Err (NoFile name)) w e = absurd e
Meets-accepts found (Err (CannotRead name)) w e = absurd e
Meets-accepts found (Err (CannotWrite name)) w e = absurd e
Meets-accepts found (Err (CannotRun name)) w e = absurd e
Meets-accepts found (Err SinkFault) w e = absurd e

-- what comes of an input
pub Accepts-stops : {A R : Type 0} (said : R → List ℕ) (name : List ℕ) (found : Result A R)
    (answer : Result A (Fault R)) (result : Result A Stop) → Answers answer found
    → Stops said name answer result → Accepts (input_found said name found) result
Accepts-stops said name found (Ok a) result is stops = rw (is, stops) refl
Accepts-stops said name found (Err (fault.Refused r)) result is (inl none) = rw none tt
Accepts-stops said name found (Err (fault.Refused r)) result is (inr told) =
    rw (is r refl, told) refl
Accepts-stops said name found (Err fault.NoMemory) result is none = rw none tt

-- by the name an image file
pub image-stops : (isa : Isa) (memory : Memory) (name bytes : List ℕ)
    (answer : Result ImageValue (Fault ImageRefusal)) (result : Result ImageValue Stop)
    → memory ≡ isa.memory → is_image_name name ≡ true
    → Answers answer (image_of_bytes memory bytes) → Stops image_text name answer result
    → Accepts (image_found isa name bytes) result
image-stops isa memory name bytes answer result same image is stops =
    rw (image, ← same)
    (Accepts-stops image_text name (image_of_bytes memory bytes) answer result is stops)

-- an executable
pub executable-stops : (isa : Isa) (memory : Memory) (name bytes : List ℕ)
    (answer : Result ImageValue (Fault ElfRefusal)) (result : Result ImageValue Stop)
    → memory ≡ isa.memory → is_image_name name ≡ false → is_executable_name name ≡ true
    → Answers answer (image_of_elf memory bytes) → Stops elf_text name answer result
    → Accepts (image_found isa name bytes) result
executable-stops isa memory name bytes answer result same image executable is stops =
    rw (image, executable, ← same)
    (Accepts-stops elf_text name (image_of_elf memory bytes) answer result is stops)
