-- The regions of an image that is read are in order.
use Rattle.std.proofs.Common.{◌≡◌, ◌≤◌, ◌==◌, ℕ, Bool, true, cond, List, []}
use Rattle.std.proofs.Common.{◌<◌, nat_le, nat_lt, Option, Some, None, Result, Ok, Err}
use Rattle.std.proofs.Common.{refl, ap, subst, arith, codes}
use Rattle.std.proofs.lemmas.Bool.{and_parts}
use Rattle.std.proofs.lemmas.Bool.Decides.{nat_tests}
use Rattle.rvs_text.specs.Outcomes.{◌>>=◌}
use Rattle.rvs_asm.specs.Answer.{Assembles}
use Rattle.rvs_insn.specs.Isa.{Isa}
use Rattle.rvs_insn.specs.Memory.{Memory}
use Rattle.rvs_machine.specs.Image.{ImageValue, IsImage, is_image}
use Rattle.rvs_machine.specs.FileLines.{Rest, taken}
use Rattle.rvs_machine.specs.ImageText as file
use Rattle.rvs_machine.specs.ImageText.{image_of_bytes}
use Rattle.rvs_machine.specs.declared.reading.ImageRefusal.{ImageRefusal}
use Rattle.rvs_elf.specs.Executable.{image_of_elf, image_of, image_with, judged}
use Rattle.rvs_elf.specs.Header.{header_of}
use Rattle.rvs_elf.specs.Tables.{segments_of, symbols_of}
use Rattle.rvs_elf.specs.Loading.{loaded}
use Rattle.rvs_elf.specs.Names.{marks_of}

is_zero : (n : ℕ) → (n == 0) ≡ true → n ≡ 0
is_zero n h = grind (arith, nat_tests)

is_below : (m n : ℕ) → nat_le m n ≡ true → m ≤ n
is_below m n h = grind (arith, nat_tests)

is_under : (m n : ℕ) → nat_lt m n ≡ true → m < n
is_under m n h = grind (arith, nat_tests)

pub in_order : (i : ImageValue) → is_image i ≡ true → IsImage i
in_order i h = grind (arith, and_parts, is_zero, is_below, is_under)

-- an image that is answered is one, in this memory
abbrev Holds : {E : Type 0} → Memory → Result ImageValue E → Type 0
Holds memory (Ok image) = IsImage image × (image.memory ≡ memory)
Holds memory (Err e) = Unit {0}

held : {E : Type 0} (memory : Memory) (r : Result ImageValue E) (image : ImageValue)
    → Holds memory r → r ≡ Ok image → IsImage image × (image.memory ≡ memory)
held {E} memory r image h e = subst (λ (x : Result ImageValue E). Holds memory x) e h

goes_any : {A E : Type 0} (memory : Memory) (r : Result A E) (go : A → Result ImageValue E)
    → ((a : A) → Holds memory (go a)) → Holds memory (r >>= go)
goes_any memory = grind arith

tested : {E : Type 0} (memory : Memory) (b : Bool) (image : ImageValue) (e : E)
    → image.memory ≡ memory → (b ≡ true → IsImage image) → Holds memory (cond b (Ok image) (Err e))
tested memory h = grind arith

whole : (memory : Memory) (n : ℕ) (image : ImageValue) (o : Option (List ℕ × Rest))
    → image.memory ≡ memory → Holds memory (file.whole_with n image o)
whole memory n image o same = grind (arith, nat_tests)

abbrev from_end : Memory → List ℕ → List ℕ → Rest → Result ImageValue ImageRefusal
from_end memory text ram r = file.address_lines r >>= (λ a. file.whole memory text ram a.0 a.1)

abbrev from_data : Memory → List ℕ → Rest → Result ImageValue ImageRefusal
from_data memory text r =
    file.section (codes "data ") (file.most_data memory) r >>= (λ d. from_end memory text d.0 d.1)

abbrev from_text : Memory → Rest → Result ImageValue ImageRefusal
from_text memory r =
    file.section (codes "text ") (file.most_text memory) r >>= (λ t. from_data memory t.0 t.1)

pub file-image : (memory : Memory) (bytes : List ℕ) (image : ImageValue)
    → image_of_bytes memory bytes ≡ Ok image → IsImage image × (image.memory ≡ memory)
unfolding image_of_bytes
file-image memory bytes image is =
    held memory (image_of_bytes memory bytes) image
    (goes_any memory (file.header (record { bytes = bytes; line = 1 })) (from_text memory) (λ r.
    goes_any memory (file.section (codes "text ") (file.most_text memory) r)
    (λ t. from_data memory t.0 t.1) (λ t.
    goes_any memory (file.section (codes "data ") (file.most_data memory) t.1)
    (λ d. from_end memory t.0 d.0 d.1) (λ d.
    goes_any memory (file.address_lines d.1) (λ a. file.whole memory t.0 d.0 a.0 a.1) (λ a.
    whole memory a.1.line (record {
      memory = memory;
      text = t.0;
      data_bytes = d.0;
      tohost = a.0.tohost;
      sig_begin = a.0.sig_begin;
      sig_end = a.0.sig_end;
      symbols = [];
    }) (taken a.1) refl))))) is

chosen : (memory : Memory) (b : Bool) (image : ImageValue) → image.memory ≡ memory
    → (b ≡ true → IsImage image) → Holds memory (judged (cond b (Some image) None))
chosen memory b image same h = grind arith

pub elf-image : (memory : Memory) (bytes : List ℕ) (image : ImageValue)
    → image_of_elf memory bytes ≡ Ok image → IsImage image × (image.memory ≡ memory)
unfolding image_of_elf
elf-image memory bytes image is =
    held memory (image_of_elf memory bytes) image
    (goes_any memory (header_of memory bytes) _ (λ header.
    goes_any memory (segments_of header bytes) _ (λ segments.
    goes_any memory (symbols_of header bytes) _ (λ t.
    goes_any memory (loaded memory bytes segments) _ (λ parts.
    goes_any memory (marks_of t.0 t.1) (λ marks. image_of memory parts marks) (λ marks.
    chosen memory (is_image (image_with memory parts marks)) (image_with memory parts marks) refl
    (in_order (image_with memory parts marks)))))))) is

-- ---- assembler text
pub stands-map : (bytes : List ℕ) (isa : Isa) (image : ImageValue) → Assembles bytes isa image
    → image.memory ≡ isa.memory
stands-map bytes isa image stands = ap (λ (i : ImageValue). i.memory) stands.made
