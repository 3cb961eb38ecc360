-- Text and data of an image are bytes.
use Rattle.std.proofs.Common.{◌≡◌, ℕ, zero, suc, ◌^◌, Bool, cond, List}
use Rattle.std.proofs.Common.{[], ◌∷◌, Option, Result, Ok, Err, subst, arith, rules}
use Rattle.std.specs.Prelude.{codes, ℤ}
use Rattle.std.specs.List.{flat_map}
use Rattle.std.specs.Int.{w32, to_le_bytes}
use Rattle.rvs_text.specs.Outcomes.{◌>>=◌}
use Rattle.rvs_insn.specs.Isa.{Isa}
use Rattle.rvs_insn.specs.Word.{word_of}
use Rattle.rvs_insn.specs.Memory.{Memory}
use Rattle.rvs_machine.specs.Image.{ImageValue}
use Rattle.rvs_machine.specs.FileLines.{Rest}
use Rattle.rvs_machine.specs.ImageText as file
use Rattle.rvs_machine.specs.declared.reading.ImageRefusal.{ImageRefusal}
use Rattle.rvs_asm_text.specs.declared.bodies.Value.{Value}
use Rattle.rvs_asm_text.specs.declared.bodies.Body.{Body}
use Rattle.rvs_asm_text.specs.declared.bodies.Body.TheVariants.{Nothing, ToText, ToData, Insn}
use Rattle.rvs_asm_text.specs.declared.bodies.Body.TheVariants.{Values, Align, Fill}
use Rattle.rvs_asm_text.specs.Directives.{data_value}
use Rattle.rvs_asm.specs.declared.location.Location.{Location}
use Rattle.rvs_asm.specs.declared.refusal.AsmRefusal.{AsmRefusal}
use Rattle.rvs_asm.specs.Symbols.{Table}
use Rattle.rvs_asm.specs.Locations.{Reading, body_of, padding, offset, address, next, start}
use Rattle.rvs_asm.specs.Bytes.{linked, number_bytes, value_bytes, repeated}
use Rattle.rvs_asm.specs.Bytes.{filler, bytes_of, section}
use Rattle.rvs_asm.specs.Faults.{first_fault}
use Rattle.rvs_log.proofs.Octets.{AreBytes, joined, front, word_bytes}
use Rattle.rvs_asm.specs.Answer.{text_readings, image_of, if_all_there, if_linked}
use Rattle.rvs_asm.specs.Answer.{if_placed, answer}

-- the bytes of an image
pub record HasBytes (image : ImageValue) : Type 0 where
  pub text : AreBytes image.text
  pub ram : AreBytes image.data_bytes

-- what a result holds, where it holds something
abbrev Holds : {A E : Type 0} → (A → Type 0) → Result A E → Type 0
Holds P (Ok a) = P a
Holds P (Err e) = Unit {0}

held : {A E : Type 0} (P : A → Type 0) (r : Result A E) (a : A) → Holds P r → r ≡ Ok a → P a
held {A} {E} P r a h e = subst (λ (x : Result A E). Holds P x) e h

-- ---- an image file
goes_on : {A B : Type 0} (P : A → Type 0) (Q : B → Type 0) (r : Result A ImageRefusal)
    (go : A → Result B ImageRefusal) → Holds P r → ((a : A) → P a → Holds Q (go a))
    → Holds Q (r >>= go)
goes_on h e = grind arith

-- the same whatever was read
goes_any : {A B : Type 0} (Q : B → Type 0) (r : Result A ImageRefusal)
    (go : A → Result B ImageRefusal) → ((a : A) → Holds Q (go a)) → Holds Q (r >>= go)
goes_any h = grind arith

abbrev BytesFirst : List ℕ × Rest → Type 0
BytesFirst p = AreBytes p.0

put_bytes : (bs : List ℕ) (r : Result (List ℕ × Rest) ImageRefusal) → AreBytes bs
    → Holds BytesFirst r → Holds BytesFirst (file.put_before bs r)
put_bytes bs r g h = search (rules, joined)

lines_bytes : (n : ℕ) (r : Rest) → Holds BytesFirst (file.word_lines n r)
lines_bytes zero r = tt
lines_bytes (suc n) r =
    goes_any BytesFirst (file.word_line [] r)
    (λ p. file.put_before (to_le_bytes w32 p.0) (file.word_lines n p.1))
    (λ p. let h = lines_bytes n p.1 in
    put_bytes (to_le_bytes w32 p.0) (file.word_lines n p.1) (word_bytes p.0) h)

section_bytes : (name : List ℕ) (limit : ℕ) (r : Rest)
    → Holds BytesFirst (file.section name limit r)
section_bytes name limit r = grind (arith, goes_any, lines_bytes)

whole_bytes : (n : ℕ) (image : ImageValue) (o : Option (List ℕ × Rest)) → HasBytes image
    → Holds HasBytes (file.whole_with n image o)
whole_bytes n image o h = grind arith

abbrev from_end : Memory → List ℕ → List ℕ → Rest → Result ImageValue ImageRefusal
from_end memory text ram r = file.address_lines r >>= (λ a. file.whole memory text ram a.0 a.1)

abbrev from_data : Memory → List ℕ → Rest → Result ImageValue ImageRefusal
from_data memory text r =
    file.section (codes "data ") (file.most_data memory) r >>= (λ d. from_end memory text d.0 d.1)

abbrev from_text : Memory → Rest → Result ImageValue ImageRefusal
from_text memory r = file.section (codes "text ") (file.most_text memory) r >>=
    (λ t. from_data memory t.0 t.1)

end_bytes : (memory : Memory) (text ram : List ℕ) (r : Rest) → AreBytes text → AreBytes ram
    → Holds HasBytes (from_end memory text ram r)
end_bytes memory text ram r g h = search (rules, goes_any, whole_bytes)

data_bytes : (memory : Memory) (text : List ℕ) (r : Rest) → AreBytes text
    → Holds HasBytes (from_data memory text r)
data_bytes memory text r g = grind (arith, goes_on, section_bytes, end_bytes)

text_bytes : (memory : Memory) (r : Rest) → Holds HasBytes (from_text memory r)
text_bytes memory r = grind (arith, goes_on, section_bytes, data_bytes)

file_bytes : (memory : Memory) (bytes : List ℕ) → Holds HasBytes (file.image_of_bytes memory bytes)
unfolding file.image_of_bytes
file_bytes memory bytes =
    goes_any HasBytes (file.header (record { bytes = bytes; line = 1 })) (from_text memory)
    (text_bytes memory)

pub of_file : (memory : Memory) (bytes : List ℕ) (image : ImageValue)
    → file.image_of_bytes memory bytes ≡ Ok image
    → HasBytes image
of_file memory bytes image e = held HasBytes (file.image_of_bytes memory bytes) image
    (file_bytes memory bytes) e

-- ---- assembler text
number_below : (size : ℕ) (z : ℤ) → AreBytes (number_bytes size z)
number_below size z = grind (arith, front, word_bytes)

value_below : (env : List ℕ → ℕ) (size : ℕ) (v : Option Value) → AreBytes (value_bytes env size v)
value_below env size v = search (rules, number_below)

values_below : (env : List ℕ → ℕ) (size : ℕ) (args : List (List ℕ))
    → AreBytes (flat_map (λ text. value_bytes env size (data_value size text)) args)
values_below env size [] = tt
values_below env size (a ∷ args) = grind (arith, value_below, joined, (values_below env size args))

repeated_below : (n : ℕ) (bs : List ℕ) → AreBytes bs → AreBytes (repeated n bs)
repeated_below zero bs h = tt
repeated_below (suc n) bs h = joined bs (repeated n bs) h (repeated_below n bs h)

either : (b : Bool) (x y : List ℕ) → AreBytes x → AreBytes y → AreBytes (cond b x y)
either b x y g h = grind arith

filler_below : (in_text : Bool) (n : ℕ) → AreBytes (filler in_text n)
filler_below in_text n = grind (arith, either, repeated_below, word_bytes)

body_below : (env : List ℕ → ℕ) (p : Location) (body : Body) → AreBytes (bytes_of env p body)
body_below env p (Insn i link) = word_bytes (word_of (linked env (address p) i link))
body_below env p (Values size args) = values_below env size args
body_below env p (Align power) = filler_below p.in_text (padding (offset p) (2 ^ power))
body_below env p (Fill n size z) = repeated_below n (number_bytes size z) (number_below size z)
body_below env p Nothing = tt
body_below env p ToText = tt
body_below env p ToData = tt

lines_below : (text : Bool) (env : List ℕ → ℕ) (rs : List Reading) (p : Location)
    → AreBytes (section text env rs p)
lines_below text env [] p = tt
lines_below text env (r ∷ rs) p =
    grind (arith, joined, either, body_below, (lines_below text env rs (next p (body_of r))))

image_bytes : (memory : Memory) (ss : Table) (rs : List Reading)
    → HasBytes (image_of memory ss rs)
image_bytes memory ss rs = grind (arith, lines_below)

there_bytes : (o : Option (List ℕ)) (image : ImageValue) → HasBytes image
    → Holds HasBytes (if_all_there o image)
there_bytes o image h = grind arith

linked_bytes : (memory : Memory) (o : Option AsmRefusal) (ss : Table) (rs : List Reading)
    → Holds HasBytes (if_linked memory o ss rs)
linked_bytes memory o ss rs = search (rules, there_bytes, image_bytes)

placed_bytes : (memory : Memory) (o : Option AsmRefusal) (rs : List Reading)
    → Holds HasBytes (if_placed memory o rs)
placed_bytes memory o rs = search (rules, linked_bytes)

answer_bytes : (isa : Isa) (text : List ℕ) → Holds HasBytes (answer isa text)
unfolding answer
answer_bytes isa text =
    placed_bytes isa.memory (first_fault isa [] (start isa.memory) 1 (text_readings text))
    (text_readings text)

pub of_text : (isa : Isa) (text : List ℕ) (image : ImageValue) → answer isa text ≡ Ok image
    → HasBytes image
of_text isa text image e =
    held HasBytes (answer isa text) image (answer_bytes isa text) e
