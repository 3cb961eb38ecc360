-- What follows from the definitions.
use Rattle.std.specs.Prelude.{◌≡◌, ◌<◌, ◌+◌, ◌*◌, ◌^◌, ◌+ℤ◌, ℕ, pos, Ok, Err, None, Some, List, []}
use Rattle.std.specs.Prelude.{◌∷◌, ◌++◌, length}
use Rattle.std.specs.Int.{w32, cast_unsigned}
use Rattle.rvs_insn.specs.Isa.{Isa}
use Rattle.rvs_insn.specs.Memory.{Memory}
use Rattle.rvs_machine.specs.Image.{ImageValue}
use Rattle.rvs_asm.specs.Bytes.{high, low}
use Rattle.rvs_asm.specs.declared.location.Location.{Location}
use Rattle.rvs_asm.specs.declared.refusal.AsmRefusal.{AsmRefusal}
use Rattle.rvs_asm.specs.Symbols.{Table}
use Rattle.rvs_asm.specs.Locations.{Reading, body_of, label_of, next, start, location_after}
use Rattle.rvs_asm.specs.Locations.{own_label}
use Rattle.rvs_asm.specs.Locations.{labels, address}
use Rattle.rvs_asm.specs.Faults.{fault, first_fault, symbol_fault, second_fault}
use Rattle.rvs_asm.specs.Answer.{answer, Assembles}

-- lui of %hi and then the signed %lo make the address
abbrev pub PartsMakeAddress : Type 0
PartsMakeAddress = (address : ℕ) → address < 2 ^ 32
    → cast_unsigned w32 (pos (high address * 2 ^ 12) +ℤ low address) ≡ address

-- any two images of a text are the same
abbrev pub OneImageEach : Type 0
OneImageEach = (text : List ℕ) (isa : Isa) (a b : ImageValue) → Assembles text isa a
    → Assembles text isa b → a ≡ b

-- an image that stands to a text is what is answered
abbrev pub ImagesAreAnswered : Type 0
ImagesAreAnswered = (text : List ℕ) (isa : Isa) (image : ImageValue) → Assembles text isa image
    → answer isa text ≡ Ok image

-- no image stands to a text that is refused
abbrev pub RefusedHaveNone : Type 0
RefusedHaveNone = (text : List ℕ) (isa : Isa) (refusal : AsmRefusal) (image : ImageValue)
    → answer isa text ≡ Err refusal → Assembles text isa image → ⊥

-- no line of these is faulty, each under the symbols and the location that the lines before it
-- leave
abbrev pub AreFaultless : Isa → Table → Location → List Reading → Type 0
AreFaultless isa ss p [] = Unit {0}
AreFaultless isa ss p (r ∷ rs) = (fault isa ss p r ≡ None)
    × AreFaultless isa (ss ++ own_label (label_of r) p) (next p (body_of r)) rs

-- the refusal is of a faulty line, with its number and the least kind of fault on it, and no line
-- before it is faulty
pub record IsFirstFault (isa : Isa) (ss : Table) (p : Location) (n : ℕ) (rs : List Reading)
    (refusal : AsmRefusal) : Type 0 where
  pub before : List Reading
  pub line : Reading
  pub behind : List Reading
  pub split : rs ≡ before ++ line ∷ behind
  pub faultless : AreFaultless isa ss p before
  pub number : refusal.line ≡ n + length before
  pub kind : fault isa (ss ++ labels before p) (location_after before p) line ≡ Some refusal.kind

abbrev pub FirstFaultsAreFirst : Type 0
FirstFaultsAreFirst = (isa : Isa) (rs : List Reading) (refusal : AsmRefusal)
    → first_fault isa [] (start isa.memory) 1 rs ≡ Some refusal
    → IsFirstFault isa [] (start isa.memory) 1 rs refusal

-- the same under all symbols
abbrev pub AreLinked : Table → Location → List Reading → Type 0
AreLinked ss p [] = Unit {0}
AreLinked ss p (r ∷ rs) =
    (symbol_fault ss (address p) (body_of r) ≡ None) × AreLinked ss (next p (body_of r)) rs

pub record IsFirstUnlinked (ss : Table) (p : Location) (n : ℕ) (rs : List Reading)
    (refusal : AsmRefusal) : Type 0 where
  pub before : List Reading
  pub line : Reading
  pub behind : List Reading
  pub split : rs ≡ before ++ line ∷ behind
  pub faultless : AreLinked ss p before
  pub number : refusal.line ≡ n + length before
  pub kind : symbol_fault ss (address (location_after before p)) (body_of line) ≡ Some refusal.kind

abbrev pub SecondFaultsAreFirst : Type 0
SecondFaultsAreFirst = (memory : Memory) (ss : Table) (rs : List Reading) (refusal : AsmRefusal)
    → second_fault ss (start memory) 1 rs ≡ Some refusal
    → IsFirstUnlinked ss (start memory) 1 rs refusal
