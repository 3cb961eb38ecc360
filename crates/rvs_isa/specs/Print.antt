-- The texts of an accepted specification and of a refusal.
use Rattle.std.specs.Prelude.{ℕ, Bool, List, [], ◌++◌, if◌then◌else◌, codes}
use Rattle.std.specs.Fmt.{decimal}
use Rattle.std.specs.List.{flat_map}
use Rattle.rvs_base.specs.Number.{hex_word_of}
use Rattle.rvs_insn.specs.Isa.{Isa}
use Rattle.rvs_insn.specs.IsaName.{isa_name}
use Rattle.rvs_insn.specs.Memory.{Memory}
use Rattle.rvs_isa.specs.declared.accepted_spec.AcceptedSpec.{AcceptedSpec}
use Rattle.rvs_isa.specs.declared.refusal.IsaKind.{IsaKind}
use Rattle.rvs_isa.specs.declared.refusal.IsaKind.TheVariants.{NotAMapping, MissingEntry}
use Rattle.rvs_isa.specs.declared.refusal.IsaKind.TheVariants.{BadIsaText, UnsupportedExtension}
use Rattle.rvs_isa.specs.declared.refusal.IsaKind.TheVariants.{BadXlen, BadAddressSize}
use Rattle.rvs_isa.specs.declared.refusal.IsaKind.TheVariants.{MisaDisagrees, HartCount, BadTruth}
use Rattle.rvs_isa.specs.declared.refusal.IsaKind.TheVariants.{BadNumber, BadMemory}
use Rattle.rvs_isa.specs.declared.refusal.IsaRefusal.{IsaRefusal}
use Rattle.rvs_isa.specs.Misa.{misa_word}

abbrev pub truth_text : Bool → List ℕ
truth_text b = if b then codes "true" else codes "false"

abbrev pub word_text : ℕ → List ℕ
word_text word = codes "0x" ++ hex_word_of word

-- four lines of what the core has
abbrev pub core_lines : Isa → List ℕ
core_lines spec =
    codes "isa " ++ (isa_name spec ++ (codes "\nmisaligned " ++ (truth_text spec.misaligned
    ++ (codes "\naddress_bits " ++ (decimal spec.address_bits
    ++ (codes "\nmisa " ++ (word_text (misa_word spec) ++ codes "\n")))))))

-- two lines of where its memory lies, where the specification says so
abbrev pub memory_lines : Bool → Memory → List ℕ
memory_lines tells memory =
    if tells then codes "text " ++ (word_text memory.text_base ++ (codes "\ndata "
    ++ (word_text memory.data_base ++ codes "\n"))) else []

abbrev pub unread_line : List ℕ → List ℕ
unread_line path = codes "unread " ++ (path ++ codes "\n")

-- what the core has, and where its memory lies
abbrev pub said_lines : AcceptedSpec → List ℕ
said_lines c = core_lines c.spec ++ memory_lines c.tells_memory c.spec.memory

-- the same, and a line for each entry that no check reads
abbrev pub checked_text : AcceptedSpec → List ℕ
checked_text c = said_lines c ++ flat_map unread_line c.unread

-- the number of a kind of refusal
abbrev pub number_of : IsaKind → ℕ
number_of NotAMapping = 1
number_of MissingEntry = 2
number_of BadIsaText = 3
number_of UnsupportedExtension = 4
number_of BadXlen = 5
number_of BadAddressSize = 6
number_of (MisaDisagrees stated expected) = 7
number_of HartCount = 8
number_of BadTruth = 9
number_of BadNumber = 10
number_of BadMemory = 11

-- where the reset value disagrees, both words
abbrev pub words_text : IsaKind → List ℕ
words_text (MisaDisagrees stated expected) =
    codes " stated " ++ (word_text stated ++ (codes " expected " ++ word_text expected))
words_text _ = []

-- the number of the kind, and the path, empty or not, behind a space
abbrev pub refusal_text : IsaRefusal → List ℕ
refusal_text r =
    codes "isa " ++ (decimal (number_of r.kind) ++ (codes " " ++ (r.path ++ words_text r.kind)))
