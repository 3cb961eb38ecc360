-- What stands at paths that no check reads changes nothing.
use Rattle.std.proofs.Common.{◌≡◌, ℕ, ◌<◌, Bool, false, List, [], ◌∷◌, get_or, Option, Some}
use Rattle.std.proofs.Common.{option_map, Ok, ok_or, All, codes, refl, ap, subst, sym, ◌∙◌}
use Rattle.std.proofs.Common.{lit<, arith}
use Rattle.rvs_tree.specs.Data.{Data, is_map}
use Rattle.rvs_insn.specs.Isa.{Isa}
use Rattle.rvs_insn.specs.Memory.{Memory, usual_memory, if_room}
use Rattle.rvs_isa.specs.declared.accepted_spec.AcceptedSpec.{AcceptedSpec}
use Rattle.rvs_isa.specs.declared.isa_text.Extensions.{Extensions}
use Rattle.rvs_isa.specs.declared.refusal.IsaKind.TheVariants.{MissingEntry, BadXlen}
use Rattle.rvs_isa.specs.declared.refusal.IsaKind.TheVariants.{BadAddressSize, HartCount, BadTruth}
use Rattle.rvs_isa.specs.declared.refusal.IsaKind.TheVariants.{BadNumber, BadMemory}
use Rattle.rvs_isa.specs.Check.{checked_hart, hart_number, hart_key, hart_entries, isa_entry}
use Rattle.rvs_isa.specs.Check.{xlen_entry, address_bits, misaligned, misa_entry, misa_path}
use Rattle.rvs_isa.specs.Check.{reset_path, is_a_map, or_absent, reset_value, core_of, named}
use Rattle.rvs_isa.specs.Check.{memory_path, base_path, page_in, base_entry, memory_entry}
use Rattle.rvs_isa.specs.Entries.{entry_at, only_member, number_in, isa_in, is_xlen, address_size}
use Rattle.rvs_isa.specs.Entries.{truth_in}
use Rattle.rvs_isa.specs.Misa.{misa_word}
use Rattle.rvs_isa.specs.Reads.{read_paths, seen, AreAlikeAt, core_in, OthersChangeNothing}
use Rattle.rvs_text.specs.Outcomes.{holds, ◌>>=◌, ◌>>◌}
use Rattle.rvs_isa.specs.Refusal.{Path, Found, refusal_at}

-- ---- a check that sees no more of an entry than is seen of it
as_seen : {B : Type 0} (f : Option Data → B) → ((d : Data) → f (Some d) ≡ f (Some (seen d)))
    → (o : Option Data) → f o ≡ f (option_map seen o)
as_seen f o = grind arith

same : {B : Type 0} (f : Option Data → B) → ((d : Data) → f (Some d) ≡ f (Some (seen d)))
    → (o p : Option Data) → option_map seen o ≡ option_map seen p → f o ≡ f p
same f h o p e = as_seen f h o ∙ ap f e ∙ sym (as_seen f h p)

abbrev number_at : Path → Option Data → Found ℕ
number_at path o =
    ok_or o (refusal_at path MissingEntry)
    >>= (λ ids. ok_or (only_member ids) (refusal_at path HartCount)
    >>= (λ id. ok_or (number_in id) (refusal_at path BadNumber)))

number_seen : (path : Path) (d : Data) → number_at path (Some d) ≡ number_at path (Some (seen d))
number_seen path d = grind arith

abbrev map_at : Path → Option Data → Found (Unit {0})
map_at path o = ok_or o (refusal_at path MissingEntry) >>= (λ d. is_a_map path d)

map_seen : (path : Path) (d : Data) → map_at path (Some d) ≡ map_at path (Some (seen d))
map_seen path d = grind arith

abbrev isa_at : Path → Option Data → Found Extensions
isa_at path o = ok_or o (refusal_at path MissingEntry) >>= (λ isa. named (isa_in isa) path)

isa_seen : (path : Path) (d : Data) → isa_at path (Some d) ≡ isa_at path (Some (seen d))
isa_seen path d = grind arith

abbrev xlen_at : Path → Option Data → Found (Unit {0})
xlen_at path o = or_absent tt (λ d. holds (is_xlen d) (refusal_at path BadXlen)) o

xlen_seen : (path : Path) (d : Data) → xlen_at path (Some d) ≡ xlen_at path (Some (seen d))
xlen_seen path d = grind arith

abbrev size_at : Path → Option Data → Found ℕ
size_at path o = or_absent 32 (λ d. ok_or (address_size d) (refusal_at path BadAddressSize)) o

size_seen : (path : Path) (d : Data) → size_at path (Some d) ≡ size_at path (Some (seen d))
size_seen path d = grind arith

abbrev truth_at : Path → Option Data → Found Bool
truth_at path o = or_absent false (λ d. ok_or (truth_in d) (refusal_at path BadTruth)) o

truth_seen : (path : Path) (d : Data) → truth_at path (Some d) ≡ truth_at path (Some (seen d))
truth_seen path d = grind arith

abbrev reset_at : Path → ℕ → Option Data → Found (Unit {0})
reset_at path word o = or_absent tt (reset_value path word) o

reset_seen : (path : Path) (word : ℕ) (d : Data)
    → reset_at path word (Some d) ≡ reset_at path word (Some (seen d))
reset_seen path word d = grind arith

-- the check of misa, with what the check of its reset value comes to
abbrev misa_at : Path → Found (Unit {0}) → Option Data → Found (Unit {0})
misa_at path reset o = or_absent tt (λ misa. is_a_map path misa >> reset) o

misa_seen : (path : Path) (reset : Found (Unit {0})) (d : Data)
    → misa_at path reset (Some d) ≡ misa_at path reset (Some (seen d))
misa_seen path reset d = grind arith

abbrev base_at : Path → ℕ → Option Data → Found ℕ
base_at path usual o = or_absent usual (page_in path) o

base_seen : (path : Path) (usual : ℕ) (d : Data)
    → base_at path usual (Some d) ≡ base_at path usual (Some (seen d))
base_seen path usual d = grind arith

-- the memory of these addresses, or of what they come to
abbrev both_at : Path → Found ℕ → Found ℕ → Found Memory
both_at path text ram =
    text >>= (λ t. ram >>= (λ d. ok_or (if_room (record { text_base = t; data_base = d }))
    (refusal_at path BadMemory)))

-- the check of memory_map, with what those of its addresses come to
abbrev memory_at : Path → Found Memory → Option Data → Found Memory
memory_at path both o =
    or_absent usual_memory (λ d. holds (is_map d) (refusal_at path BadMemory) >> both) o

memory_seen : (path : Path) (both : Found Memory) (d : Data)
    → memory_at path both (Some d) ≡ memory_at path both (Some (seen d))
memory_seen path both d = grind arith

-- ---- one check after another
chain : {A : Type 0} (x y : Found A) (f g : A → Found AcceptedSpec) → x ≡ y
    → ((a : A) → core_in (f a) ≡ core_in (g a)) → core_in (x >>= f) ≡ core_in (y >>= g)
chain h y = grind arith

next : (x y : Found (Unit {0})) (f g : Found AcceptedSpec) → x ≡ y → core_in f ≡ core_in g
    → core_in (x >> f) ≡ core_in (y >> g)
next x y f g e h = grind arith

-- Two trees are alike at the paths that are read, with the key of the hart.
abbrev AreAlike : List ℕ → Data → Data → Type 0
AreAlike hart a b = All (AreAlikeAt a b) (read_paths hart)

alike_at : (hart : List ℕ) (a b : Data) → AreAlike hart a b → (k : ℕ) → (path : Path) → k < 12
    → get_or (read_paths hart) k [] ≡ path → AreAlikeAt a b path
alike_at hart a b alike k path h e = subst (AreAlikeAt a b) e (alike k [] h)

same_misa : (hart : List ℕ) (spec : Isa) (a b : Data) → AreAlike hart a b
    → misa_entry hart spec a ≡ misa_entry hart spec b
same_misa hart spec a b alike =
    let path = reset_path hart in
    let word = misa_word spec in
    let resets = same (reset_at path word) (reset_seen path word) (entry_at path a)
    (entry_at path b) (alike_at hart a b alike 8 path (lit< tt) refl) in
    same (misa_at (misa_path hart) (reset_at path word (entry_at path a)))
    (misa_seen (misa_path hart) (reset_at path word (entry_at path a)))
    (entry_at (misa_path hart) a) (entry_at (misa_path hart) b)
    (alike_at hart a b alike 7 (misa_path hart) (lit< tt) refl)
    ∙ ap (λ r. misa_at (misa_path hart) r (entry_at (misa_path hart) b)) resets

same_text : (hart : List ℕ) (a b : Data) → AreAlike hart a b
    → base_entry hart (codes "text") usual_memory.text_base a
    ≡ base_entry hart (codes "text") usual_memory.text_base b
same_text hart a b alike =
    let path = base_path hart (codes "text") in
    same (base_at path usual_memory.text_base) (base_seen path usual_memory.text_base)
    (entry_at path a) (entry_at path b) (alike_at hart a b alike 10 path (lit< tt) refl)

same_ram : (hart : List ℕ) (a b : Data) → AreAlike hart a b
    → base_entry hart (codes "data") usual_memory.data_base a
    ≡ base_entry hart (codes "data") usual_memory.data_base b
same_ram hart a b alike = grind (arith, codes, same, base_seen, alike_at)

same_memory : (hart : List ℕ) (a b : Data) → AreAlike hart a b
    → memory_entry hart a ≡ memory_entry hart b
same_memory hart a b alike =
    let path = memory_path hart in
    let text = λ (d : Data). base_entry hart (codes "text") usual_memory.text_base d in
    let ram = λ (d : Data). base_entry hart (codes "data") usual_memory.data_base d in
    same (memory_at path (both_at path (text a) (ram a)))
    (memory_seen path (both_at path (text a) (ram a))) (entry_at path a) (entry_at path b)
    (alike_at hart a b alike 9 path (lit< tt) refl)
    ∙ ap (λ t. memory_at path (both_at path t (ram a)) (entry_at path b)) (same_text hart a b alike)
    ∙ ap (λ d. memory_at path (both_at path (text b) d) (entry_at path b)) (same_ram hart a b alike)

same_map : (hart : List ℕ) (a b : Data) → AreAlike hart a b
    → hart_entries hart a ≡ hart_entries hart b
same_map hart a b alike =
    let path : Path = hart ∷ [] in
    same (map_at path) (map_seen path) (entry_at path a) (entry_at path b)
    (alike_at hart a b alike 2 path (lit< tt) refl)

same_isa : (hart : List ℕ) (a b : Data) → AreAlike hart a b → isa_entry hart a ≡ isa_entry hart b
same_isa hart a b alike =
    let path : Path = hart ∷ codes "ISA" ∷ [] in
    same (isa_at path) (isa_seen path) (entry_at path a) (entry_at path b)
    (alike_at hart a b alike 3 path (lit< tt) refl)

same_xlen : (hart : List ℕ) (a b : Data) → AreAlike hart a b → xlen_entry hart a ≡ xlen_entry hart b
same_xlen hart a b alike =
    let path : Path = hart ∷ codes "supported_xlen" ∷ [] in
    same (xlen_at path) (xlen_seen path) (entry_at path a) (entry_at path b)
    (alike_at hart a b alike 4 path (lit< tt) refl)

same_size : (hart : List ℕ) (a b : Data) → AreAlike hart a b
    → address_bits hart a ≡ address_bits hart b
same_size hart a b alike =
    let path : Path = hart ∷ codes "physical_addr_sz" ∷ [] in
    same (size_at path) (size_seen path) (entry_at path a) (entry_at path b)
    (alike_at hart a b alike 5 path (lit< tt) refl)

same_truth : (hart : List ℕ) (a b : Data) → AreAlike hart a b
    → misaligned hart a ≡ misaligned hart b
same_truth hart a b alike =
    let path : Path = hart ∷ codes "hw_data_misaligned_support" ∷ [] in
    same (truth_at path) (truth_seen path) (entry_at path a) (entry_at path b)
    (alike_at hart a b alike 6 path (lit< tt) refl)

same_hart : (hart : List ℕ) (a b : Data) → AreAlike hart a b
    → core_in (checked_hart hart a) ≡ core_in (checked_hart hart b)
same_hart hart a b alike =
    next (hart_entries hart a) (hart_entries hart b) _ _ (same_map hart a b alike)
    (chain (isa_entry hart a) (isa_entry hart b) _ _ (same_isa hart a b alike) (λ extensions.
    next (xlen_entry hart a) (xlen_entry hart b) _ _ (same_xlen hart a b alike)
    (chain (address_bits hart a) (address_bits hart b) _ _ (same_size hart a b alike) (λ bits.
    chain (misaligned hart a) (misaligned hart b) _ _ (same_truth hart a b alike) (λ aligned.
    next (misa_entry hart (core_of extensions bits aligned usual_memory) a)
    (misa_entry hart (core_of extensions bits aligned usual_memory) b) _ _
    (same_misa hart (core_of extensions bits aligned usual_memory) a b alike)
    (chain (memory_entry hart a) (memory_entry hart b) _ _ (same_memory hart a b alike)
    (λ memory. refl)))))))

-- the first check, of the root
abbrev root_at : Option Data → Found (Unit {0})
root_at o = or_absent tt (is_a_map []) o

root_seen : (d : Data) → root_at (Some d) ≡ root_at (Some (seen d))
root_seen d = grind arith

pub others_change_nothing : OthersChangeNothing
others_change_nothing a b number e alike =
    let hart = hart_key number in
    let ids : Path = codes "hart_ids" ∷ [] in
    let numbers : hart_number a ≡ hart_number b = same (number_at ids) (number_seen ids)
    (entry_at ids a) (entry_at ids b) (alike_at hart a b alike 1 ids (lit< tt) refl) in
    let of_hart : (x : Found ℕ) → x ≡ Ok number → core_in (x >>= (λ n. checked_hart (hart_key n) a))
    ≡ core_in (x >>= (λ n. checked_hart (hart_key n) b))
    = λ x f. subst (λ (y : Found ℕ). core_in (y >>= (λ n. checked_hart (hart_key n) a))
    ≡ core_in (y >>= (λ n. checked_hart (hart_key n) b))) (sym f) (same_hart hart a b alike) in
    next (is_a_map [] a) (is_a_map [] b) _ _
    (same root_at root_seen (Some a) (Some b) (alike_at hart a b alike 0 [] (lit< tt) refl))
    (of_hart (hart_number a) e
    ∙ ap (λ (x : Found ℕ). core_in (x >>= (λ n. checked_hart (hart_key n) b))) numbers)
