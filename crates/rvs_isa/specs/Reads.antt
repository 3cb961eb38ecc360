-- Which entries the checks read, and that the paths that are listed as unread are those of the
-- others.
use Rattle.std.specs.Prelude.{◌≡◌, ◌↔◌, ℕ, List, [], ◌∷◌, ◌++◌, Ok, Err, Contains, All, codes}
use Rattle.std.specs.Prelude.{option_map}
use Rattle.rvs_tree.specs.Data.{Data, mapping, no_entries, own_pairs}
use Rattle.rvs_insn.specs.Isa.{Isa}
use Rattle.rvs_isa.specs.declared.refusal.IsaRefusal.{IsaRefusal}
use Rattle.rvs_isa.specs.Check.{checked, hart_number, hart_key, misa_path, reset_path, memory_path}
use Rattle.rvs_isa.specs.Check.{base_path}
use Rattle.rvs_isa.specs.Entries.{entry_at}
use Rattle.rvs_isa.specs.Refusal.{Path, path_text, Found}
use Rattle.rvs_isa.specs.Unread.{unread}
use Rattle.rvs_isa.specs.declared.accepted_spec.AcceptedSpec.{AcceptedSpec}

-- the paths at which the checks look, with the key of the hart
abbrev pub read_paths : List ℕ → List Path
read_paths hart =
    [] ∷ (codes "hart_ids" ∷ []) ∷ (hart ∷ []) ∷ (hart ∷ codes "ISA" ∷ [])
    ∷ (hart ∷ codes "supported_xlen" ∷ [])
    ∷ (hart ∷ codes "physical_addr_sz" ∷ []) ∷ (hart ∷ codes "hw_data_misaligned_support" ∷ [])
    ∷ misa_path hart ∷ reset_path hart ∷ memory_path hart ∷ base_path hart (codes "text")
    ∷ base_path hart (codes "data") ∷ []

-- the maps whose entries they look at: the root, the hart, its misa and its memory
abbrev pub opened_maps : List ℕ → List Path
opened_maps hart = [] ∷ (hart ∷ []) ∷ misa_path hart ∷ memory_path hart ∷ []

-- A path leads to an entry of a tree.
abbrev pub Leads : Path → Data → Type 0
Leads [] d = Unit {0}
Leads (key ∷ keys) d = (value : Data) × Contains (own_pairs d) (key, value) × Leads keys value

-- An entry of one of these maps at which no check looks has a path of this text.
abbrev pub IsUnread : List ℕ → Data → List ℕ → Type 0
IsUnread hart root text =
    (front : Path) × (key : List ℕ) × Contains (opened_maps hart) front
    × Leads (front ++ key ∷ []) root
    × (¬ Contains (read_paths hart) (front ++ key ∷ [])) × (path_text (front ++ key ∷ []) ≡ text)

-- A path is listed as unread exactly where it is that of an entry at which no check looks.
abbrev pub UnreadAreListed : Type 0
UnreadAreListed = (hart : List ℕ) (root : Data) (text : List ℕ)
    → Contains (unread hart root) text ↔ IsUnread hart root text

-- what a check sees of an entry: of a map only that it is one, for its entries have paths of their
-- own
abbrev pub seen : Data → Data
seen (mapping es line) = mapping no_entries 0
seen d = d

-- Two trees have the same at a path, or both have nothing there.
abbrev pub AreAlikeAt : Data → Data → Path → Type 0
AreAlikeAt a b path = option_map seen (entry_at path a) ≡ option_map seen (entry_at path b)

-- the core, or the refusal
abbrev pub core_in : Found AcceptedSpec → Found Isa
core_in (Ok c) = Ok c.spec
core_in (Err e) = Err e

-- Whatever two specifications have at other paths, they come to the same core or to the same
-- refusal.
abbrev pub OthersChangeNothing : Type 0
OthersChangeNothing =
    (a b : Data) (number : ℕ) → hart_number a ≡ Ok number
    → All (AreAlikeAt a b) (read_paths (hart_key number))
    → core_in (checked a) ≡ core_in (checked b)

-- Each path that is read, of hart 0, is that of some refusal.
abbrev pub ReadAreRefused : Type 0
ReadAreRefused =
    (path : Path) → Contains (read_paths (hart_key 0)) path
    → (root : Data) × (e : IsaRefusal) × (checked root ≡ Err e) × (e.path ≡ path_text path)
