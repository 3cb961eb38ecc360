-- The keys that no check reads.
use Rattle.std.specs.Prelude.{ℕ, Bool, ◌||◌, if◌then◌else◌, List, [], ◌∷◌, codes}
use Rattle.std.specs.List.{flat_map}
use Rattle.std.specs.Str.{bytes_eq}
use Rattle.rvs_tree.specs.Data.{Data, own_pairs}
use Rattle.rvs_isa.specs.Refusal.{path_text}

-- what is unread of each entry of a map
abbrev pub each_entry : (List ℕ → Data → List (List ℕ)) → Data → List (List ℕ)
each_entry unread d = flat_map (λ p. unread p.0 p.1) (own_pairs d)

-- of misa, all but reset-val
abbrev pub unread_of_misa : List ℕ → List ℕ → List (List ℕ)
unread_of_misa hart key = if bytes_eq key (codes "reset-val") then []
    else path_text (hart ∷ codes "misa" ∷ key ∷ []) ∷ []

-- of memory_map, all but text and data
abbrev pub unread_of_memory : List ℕ → List ℕ → List (List ℕ)
unread_of_memory hart key = if bytes_eq key (codes "text") || bytes_eq key (codes "data") then []
    else path_text (hart ∷ codes "memory_map" ∷ key ∷ []) ∷ []

abbrev pub is_checked : List ℕ → Bool
is_checked key =
    bytes_eq key (codes "ISA") || (bytes_eq key (codes "supported_xlen")
    || (bytes_eq key (codes "physical_addr_sz")
    || bytes_eq key (codes "hw_data_misaligned_support")))

-- of a hart, all but the entries that are checked, and what is unread of misa and memory_map in
-- their
-- places
abbrev pub unread_of_hart : List ℕ → List ℕ → Data → List (List ℕ)
unread_of_hart hart key value =
    if bytes_eq key (codes "misa") then each_entry (λ inner _. unread_of_misa hart inner) value
    else (if bytes_eq key (codes "memory_map")
    then each_entry (λ inner _. unread_of_memory hart inner) value
    else (if is_checked key then [] else path_text (hart ∷ key ∷ []) ∷ []))

-- of the root, all but hart_ids, and what is unread of the hart in its place
abbrev pub unread_of_root : List ℕ → List ℕ → Data → List (List ℕ)
unread_of_root hart key value =
    if bytes_eq key hart then each_entry (unread_of_hart hart) value
    else (if bytes_eq key (codes "hart_ids") then [] else path_text (key ∷ []) ∷ [])

-- the paths of all other keys, in the tree's order
abbrev pub unread : List ℕ → Data → List (List ℕ)
unread hart root = each_entry (unread_of_root hart) root
