-- A specification that is refused at each path that is read.
use Rattle.std.proofs.Common.{◌≡◌, ℕ, List, [], ◌∷◌, Err, codes, refl}
use Rattle.std.specs.Fmt.{digits}
use Rattle.std.proofs.lemmas.List.Elements.{All-contains, All-from_recursion}
use Rattle.rvs_base.specs.Digits.{digits_of}
use Rattle.rvs_tree.specs.Data.{Data, scalar, sequence, mapping, Entries, no_entries, entry, item}
use Rattle.rvs_tree.specs.Data.{no_items}
use Rattle.rvs_isa.specs.declared.refusal.IsaKind.{IsaKind}
use Rattle.rvs_isa.specs.declared.refusal.IsaKind.TheVariants.{NotAMapping, MissingEntry, BadXlen}
use Rattle.rvs_isa.specs.declared.refusal.IsaKind.TheVariants.{BadAddressSize, BadTruth, BadNumber}
use Rattle.rvs_isa.specs.declared.refusal.IsaKind.TheVariants.{BadMemory}
use Rattle.rvs_isa.specs.declared.refusal.IsaRefusal.{IsaRefusal}
use Rattle.rvs_isa.specs.Check.{checked, hart_key}
use Rattle.rvs_isa.specs.Reads.{read_paths, ReadAreRefused}
use Rattle.rvs_isa.specs.Refusal.{Path, path_text, refusal_at}

-- of hart 0, with these entries behind its ISA
abbrev with_hart : Entries → Data
with_hart es =
    mapping (entry (codes "hart_ids") (sequence (item (scalar (codes "0") 0) no_items) 0) (entry
    (codes "hart0") (mapping (entry (codes "ISA") (scalar (codes "RV32I") 0) es) 0) no_entries))
    0

abbrev with_entry : List ℕ → Data → Data
with_entry key value = with_hart (entry key value no_entries)

-- a text that no check accepts
abbrev bad : Data
bad = scalar [] 0

abbrev IsRefusedAt : Path → Type 0
IsRefusedAt path =
    (root : Data) × (e : IsaRefusal) × (checked root ≡ Err e) × (e.path ≡ path_text path)

refused : (path : Path) (kind : IsaKind) (root : Data) → checked root ≡ Err (refusal_at path kind)
    → IsRefusedAt path
refused path kind root e = (root, refusal_at path kind, e, refl)

abbrev hart : List ℕ
hart = codes "hart0"

no_map : IsRefusedAt (hart ∷ codes "memory_map" ∷ [])
unfolding digits digits_of
no_map = refused (hart ∷ codes "memory_map" ∷ []) BadMemory (with_entry (codes "memory_map") bad)
    refl

no_text : IsRefusedAt (hart ∷ codes "memory_map" ∷ codes "text" ∷ [])
unfolding digits digits_of
no_text = refused (hart ∷ codes "memory_map" ∷ codes "text" ∷ []) BadNumber
    (with_entry (codes "memory_map") (mapping (entry (codes "text") bad no_entries) 0)) refl

no_data : IsRefusedAt (hart ∷ codes "memory_map" ∷ codes "data" ∷ [])
unfolding digits digits_of
no_data = refused (hart ∷ codes "memory_map" ∷ codes "data" ∷ []) BadNumber
    (with_entry (codes "memory_map") (mapping (entry (codes "data") bad no_entries) 0)) refl

pub read_are_refused : ReadAreRefused
unfolding digits digits_of
read_are_refused path c =
    All-contains IsRefusedAt (read_paths (hart_key 0)) path
    (All-from_recursion IsRefusedAt (read_paths (hart_key 0)) (
      refused [] NotAMapping bad refl,
      (
        refused (codes "hart_ids" ∷ []) MissingEntry (mapping no_entries 0) refl,
        (
          refused (hart ∷ []) MissingEntry (mapping (entry (codes "hart_ids")
              (sequence (item (scalar (codes "0") 0) no_items) 0) no_entries) 0) refl,
          (
            refused (hart ∷ codes "ISA" ∷ []) MissingEntry (mapping (entry (codes "hart_ids")
                (sequence (item (scalar (codes "0") 0) no_items) 0)
                (entry hart (mapping no_entries 0) no_entries)) 0) refl,
            (
              refused (hart ∷ codes "supported_xlen" ∷ []) BadXlen
                  (with_entry (codes "supported_xlen") bad) refl,
              (
                refused (hart ∷ codes "physical_addr_sz" ∷ []) BadAddressSize
                    (with_entry (codes "physical_addr_sz") bad) refl,
                (
                  refused (hart ∷ codes "hw_data_misaligned_support" ∷ []) BadTruth
                      (with_entry (codes "hw_data_misaligned_support") bad) refl,
                  (
                    refused (hart ∷ codes "misa" ∷ []) NotAMapping (with_entry (codes "misa") bad)
                        refl,
                    (
                      refused (hart ∷ codes "misa" ∷ codes "reset-val" ∷ []) BadNumber
                          (with_entry (codes "misa") (mapping
                          (entry (codes "reset-val") bad no_entries) 0)) refl,
                      (no_map, (no_text, (no_data, tt))),
                    ),
                  ),
                ),
              ),
            ),
          ),
        ),
      ),
    )) c
