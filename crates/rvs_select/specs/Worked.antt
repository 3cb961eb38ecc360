-- A worked database: which of two tests is selected, that have the same two checks.
use Rattle.std.specs.Prelude.{◌≡◌, ℕ, true, false, List, [], ◌∷◌, map, Some, Result, Ok, IsTrue}
use Rattle.std.specs.Prelude.{codes}
use Rattle.rvs_base.specs.Answers.{Answers}
use Rattle.rvs_base.specs.declared.fault.Fault.{Fault}
use Rattle.rvs_insn.specs.Isa.{Isa}
use Rattle.rvs_insn.specs.IsaName.{isa_name}
use Rattle.rvs_tree.specs.Data.{Data, Pairs, scalar, sequence, mapping, no_entries, entry, items_of}
use Rattle.rvs_tree.specs.Data.{entries_of}
use Rattle.rvs_condition.specs.Config.{condition}
use Rattle.rvs_select.specs.Database.{is_test_name, named}
use Rattle.rvs_select.specs.declared.database.Entry.{Entry}
use Rattle.rvs_select.specs.declared.refusal.SelectRefusal.{SelectRefusal}

-- a map of one entry, on the first line of a file
abbrev pub only_entry : List ℕ → Data → Data
only_entry key value = mapping (entry key value no_entries) 1

-- a part with these checks
abbrev pub part_with : List (List ℕ) → Data
part_with checks =
    only_entry (codes "check") (sequence (items_of (map (λ check. scalar check 1) checks)) 1)

-- a test with these parts
abbrev pub test_with : Pairs → Data
test_with parts = only_entry (codes "parts") (mapping (entries_of parts) 1)

-- a test that has both checks in one part
abbrev pub joined : List ℕ → List ℕ → Data
joined met unmet = test_with ((codes "0", part_with (met ∷ unmet ∷ [])) ∷ [])

-- a test that has a part for each of the checks
abbrev pub divided : List ℕ → List ℕ → Data
divided met unmet =
    test_with ((codes "0", part_with (met ∷ [])) ∷ (codes "1", part_with (unmet ∷ [])) ∷ [])

-- a database of these two
abbrev pub both_tests : List ℕ → List ℕ → List ℕ → List ℕ → Data
both_tests one two met unmet =
    mapping (entries_of ((one, divided met unmet) ∷ (two, joined met unmet) ∷ [])) 1

-- Of two tests with a check that a core meets and one that it doesn't, the one that has a part for
-- each is selected, and the one that has both in one part is not.
abbrev pub TellsPartsApart : Isa → Data → Result (List Entry) (Fault SelectRefusal) → Type 0
TellsPartsApart isa root result =
    (one two met unmet : List ℕ)
    → IsTrue (is_test_name one) → IsTrue (is_test_name two)
    → condition (isa_name isa) isa.misaligned met ≡ Some true
    → condition (isa_name isa) isa.misaligned unmet ≡ Some false
    → root ≡ both_tests one two met unmet
    → Answers result (Ok (named one true ∷ named two false ∷ []))
