-- Each core that is accepted has room for text and data.
use Rattle.std.proofs.Common.{◌≡◌, ℕ, ◌^◌, ◌<◌, List, []}
use Rattle.std.proofs.Common.{Option, Ok, Err, ok_or, codes, subst, arith}
use Rattle.std.specs.Option.{option_and_then}
use Rattle.rvs_base.specs.Digits.{below}
use Rattle.rvs_tree.specs.Data.{Data}
use Rattle.rvs_insn.specs.Memory.{Memory, usual_memory, HasRoom, if_room}
use Rattle.rvs_isa.specs.declared.accepted_spec.AcceptedSpec.{AcceptedSpec}
use Rattle.rvs_isa.specs.declared.refusal.IsaRefusal.{IsaRefusal}
use Rattle.rvs_isa.specs.Check.{checked, checked_hart, hart_number, hart_key, hart_entries}
use Rattle.rvs_isa.specs.Check.{isa_entry, xlen_entry, address_bits, misaligned, misa_entry}
use Rattle.rvs_isa.specs.Check.{core_of, is_a_map, page_in, base_entry}
use Rattle.rvs_isa.specs.Check.{memory_entries, memory_entry}
use Rattle.rvs_isa.specs.Entries.{number_in}
use Rattle.rvs_isa.specs.Laws.{AcceptedHaveRoom}
use Rattle.rvs_isa.specs.Refusal.{Path, Found}
use Rattle.rvs_text.specs.Outcomes.{◌>>=◌, ◌>>◌}

-- something holds of what is found
abbrev Has : {A : Type 0} → (A → Type 0) → Found A → Type 0
Has P (Ok x) = P x
Has P (Err e) = Unit {0}

has_then : {A B : Type 0} (P : A → Type 0) (Q : B → Type 0) (x : Found A) (f : A → Found B)
    → Has P x → ((a : A) → P a → Has Q (f a)) → Has Q (x >>= f)
has_then h e = grind arith

has_any : {A B : Type 0} (Q : B → Type 0) (x : Found A) (f : A → Found B)
    → ((a : A) → Has Q (f a)) → Has Q (x >>= f)
has_any h = grind arith

has_next : {A B : Type 0} (Q : B → Type 0) (x : Found A) (y : Found B) → Has Q y → Has Q (x >> y)
has_next h = grind arith

found_has : {A : Type 0} (P : A → Type 0) (x : Found A) (a : A) → Has P x → x ≡ Ok a → P a
found_has P x a h e = subst (Has P) e h

abbrev IsLow : ℕ → Type 0
IsLow n = n < 2 ^ 32

some_low : (o : Option ℕ) (e : IsaRefusal) → Has IsLow
    (ok_or (option_and_then (below (2 ^ 32)) o) e)
some_low o e = grind arith

number_low : (d : Data) (e : IsaRefusal) → Has IsLow (ok_or (number_in d) e)
number_low d e = grind arith

page_low : (path : Path) (d : Data) → Has IsLow (page_in path d)
page_low path d = grind (arith, has_then, ok_or, number_low, has_next)

base_low : (hart key : List ℕ) (usual : ℕ) (root : Data) → usual < 2 ^ 32
    → Has IsLow (base_entry hart key usual root)
base_low hart key usual root low = grind (arith, page_low)

room_if : (m : Memory) (e : IsaRefusal) → m.text_base < 2 ^ 32 → m.data_base < 2 ^ 32
    → Has HasRoom (ok_or (if_room m) e)
room_if m e t d = grind (arith, ok_or)

usual_room : HasRoom usual_memory
usual_room = grind arith

entries_room : (hart : List ℕ) (root entries : Data)
    → Has HasRoom (memory_entries hart root entries)
entries_room hart root entries = grind (arith, has_next, has_then, codes, base_low, room_if)

memory_room : (hart : List ℕ) (root : Data) → Has HasRoom (memory_entry hart root)
memory_room hart root = grind (arith, usual_room, entries_room)

abbrev CoreHasRoom : AcceptedSpec → Type 0
CoreHasRoom c = HasRoom c.spec.memory

hart_room : (hart : List ℕ) (root : Data) → Has CoreHasRoom (checked_hart hart root)
hart_room hart root =
    has_next CoreHasRoom (hart_entries hart root) _
    (has_any CoreHasRoom (isa_entry hart root) _ (λ extensions.
    has_next CoreHasRoom (xlen_entry hart root) _
    (has_any CoreHasRoom (address_bits hart root) _ (λ bits.
    has_any CoreHasRoom (misaligned hart root) _ (λ aligned.
    has_next CoreHasRoom (misa_entry hart (core_of extensions bits aligned usual_memory) root) _
    (has_then HasRoom CoreHasRoom (memory_entry hart root) _ (memory_room hart root)
    (λ memory room. room)))))))

pub accepted_have_room : AcceptedHaveRoom
accepted_have_room root c e =
    found_has CoreHasRoom (checked root) c
    (has_next CoreHasRoom (is_a_map [] root) _
    (has_any CoreHasRoom (hart_number root) _ (λ number. hart_room (hart_key number) root))) e
