-- What a host in memory tells after a call.
use Rattle.std.proofs.Common.{◌≡◌, ℕ, ◌<◌, min, true, false, List, length, take, drop, Some, None}
use Rattle.std.proofs.Common.{arith}
use Rattle.std.proofs.lemmas.List.{take-append-drop, nil_from_length}
use Rattle.rvs_base.specs.Faults.{raised, grown}
use Rattle.rvs_base.specs.Host.{HostState, Files, LacksFile, Opens, Takes}
use Rattle.rvs_memory.specs.Memory.{MemoryHostState, held, told_by}

same_files : {f g : Files} → Some f ≡ Some g → f ≡ g
same_files p = cc

same_rest : {r s : List ℕ} → Some r ≡ Some s → r ≡ s
same_rest p = cc

never : true ≡ false → ⊥
never p = cc

pub lacks : (h : MemoryHostState) (new : HostState) (name : List ℕ) → held h.files name ≡ None
    → new.read_faults ≡ h.read_faults → LacksFile name (told_by h) new
lacks h new name missing same = grind (arith, same_files, never)

pub opens : (h : MemoryHostState) (new : HostState) (name bytes : List ℕ)
    → held h.files name ≡ Some bytes → new.is_open ≡ true → new.rest ≡ Some bytes
    → new.openings ≡ raised h.openings → new.taken ≡ h.taken → Opens name (told_by h) new
opens h new name bytes there opened at_start counted untaken = grind (arith, same_files)

pub takes : (h : MemoryHostState) (new : HostState) (buffer left : List ℕ) (n : ℕ) → h.rest ≡ left
    → new.is_open ≡ true → new.rest ≡ Some (drop n left) → n ≡ min (length left) (length buffer)
    → 0 < length buffer → take n buffer ≡ take n left
    → new.openings ≡ h.openings → new.taken ≡ grown h.taken n → Takes buffer (told_by h) new n
takes h new buffer left n was opened now size room front unopened counted =
    grind (arith, same_rest, take-append-drop, nil_from_length)
