-- What keeps a statement from standing in its section, by how many bytes it makes.
use Rattle.std.proofs.Common.{◌≡◌, ◌≤◌, ℕ, ◌+◌, ◌%◌, Bool, true, false, cond, Option, Some, None}
use Rattle.std.proofs.Common.{sym, ap, ◌∙◌, arith}
use Rattle.std.specs.Prelude.{◌==◌, nat_le, not}
use Rattle.std.specs.Option.{option_or}
use Rattle.std.proofs.lemmas.Bool.Decides.{nat_tests}
use Rattle.rvs_insn.specs.Isa.{Isa}
use Rattle.rvs_insn.specs.Memory.{Memory, text_limit, data_limit}
use Rattle.rvs_asm_text.specs.declared.bodies.Body.{Body}
use Rattle.rvs_asm.specs.declared.location.Location.{Location}
use Rattle.rvs_asm.specs.declared.refusal.AsmKind.{AsmKind}
use Rattle.rvs_asm.specs.declared.refusal.AsmKind.TheVariants.{MisalignedCode, TextFull, DataFull}
use Rattle.rvs_asm.specs.declared.refusal.AsmKind.TheVariants.{NotInIsa}
use Rattle.rvs_asm.specs.Locations.{IsLocation, next, offset, size_of}
use Rattle.rvs_asm.specs.Faults.{body_fault, is_refused}

abbrev pub room_of : Location → ℕ → Option AsmKind
room_of p size =
    cond p.in_text (cond (size % 4 == 0)
    (cond (nat_le (p.text + size) (text_limit p.memory)) None (Some TextFull))
    (Some MisalignedCode))
    (cond (nat_le (p.data_bytes + size) (data_limit p.memory)) None (Some DataFull))

abbrev place : Memory → Bool → ℕ → ℕ → Location
place m b t d = record { memory = m; in_text = b; text = t; data_bytes = d }

abbrev by_place : Memory → Bool → Bool → ℕ → ℕ → Option AsmKind
by_place m misaligned refused t d =
    cond misaligned (Some MisalignedCode) (cond (not (nat_le t (text_limit m))) (Some TextFull)
    (cond (not (nat_le d (data_limit m))) (Some DataFull) (cond refused (Some NotInIsa) None)))

text_next : (m : Memory) (t d : ℕ) (body : Body)
    → (next (place m true t d) body).text ≡ t + size_of t body
text_next m t d body = grind arith

data_next : (m : Memory) (t d : ℕ) (body : Body)
    → (next (place m false t d) body).data_bytes ≡ d + size_of d body
data_next m t d body = grind arith

data_stays : (m : Memory) (t d : ℕ) (body : Body) → (next (place m true t d) body).data_bytes ≡ d
data_stays m t d body = grind arith

text_stays : (m : Memory) (t d : ℕ) (body : Body) → (next (place m false t d) body).text ≡ t
text_stays m t d body = grind arith

memory_stays : (p : Location) (body : Body) → (next p body).memory ≡ p.memory
memory_stays p body = grind arith

fits : (n m : ℕ) → n ≤ m → nat_le n m ≡ true
fits n m h = grind (arith, nat_tests)

in_text_by : (m : Memory) (words fits data_fits refused : Bool) → data_fits ≡ true
    → cond (not words) (Some MisalignedCode) (cond (not fits) (Some TextFull)
    (cond (not data_fits) (Some DataFull) (cond refused (Some NotInIsa) None)))
    ≡ option_or (cond words (cond fits None (Some TextFull)) (Some MisalignedCode))
    (cond refused (Some NotInIsa) None)
in_text_by m words fits data_fits refused h = grind arith

in_data_by : (m : Memory) (text_fits fits refused : Bool) → text_fits ≡ true
    → cond (not text_fits) (Some TextFull) (cond (not fits) (Some DataFull)
    (cond refused (Some NotInIsa) None))
    ≡ option_or (cond fits None (Some DataFull)) (cond refused (Some NotInIsa) None)
in_data_by m text_fits fits refused h = grind arith

by_memory : (isa : Isa) (p : Location) (body : Body) (misaligned : Bool) → (x : Memory)
    → x ≡ p.memory
    → cond misaligned (Some MisalignedCode)
    (cond (not (nat_le (next p body).text (text_limit x))) (Some TextFull)
    (cond (not (nat_le (next p body).data_bytes (data_limit x))) (Some DataFull)
    (cond (is_refused isa body) (Some NotInIsa) None)))
    ≡ by_place p.memory misaligned (is_refused isa body) (next p body).text
    (next p body).data_bytes
by_memory isa p body misaligned x e =
    ap (λ y. by_place y misaligned (is_refused isa body) (next p body).text
    (next p body).data_bytes) e

by_room : (isa : Isa) (m : Memory) (b : Bool) (t d : ℕ) (body : Body) → IsLocation (place m b t d)
    → body_fault isa (place m b t d) body
    ≡ option_or (room_of (place m b t d) (size_of (offset (place m b t d)) body))
    (cond (is_refused isa body) (Some NotInIsa) None)
by_room isa m true t d body h =
    let q = next (place m true t d) body in
    let words = size_of t body % 4 == 0 in
    by_memory isa (place m true t d) body (not words) q.memory
    (memory_stays (place m true t d) body)
    ∙ ap (λ n. by_place m (not words) (is_refused isa body) n q.data_bytes) (text_next m t d body)
    ∙ ap (by_place m (not words) (is_refused isa body) (t + size_of t body))
    (data_stays m t d body)
    ∙ in_text_by m words (nat_le (t + size_of t body) (text_limit m)) (nat_le d (data_limit m))
    (is_refused isa body) (fits d (data_limit m) h.data_short)
by_room isa m false t d body h =
    let q = next (place m false t d) body in
    by_memory isa (place m false t d) body false q.memory (memory_stays (place m false t d) body)
    ∙ ap (λ n. by_place m false (is_refused isa body) n q.data_bytes) (text_stays m t d body)
    ∙ ap (by_place m false (is_refused isa body) t) (data_next m t d body)
    ∙ in_data_by m (nat_le t (text_limit m)) (nat_le (d + size_of d body) (data_limit m))
    (is_refused isa body) (fits t (text_limit m) h.text_short)

-- the fault of a statement, by its room and then by the core
pub fault_is : (isa : Isa) (p : Location) (body : Body) (size : ℕ) → IsLocation p
    → size ≡ size_of (offset p) body
    → body_fault isa p body
    ≡ option_or (room_of p size) (cond (is_refused isa body) (Some NotInIsa) None)
fault_is isa p body size h e =
    by_room isa p.memory p.in_text p.text p.data_bytes body h
    ∙ ap (λ n. option_or (room_of p n) (cond (is_refused isa body) (Some NotInIsa) None)) (sym e)
