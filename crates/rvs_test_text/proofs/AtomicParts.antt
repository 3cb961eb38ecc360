-- The parts of a case of an atomic row.
use Rattle.std.proofs.Common.{◌≡◌, ◌≢◌, ℕ, ◌+◌, ◌*◌, ◌%◌, ◌^◌, ◌<◌, ◌≤◌, List, []}
use Rattle.std.proofs.Common.{◌∷◌, length, Option, Some, None, true, refl, sym, ap, ◌∙◌}
use Rattle.std.proofs.Common.{arith}
use Rattle.std.proofs.Common.{subst, inl, rules}
use Rattle.std.specs.Prelude.{slice_index, unwrap_or}
use Rattle.rvs_insn.specs.Memory.{Memory, HasRoom, text_limit}
use Rattle.rvs_insn.specs.declared.op.Op.{Op}
use Rattle.rvs_insn.specs.declared.op.Op.TheVariants.{LrW, ScW, Lw}
use Rattle.rvs_insn.specs.Table.{row}
use Rattle.rvs_insn.specs.Fields.{Fields}
use Rattle.rvs_machine.specs.declared.event.Event.TheVariants.{Ran}
use Rattle.rvs_machine.specs.Effects.{add32, replaced}
use Rattle.rvs_machine.specs.Machine.{Setup, read_reg, write_reg, word_at}
use Rattle.rvs_machine.specs.Machine.{step_of}
use Rattle.rvs_machine.proofs.Results.{HasValue}
use Rattle.rvs_machine.proofs.Steps.{StandsAt, state, entry, acting_step}
use Rattle.rvs_machine.proofs.Loads.{load_value, load_acts, word_value}
use Rattle.rvs_machine.proofs.Atomics.{is_atomic, atomic_value, atomic_data, atomic_held, IsHeld}
use Rattle.rvs_machine.proofs.Atomics.{atomic_step, replaced_low}
use Rattle.rvs_test_text.proofs.Short.{IsShort}
use Rattle.rvs_test_text.proofs.Runs.{StandFrom, Piece}
use Rattle.rvs_test_text.proofs.Pieces.{lui, addi, high_part, low_part, load_word, one_piece}
use Rattle.rvs_test_text.proofs.Pieces.{then_piece, ends_at, read_same}
use Rattle.rvs_test_text.proofs.Stored.{stored_word}
use Rattle.rvs_test_text.proofs.Shapes.{stands_there}
use Rattle.rvs_test_text.proofs.StoreRuns.{lw}

-- ---- a word of the data goes to m, by way of p
abbrev pub get : ℕ → ℕ → ℕ → List Fields
get p m addr = lui p (high_part addr) ∷ addi p p (low_part addr) ∷ lw m p 0 ∷ []

abbrev pub got : List ℕ → ℕ → ℕ → ℕ → ℕ → List ℕ
got regs p m addr v = write_reg (write_reg regs (Some p) (Some addr)) (Some m) (Some v)

pub get_piece : (setup : Setup) (held : Option ℕ) (pc p m addr at v : ℕ) (regs ram : List ℕ)
    → addr ≡ setup.isa.memory.data_base + at → length regs ≡ 32 → 0 < p → p < 32
    → StandFrom setup pc (get p m addr) → pc + 12 < 2 ^ 32
    → length setup.text ≤ text_limit setup.isa.memory → at % 4 ≡ 0 → at + 4 ≤ length ram
    → IsShort setup.isa.memory (length ram) → word_at ram at ≡ v
    → Piece setup (state held pc regs ram)
    (state held (pc + 12) (got regs p m addr v) ram) 3 pc (pc + 12)
get_piece setup held pc p m addr at v regs ram e long p0 pl there room text al fits short word =
    let low : addr < 2 ^ 32 = omega (arith, e, fits, short.low) in
    let regs1 = write_reg regs (Some p) (Some addr) in
    let one =
    load_word setup held pc p addr regs ram low (omega (arith, long)) (omega arith)
    (there.0, (there.1.0, tt)) in
    let at2 : StandsAt setup (pc + 8) (lw m p 0) =
    stands_there setup (pc + 4 + 4) (pc + 8) (lw m p 0) (omega arith) there.1.1.0 in
    let base : read_reg regs1 (Some p) ≡ addr = read_same regs p addr p0 (omega (arith, long)) in
    let here : add32 addr 0 ≡ setup.isa.memory.data_base + at = omega (arith, e, low) in
    let acts =
    load_acts setup ram (pc + 8) (lw m p 0) addr 0 at refl here
    (record { text_short = text; data_short = short.most }) fits
    (inl
    (let z : (setup.isa.memory.data_base + at) % 4 ≡ 0 = omega (arith, short.room.data_page) in z))
    in
    let is : load_value Lw ram at ≡ v = word_value ram at ∙ word in
    let step2 =
    acting_step setup held (pc + 8) (lw m p 0) addr 0 (Some (load_value Lw ram at)) regs1 ram at2
    base refl acts in
    let two =
    one_piece setup held (pc + 8) regs1 (write_reg regs1 (Some m) (Some (load_value Lw ram at))) ram
    ram _ refl (omega arith) step2 in
    let both =
    then_piece setup _ _ _ 2 1 pc (pc + 8) (pc + 8 + 4) (omega arith) (omega arith) one two in
    ends_at setup held (state held pc regs ram) (pc + 8 + 4) (pc + 12) 3 pc (pc + 8 + 4) (pc + 12)
    (write_reg regs1 (Some m) (Some (load_value Lw ram at))) (got regs p m addr v) ram ram
    (omega arith) (ap (λ x. write_reg regs1 (Some m) (Some x)) is) refl (omega arith) both

-- ---- the reservation that a conditional store needs
abbrev pub lr : ℕ → ℕ → Fields
lr m a = record { op = LrW; rd = Some m; rs1 = Some a; rs2 = None; imm = None }

abbrev pub reserve : Op → ℕ → ℕ → List Fields
reserve ScW a m = lr m a ∷ []
reserve _ a m = []

abbrev pub reserve_size : Op → ℕ
reserve_size ScW = 4
reserve_size _ = 0

abbrev pub reserve_count : Op → ℕ
reserve_count ScW = 1
reserve_count _ = 0

abbrev pub reserved_regs : Op → List ℕ → ℕ → ℕ → List ℕ
reserved_regs ScW regs m v = write_reg regs (Some m) (Some v)
reserved_regs _ regs m v = regs

abbrev pub reserved_held : Memory → Op → Option ℕ → Option ℕ
reserved_held memory ScW held = Some memory.data_base
reserved_held memory _ held = held

pub reserve_long : (op : Op) (a m : ℕ) → 4 * length (reserve op a m) ≡ reserve_size op
reserve_long op a m = grind arith

pub reserve_small : (op : Op) → reserve_size op ≤ 4
reserve_small op = grind arith

pub reserve_few : (op : Op) → reserve_count op ≤ 1
reserve_few op = grind arith

pub reserved_length : (op : Op) (regs : List ℕ) (m v : ℕ)
    → length (reserved_regs op regs m v) ≡ length regs
reserved_length op regs m v = search rules

pub reserved_read : (op : Op) (regs : List ℕ) (r : Option ℕ) (m v : ℕ) → unwrap_or r 0 ≢ m
    → read_reg (reserved_regs op regs m v) r ≡ read_reg regs r
reserved_read op regs r m v ne = search rules

pub is_held : (memory : Memory) (op : Op) (held : Option ℕ)
    → IsHeld op (reserved_held memory op held) memory.data_base
is_held memory op held = grind arith

-- a row at the start of the data
pub first_step : (setup : Setup) → HasRoom setup.isa.memory
    → (held : Option ℕ) (pc : ℕ) (i : Fields) (v2 : ℕ) (regs ram : List ℕ)
    → is_atomic (row i.op).form ≡ true → StandsAt setup pc i
    → read_reg regs i.rs1 ≡ setup.isa.memory.data_base → read_reg regs i.rs2 ≡ v2
    → 4 ≤ length ram → IsHeld i.op held setup.isa.memory.data_base
    → step_of setup (state held pc regs ram) ≡ (
      Ran (entry pc i setup.isa.memory.data_base v2 (Some (atomic_value i.op (word_at ram 0)))),
      state (atomic_held i.op held setup.isa.memory.data_base) (add32 pc 4)
          (write_reg regs i.rd (Some (atomic_value i.op (word_at ram 0))))
          (atomic_data i.op ram 0 v2),
    )
first_step setup room held pc i v2 regs ram form there e1 e2 fits kept =
    grind (arith, state, entry, Some, atomic_value, atomic_held, atomic_data, atomic_step, length)

pub reserve_piece : (op : Op) (setup : Setup) → HasRoom setup.isa.memory
    → (held : Option ℕ) (pc a m : ℕ) (regs ram : List ℕ)
    → read_reg regs (Some a) ≡ setup.isa.memory.data_base → StandFrom setup pc (reserve op a m)
    → pc + 4 < 2 ^ 32
    → 4 ≤ length ram
    → Piece setup (state held pc regs ram)
    (state (reserved_held setup.isa.memory op held) (pc + reserve_size op)
    (reserved_regs op regs m (word_at ram 0)) ram) (reserve_count op) pc (pc + reserve_size op)
reserve_piece ScW setup has_room held pc a m regs ram base there room fits =
    let step =
    first_step setup has_room held pc (lr m a) 0 regs ram refl there.0 base refl fits tt in
    let next : add32 pc 4 ≡ pc + 4 = omega arith in
    record {
      steps = entry pc (lr m a) setup.isa.memory.data_base 0 (Some (word_at ram 0)) ∷ [];
      runs = (
        state (Some setup.isa.memory.data_base) (add32 pc 4)
            (write_reg regs (Some m) (Some (word_at ram 0))) ram,
        step,
        ap (λ x. state (Some setup.isa.memory.data_base) x
            (write_reg regs (Some m) (Some (word_at ram 0))) ram)
            next,
      );
      count = refl;
      within = (omega arith, omega arith, tt);
    }
reserve_piece _ setup has_room held pc a m regs ram base there room fits = grind (arith, state)

-- ---- the data after the row
pub same_front : (l l' : List ℕ) (i : ℕ)
    → ((j : ℕ) → j < i + 4 → slice_index l j ≡ slice_index l' j) → word_at l i ≡ word_at l' i
same_front l l' i same = grind arith

-- the word that is in scratch after it
abbrev pub atomic_word : Op → ℕ → ℕ → ℕ
atomic_word LrW old v2 = old
atomic_word op old v2 = replaced op old v2

pub atomic_word_low : (op : Op) (old v2 : ℕ) → old < 2 ^ 32 → v2 < 2 ^ 32
    → atomic_word op old v2 < 2 ^ 32
atomic_word_low LrW old v2 p q = p
atomic_word_low op old v2 p q = replaced_low op old v2 p q

pub data_long : (op : Op) (ram : List ℕ) (v2 : ℕ) → length (atomic_data op ram 0 v2) ≡ length ram
data_long op ram v2 = search rules

pub data_word : (op : Op) (ram : List ℕ) (old v2 : ℕ) → word_at ram 0 ≡ old → 4 ≤ length ram
    → old < 2 ^ 32 → v2 < 2 ^ 32 → word_at (atomic_data op ram 0 v2) 0 ≡ atomic_word op old v2
data_word LrW ram old v2 e fits p q = e
data_word op ram old v2 e fits p q =
    let low : word_at ram 0 < 2 ^ 32 = subst (λ x. x < 2 ^ 32) (sym e) p in
    stored_word 0 (replaced op (word_at ram 0) v2) ram fits
    (replaced_low op (word_at ram 0) v2 low q)
    ∙ ap (λ x. replaced op x v2) e

pub data_kept : (op : Op) (ram : List ℕ) (v2 i : ℕ) → 4 ≤ i
    → slice_index (atomic_data op ram 0 v2) i ≡ slice_index ram i
data_kept op ram v2 i h = search rules

pub value_low : (op : Op) (old : ℕ) → old < 2 ^ 32 → atomic_value op old < 2 ^ 32
value_low op old h = grind arith

pub has : (rd : Option ℕ) (v : ℕ) → v < 2 ^ 32 → HasValue rd (Some v)
has rd v h = grind arith
