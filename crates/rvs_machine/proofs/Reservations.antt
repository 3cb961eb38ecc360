-- What is reserved, and what is stored where nothing is.
use Rattle.std.proofs.Common.{◌≡◌, ◌≢◌, ℕ, ◌-◌, ◌%◌, ◌==◌, Bool, true, false, cond, Option, Some}
use Rattle.std.proofs.Common.{None}
use Rattle.std.proofs.Common.{Result, Ok, Err, refl, sym, ap, subst, List}
use Rattle.rvs_insn.specs.Fields.{Fields}
use Rattle.rvs_insn.specs.Isa.{Isa}
use Rattle.rvs_insn.specs.declared.op.Op.{Op}
use Rattle.rvs_insn.specs.declared.op.Op.TheVariants.{LrW, ScW}
use Rattle.rvs_machine.specs.declared.action.Action.{Action}
use Rattle.rvs_machine.specs.declared.action.Action.TheVariants.{Refuse, Go, Keep}
use Rattle.rvs_machine.specs.declared.action.Action.TheVariants.{ReserveWord, StoreIfReserved}
use Rattle.rvs_machine.specs.declared.action.Action.TheVariants.{ReplaceWord}
use Rattle.rvs_machine.specs.declared.effect.Effect.{Effect}
use Rattle.rvs_machine.specs.declared.effect.Effect.TheVariants.{Put, JumpTo, GoIf, Load, Store}
use Rattle.rvs_machine.specs.declared.effect.Effect.TheVariants.{Pass, CallTrap, BreakTrap}
use Rattle.rvs_machine.specs.declared.effect.Effect.TheVariants.{Reserve, StoreReserved, Replace}
use Rattle.rvs_machine.specs.declared.event.TrapKind.{TrapKind}
use Rattle.rvs_machine.specs.declared.event.TrapKind.TheVariants.{MisalignedAccess, AccessFault}
use Rattle.rvs_machine.specs.declared.event.TrapKind.TheVariants.{MisalignedTarget}
use Rattle.rvs_machine.specs.Effects.{effect_of, add32, replaced}
use Rattle.rvs_machine.specs.Laws.{OthersKeepReservations, UnreservedStoresNothing}
use Rattle.rvs_machine.specs.Machine.{Setup, State, read_reg, imm_word, action_of, done_of}
use Rattle.rvs_machine.specs.Machine.{jump_action, loaded, is_misaligned, is_in_data}
use Rattle.rvs_machine.specs.Machine.{load_bytes, data_word, with_data, is_reserved, wrote}
use Rattle.rvs_machine.specs.Machine.{store_bytes}

-- an effect, and an action, of an instruction that neither reserves nor ends a reservation
abbrev IsOther : Effect → Type 0
IsOther (Reserve addr) = ⊥
IsOther (StoreReserved addr value) = ⊥
IsOther _ = Unit {0}

abbrev LeavesIt : Action → Type 0
LeavesIt (ReserveWord addr value) = ⊥
LeavesIt (StoreIfReserved addr value) = ⊥
LeavesIt _ = Unit {0}

other : (op : Op) (pc v1 v2 imm : ℕ) → op ≢ LrW → op ≢ ScW → IsOther (effect_of op pc v1 v2 imm)
other LrW pc v1 v2 imm l s = absurd (l refl)
other ScW pc v1 v2 imm l s = absurd (s refl)
other _ pc v1 v2 imm l s = tt

by_test : (b : Bool) (x y : Action) → LeavesIt x → LeavesIt y → LeavesIt (cond b x y)
by_test true x y p q = p
by_test false x y p q = q

by_load : (is_signed : Bool) (size addr pc : ℕ) (o : Option ℕ)
    → LeavesIt (loaded is_signed size addr pc o)
by_load is_signed size addr pc None = tt
by_load is_signed size addr pc (Some value) = tt

by_word : (addr value : ℕ) (op : Op) (r : Result ℕ TrapKind)
    → LeavesIt (with_data (λ word. ReplaceWord addr word (replaced op word value)) r)
by_word addr value op (Ok word) = tt
by_word addr value op (Err kind) = tt

leaves : (isa : Isa) (text bytes : List ℕ) (pc : ℕ) (e : Effect) → IsOther e
    → LeavesIt (action_of isa text bytes pc e)
leaves isa text bytes pc (Put value) h = tt
leaves isa text bytes pc (JumpTo target) h =
    by_test (target % 4 == 0) (Go (Some (add32 pc 4)) target) (Refuse (MisalignedTarget target)) tt
    tt
leaves isa text bytes pc (GoIf taken target) h =
    by_test taken (jump_action None target) (Go None (add32 pc 4))
    (by_test (target % 4 == 0) (Go None target) (Refuse (MisalignedTarget target)) tt tt) tt
leaves isa text bytes pc (Load size is_signed addr) h =
    by_test (is_misaligned isa size addr) (Refuse (MisalignedAccess addr))
    (loaded is_signed size addr pc (load_bytes isa.memory size text bytes addr)) tt
    (by_load is_signed size addr pc (load_bytes isa.memory size text bytes addr))
leaves isa text bytes pc (Store size addr value) h =
    by_test (is_misaligned isa size addr) (Refuse (MisalignedAccess addr))
    (cond (is_in_data isa.memory size bytes addr) (Keep size addr value)
    (Refuse (AccessFault addr))) tt
    (by_test (is_in_data isa.memory size bytes addr) (Keep size addr value)
    (Refuse (AccessFault addr)) tt tt)
leaves isa text bytes pc (Reserve addr) h = absurd h
leaves isa text bytes pc (StoreReserved addr value) h = absurd h
leaves isa text bytes pc (Replace op addr value) h = by_word addr value op
    (data_word isa.memory bytes addr)
leaves isa text bytes pc Pass h = tt
leaves isa text bytes pc CallTrap h = tt
leaves isa text bytes pc BreakTrap h = tt

keeps : (setup : Setup) (s : State) (word : ℕ) (i : Fields) (v1 v2 : ℕ) (a : Action) → LeavesIt a
    → (done_of setup s word i v1 v2 a).1.reserved ≡ s.reserved
keeps setup s word i v1 v2 (Refuse kind) h = refl
keeps setup s word i v1 v2 (Go value next) h = refl
keeps setup s word i v1 v2 (Keep size addr value) h = refl
keeps setup s word i v1 v2 (ReserveWord addr value) h = absurd h
keeps setup s word i v1 v2 (StoreIfReserved addr value) h = absurd h
keeps setup s word i v1 v2 (ReplaceWord addr old new) h = refl

pub others_keep : OthersKeepReservations
others_keep setup s word i lr sc =
    let v1 = read_reg s.regs i.rs1 in
    let v2 = read_reg s.regs i.rs2 in
    let e = effect_of i.op s.pc v1 v2 (imm_word i) in
    keeps setup s word i v1 v2 (action_of setup.isa setup.text s.ram s.pc e)
    (leaves setup.isa setup.text s.ram s.pc e (other i.op s.pc v1 v2 (imm_word i) lr sc))

nowhere : (setup : Setup) (s : State) (word : ℕ) (i : Fields) (v1 v2 : ℕ) (r : Result ℕ TrapKind)
    → is_reserved s.reserved v1 ≡ false
    → (done_of setup s word i v1 v2 (with_data (λ _. StoreIfReserved v1 v2) r)).1.ram ≡ s.ram
nowhere setup s word i v1 v2 (Ok found) h =
    ap (λ b. (cond b
    (wrote s word i v1 v2 0 (store_bytes 4 s.ram (v1 - setup.isa.memory.data_base) v2) None)
    (wrote s word i v1 v2 1 s.ram None)).1.ram) h
nowhere setup s word i v1 v2 (Err kind) h = refl

pub unreserved_stores_nothing : UnreservedStoresNothing
unreserved_stores_nothing setup s word i sc h =
    let v1 = read_reg s.regs i.rs1 in
    let v2 = read_reg s.regs i.rs2 in
    subst (λ op. (done_of setup s word i v1 v2 (action_of setup.isa setup.text s.ram s.pc
    (effect_of op s.pc v1 v2 (imm_word i)))).1.ram ≡ s.ram) (sym sc)
    (nowhere setup s word i v1 v2 (data_word setup.isa.memory s.ram v1) h)
