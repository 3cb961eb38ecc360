-- What no step and no run changes.
use Rattle.std.specs.Prelude.{◌≡◌, ◌≢◌, ◌≤◌, ℕ, zero, suc, ◌-◌, ◌^◌, Bool, true, false, length}
use Rattle.std.specs.Prelude.{slice_index, Option, Some, None, is_some}
use Rattle.std.specs.Option.{option_and_then}
use Rattle.rvs_insn.specs.Fields.{Fields, insn_of_word}
use Rattle.rvs_insn.specs.declared.op.Op.TheVariants.{Div, Divu, Rem, Remu, LrW, ScW}
use Rattle.rvs_machine.specs.declared.effect.Effect.TheVariants.{Put}
use Rattle.rvs_machine.specs.declared.event.Executed.{Executed}
use Rattle.rvs_machine.specs.declared.event.Event.{Event}
use Rattle.rvs_machine.specs.declared.event.Trap.{Trap}
use Rattle.rvs_machine.specs.declared.event.Event.TheVariants.{Ran, Halted, Trapped}
use Rattle.rvs_machine.specs.declared.event.End.TheVariants.{StepLimit}
use Rattle.rvs_machine.specs.Machine.{Setup, State, step_of, executed, is_reserved, read_reg}
use Rattle.rvs_machine.specs.Effects.{effect_of}
use Rattle.rvs_machine.specs.Run.{run_of}

-- a trap changes nothing
abbrev pub TrapsChangeNothing : Type 0
TrapsChangeNothing = (setup : Setup) (s : State) (t : Trap) → (step_of setup s).0 ≡ Trapped t
    → (step_of setup s).1 ≡ s

-- the word of x0 is never written
abbrev pub StepsKeepZero : Type 0
StepsKeepZero = (setup : Setup) (s : State)
    → slice_index (step_of setup s).1.regs 0 ≡ slice_index s.regs 0

abbrev pub RunsKeepZero : Type 0
RunsKeepZero = (setup : Setup) (n : ℕ) (s : State)
    → slice_index (run_of setup n s).state.regs 0 ≡ slice_index s.regs 0

-- no byte of data comes or goes
abbrev pub StepsKeepLength : Type 0
StepsKeepLength = (setup : Setup) (s : State) → length (step_of setup s).1.ram ≡ length s.ram

-- a run of n steps executes at most n instructions, and exactly n where it is stopped by its limit
abbrev pub RunsAreBounded : Type 0
RunsAreBounded = (setup : Setup) (n : ℕ) (s : State) → length (run_of setup n s).trace ≤ n

abbrev pub LimitsAreExact : Type 0
LimitsAreExact = (setup : Setup) (n : ℕ) (s : State) → (run_of setup n s).end ≡ StepLimit
    → length (run_of setup n s).trace ≡ n

-- what a step executed
abbrev pub executed_in : Event → Option Executed
executed_in (Ran e) = Some e
executed_in (Halted e) = Some e
executed_in (Trapped t) = None

-- a register that can be written: any but x0
abbrev pub is_written : Option ℕ → Bool
is_written None = false
is_written (Some zero) = false
is_written (Some (suc r)) = true

abbrev pub destination_of : ℕ → Option ℕ
destination_of word = option_and_then (λ (i : Fields). i.rd) (insn_of_word word)

-- an executed instruction writes a register exactly where its format has rd and rd isn't x0
abbrev pub CommitsAreDestinations : Type 0
CommitsAreDestinations = (setup : Setup) (s : State) (e : Executed)
    → executed_in (step_of setup s).0 ≡ Some e
    → is_some e.commit ≡ is_written (destination_of e.word)

-- a divisor of 0 gives the quotient 2^32 - 1, and leaves the dividend as remainder
abbrev pub ZeroDivides : Type 0
ZeroDivides =
    (pc v1 imm : ℕ)
    → (effect_of Div pc v1 0 imm ≡ Put (2 ^ 32 - 1))
    × (effect_of Divu pc v1 0 imm ≡ Put (2 ^ 32 - 1))
    × (effect_of Rem pc v1 0 imm ≡ Put v1) × (effect_of Remu pc v1 0 imm ≡ Put v1)

-- -2^31 by -1 is -2^31 again, and leaves 0
abbrev pub QuotientsOverflow : Type 0
QuotientsOverflow =
    (pc imm : ℕ)
    → (effect_of Div pc (2 ^ 31) (2 ^ 32 - 1) imm ≡ Put (2 ^ 31))
    × (effect_of Rem pc (2 ^ 31) (2 ^ 32 - 1) imm ≡ Put 0)

-- only `lr.w` and `sc.w` change what is reserved: no store does
abbrev pub OthersKeepReservations : Type 0
OthersKeepReservations = (setup : Setup) (s : State) (word : ℕ) (i : Fields)
    → i.op ≢ LrW → i.op ≢ ScW → (executed setup s word i).1.reserved ≡ s.reserved

-- `sc.w` stores nothing where its address isn't reserved
abbrev pub UnreservedStoresNothing : Type 0
UnreservedStoresNothing = (setup : Setup) (s : State) (word : ℕ) (i : Fields)
    → i.op ≡ ScW → is_reserved s.reserved (read_reg s.regs i.rs1) ≡ false
    → (executed setup s word i).1.ram ≡ s.ram
