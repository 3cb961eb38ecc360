-- Runs of at most so many steps.
use Rattle.std.specs.Prelude.{Option, Some, None, ◌≡◌, ◌≢◌, ◌≤◌, ℕ, zero, suc, List, [], ◌∷◌, ◌++◌}
use Rattle.rvs_machine.specs.declared.event.Executed.{Executed}
use Rattle.rvs_machine.specs.declared.event.Event.{Event}
use Rattle.rvs_machine.specs.declared.event.Event.TheVariants.{Ran, Halted, Trapped}
use Rattle.rvs_machine.specs.declared.event.End.{End}
use Rattle.rvs_machine.specs.declared.event.End.TheVariants.{Halted as AtHalt, Trapped as AtTrap}
use Rattle.rvs_machine.specs.declared.event.End.TheVariants.{StepLimit, NoMemory}
use Rattle.rvs_machine.specs.Machine.{Setup, State, Whole, step_of}

-- what was executed, the state after it, and why the run ended
pub record Outcome : Type 0 where
  pub trace : List Executed
  pub state : State
  pub end : End

abbrev pub with_first : Executed → Outcome → Outcome
with_first e o = record { trace = e ∷ o.trace; state = o.state; end = o.end }

-- goes on after a step
abbrev pub follow : (State → Outcome) → Event → State → Outcome
follow go (Ran e) s = with_first e (go s)
follow go (Halted e) s = record { trace = e ∷ []; state = s; end = AtHalt }
follow go (Trapped t) s = record { trace = []; state = s; end = AtTrap t }

abbrev pub run_of : Setup → ℕ → State → Outcome
run_of setup zero s = record { trace = []; state = s; end = StepLimit }
run_of setup (suc n) s = follow (run_of setup n) (step_of setup s).0 (step_of setup s).1

-- the end, where want of memory stands for as many steps as were made
abbrev pub end_of_run : End → End
end_of_run NoMemory = StepLimit
end_of_run e = e

-- a call of `run` made this much of the run
pub record HasRun (old new : Whole) (limit : ℕ) (before after : List Executed) (end : End) : Type
    0 where
  pub count : ℕ
  pub steps : List Executed
  pub bound : count ≤ limit
  pub whole : end ≢ NoMemory → count ≡ limit
  pub trace : after ≡ before ++ steps
  pub run : run_of old.setup count old.state
      ≡ record { trace = steps; state = new.state; end = end_of_run end }
  pub same : new.setup ≡ old.setup

-- one step into a trace, which ends the run or doesn't
pub record Stepped (old new : Whole) (before after : List Executed) (end : End) : Type 0 where
  pub steps : List Executed
  pub trace : after ≡ before ++ steps
  pub run : run_of old.setup 1 old.state ≡ record { trace = steps; state = new.state; end = end }
  pub same : new.setup ≡ old.setup

abbrev pub HasStep : Whole → Whole → List Executed → List Executed → Option End → Type 0
HasStep old new before after None = Stepped old new before after StepLimit
HasStep old new before after (Some NoMemory) = (new ≡ old) × (after ≡ before)
HasStep old new before after (Some StepLimit) = ⊥
HasStep old new before after (Some e) = Stepped old new before after e
