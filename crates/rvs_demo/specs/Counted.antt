-- What one step adds to a log.
use Rattle.std.specs.Prelude.{Bool, true, false, List, [], ◌∷◌}
use Rattle.rvs_machine.specs.declared.event.Executed.{Executed}
use Rattle.rvs_machine.specs.declared.event.Event.{Event}
use Rattle.rvs_machine.specs.declared.event.Event.TheVariants.{Ran, Halted, Trapped}

-- what was executed
abbrev pub executed_in : Event → List Executed
executed_in (Ran e) = e ∷ []
executed_in (Halted e) = e ∷ []
executed_in (Trapped t) = []

-- whether the run goes on
abbrev pub goes_on : Event → Bool
goes_on (Ran e) = true
goes_on _ = false
