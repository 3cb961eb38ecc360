-- How a command stops at an input that is refused.
use Rattle.std.specs.Prelude.{◌≡◌, ◌⊎◌, ℕ, List, ◌++◌, Result, Ok, Err, codes}
use Rattle.rvs_base.specs.declared.fault.Fault.{Fault}
use Rattle.rvs_base.specs.declared.fault.Fault.TheVariants as fault
use Rattle.rvs_plan.specs.declared.stop.Stop.{Stop}
use Rattle.rvs_plan.specs.declared.stop.Stop.TheVariants.{Refused, NoMemory}

-- what a fault line says of an input: its name, and why it is refused
unfoldable pub input_text : List ℕ → List ℕ → List ℕ
input_text name text = name ++ (codes ": " ++ text)

-- what comes of the named input, or the end with its refusal, of which the line says this
abbrev pub end_at : {A R : Type 0} → (R → List ℕ) → List ℕ → Result A R → Result A Stop
end_at said name (Ok a) = Ok a
end_at said name (Err refusal) = Err (Refused (input_text name (said refusal)))

-- a command goes on with what an input gives, or stops with its refusal, or for want of memory
abbrev pub Stops : {A R : Type 0} → (R → List ℕ) → List ℕ → Result A (Fault R) → Result A Stop
    → Type 0
Stops said name (Ok a) result = result ≡ Ok a
Stops said name (Err (fault.Refused refusal)) result =
    (result ≡ Err NoMemory) ⊎ (result ≡ Err (Refused (input_text name (said refusal))))
Stops said name (Err fault.NoMemory) result = result ≡ Err NoMemory
