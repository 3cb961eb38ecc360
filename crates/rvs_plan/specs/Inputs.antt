-- The plan of reading an input.
use Rattle.std.specs.Prelude.{ℕ, ◌+◌, List, ◌++◌, Option, Some, None, Result, Ok, Err, nat_lt}
use Rattle.std.specs.Prelude.{length}
use Rattle.std.specs.Prelude.{if◌then◌else◌, codes, decimal}
use Rattle.rvs_plan.specs.Plan.{Plan, Ends, Asks}
use Rattle.rvs_plan.specs.declared.stop.Stop.{Stop}
use Rattle.rvs_plan.specs.declared.stop.Stop.TheVariants.{Refused, NoFile}

-- why an input, named so in the line, is too long
abbrev pub too_long_text : List ℕ → ℕ → List ℕ
too_long_text what most = what ++ codes ": length " ++ decimal most

-- what comes of the bytes of the named file, where it is there; the last two name it and its limit
-- in the line of a refusal
abbrev pub part_end : ℕ → List ℕ → List ℕ → ℕ → Option (List ℕ) → Result (List ℕ) Stop
part_end limit name what most None = Err (NoFile name)
part_end limit name what most (Some bytes) =
    if nat_lt limit (length bytes) then Err (Refused (too_long_text what most)) else Ok bytes

-- a file that is a part of an input is read, up to what is left of the limit of that input
abbrev pub part : ℕ → List ℕ → List ℕ → ℕ → Plan (List ℕ)
part limit name what most =
    Asks name (limit + 1) (λ found. Ends (part_end limit name what most found))

-- an input file is read, up to its limit
abbrev pub input : ℕ → List ℕ → Plan (List ℕ)
input limit name = part limit name name limit
