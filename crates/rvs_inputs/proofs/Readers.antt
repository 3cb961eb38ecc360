-- Plans that only read.
use Rattle.std.proofs.Common.{ℕ, List, Option, Result, Ok, Err}
use Rattle.std.specs.Prelude.{⊤}
use Rattle.rvs_plan.specs.Plan.{Plan, Ends, Does, Asks, Runs, followed, ◌>>=◌}
use Rattle.rvs_plan.specs.declared.stop.Stop.{Stop}

-- a plan that only reads
abbrev pub OnlyReads : {A : Type 0} → Plan A → Type 0
OnlyReads (Ends end) = ⊤
OnlyReads (Does deed plan) = ⊥
OnlyReads (Asks name bound next) = (found : Option (List ℕ)) → OnlyReads (next found)
OnlyReads (Runs words test signature next) = ⊥

OnlyReads-followed : {A B : Type 0} (end : Result A Stop) (next : A → Plan B)
    → ((a : A) → OnlyReads (next a)) → OnlyReads (followed end next)
OnlyReads-followed (Ok a) next reads = reads a
OnlyReads-followed (Err stop) next reads = tt

pub OnlyReads-then : {A B : Type 0} (plan : Plan A) (next : A → Plan B) → OnlyReads plan
    → ((a : A) → OnlyReads (next a)) → OnlyReads (plan >>= next)
OnlyReads-then (Ends end) next reads then = OnlyReads-followed end next then
OnlyReads-then (Does deed plan) next reads then = absurd reads
OnlyReads-then (Asks name bound rest) next reads then =
    λ found. OnlyReads-then (rest found) next (reads found) then
OnlyReads-then (Runs words test signature rest) next reads then = absurd reads
