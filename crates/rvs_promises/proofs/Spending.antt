-- Plans that read a few files at most.
use Rattle.std.proofs.lemmas.Bool.Decides.{nat_tests}
use Rattle.std.proofs.Common.{◌≤◌, ◌-◌, ℕ, List, [], ◌∷◌, Option, arith}
use Rattle.std.specs.Prelude.{⊤}
use Rattle.rvs_base.specs.File.{ReadsAtMost}
use Rattle.rvs_base.specs.Host.{Files, HostState}
use Rattle.rvs_base.proofs.Reading.{ReadsAtMost-none}
use Rattle.rvs_plan.specs.World.{Absence}
use Rattle.rvs_plan.specs.declared.status.Finish.{Finish}
use Rattle.rvs_plan.specs.Effect.{Answer, Effect, Read, Device, Did}
use Rattle.rvs_plan.specs.Plan.{Plan, Ends, Does, Asks, Runs}
use Rattle.rvs_plan.specs.Reads.{TakesOn}
use Rattle.rvs_promises.specs.Call.{Call}
use Rattle.rvs_promises.proofs.Answered.{RunsOn}
use Rattle.rvs_promises.proofs.Running.{answers}

-- a plan opens files this often at most, and takes this many of their bytes, all together
abbrev pub Spends : {A : Type 0} → ℕ → ℕ → Plan A → Type 0
Spends files bytes (Ends end) = ⊤
Spends files bytes (Does deed plan) = Spends files bytes plan
Spends files bytes (Asks name bound next) = (1 ≤ files) × (bound ≤ bytes)
    × ((found : Option (List ℕ)) → Spends (files - 1) (bytes - bound) (next found))
Spends files bytes (Runs words test signature next) =
    (answer : Answer) → Spends files bytes (next answer)

-- the same where more is granted
more : {A : Type 0} (plan : Plan A) (n b n' b' : ℕ) → n ≤ n' → b ≤ b' → Spends n b plan
    → Spends n' b' plan
more (Ends end) n b n' b' few small s = tt
more (Does deed plan) n b n' b' few small s = more plan n b n' b' few small s
more (Asks name bound next) n b n' b' few small s = (
  omega (arith, few, s.0),
  omega (arith, small, s.1),
  λ found. more (next found) (n - 1) (b - bound) (n' - 1) (b' - bound) (omega (arith, few))
      (omega (arith, small)) (s.2 found),
)
more (Runs words test signature next) n b n' b' few small s =
    λ answer. more (next answer) n b n' b' few small (s answer)

-- what is read on any way through such a plan
on_way : {A : Type 0} (plan : Plan A) (effects : List Effect) (n b : ℕ) (old new : HostState)
    → Spends n b plan → TakesOn plan effects old new → ReadsAtMost n b old new
on_way plan [] n b old new s t = ReadsAtMost-none t
on_way (Ends end) (e ∷ es) n b old new s t = absurd t
on_way (Does deed plan) (Did d ∷ es) n b old new s t = on_way plan es n b old new s t
on_way (Does deed plan) (Read name found ∷ es) n b old new s t = absurd t
on_way (Does deed plan) (Device w x g answer ∷ es) n b old new s t = absurd t
on_way (Asks name bound next) (Read m found ∷ es) n b old new s t =
    grind (arith, nat_tests, (on_way (next found) es (n - 1) (b - bound) t.0 new (s.2 found) t.2))
on_way (Asks name bound next) (Device w x g answer ∷ es) n b old new s t = absurd t
on_way (Asks name bound next) (Did d ∷ es) n b old new s t = absurd t
on_way (Runs words test signature next) (Device w x g answer ∷ es) n b old new s t =
    on_way (next answer) es n b old new (s answer) t
on_way (Runs words test signature next) (Read name found ∷ es) n b old new s t = absurd t
on_way (Runs words test signature next) (Did d ∷ es) n b old new s t = absurd t

-- a call whose plan is such
pub spent : {call : Call} {files : Files} {absence : Absence} {plan : Plan Finish} (n b : ℕ)
    → RunsOn call files absence plan → Spends n b plan
    → ReadsAtMost n b call.old.host call.new.host
spent {call} n b r s = grind (arith, answers, on_way)
