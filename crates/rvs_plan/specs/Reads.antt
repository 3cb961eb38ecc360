-- What is read on a way through a plan.
use Rattle.std.specs.Prelude.{◌≡◌, List, [], ◌∷◌, Result, Ok, Err}
use Rattle.rvs_base.specs.Host.{Files, HostState, Tells, IsUnread}
use Rattle.rvs_base.specs.File.{ReadsAtMost}
use Rattle.rvs_plan.specs.World.{World, contents}
use Rattle.rvs_plan.specs.Effect.{Effect, Read, Device, Did, after, Saw}
use Rattle.rvs_plan.specs.Plan.{Plan, Ends, Does, Asks, Runs, gives, Goes}
use Rattle.rvs_plan.specs.declared.stop.Stop.{Stop}

-- each file that is read where the plan goes through these effects was opened once at most, and no
-- more of its bytes were taken than the plan says; nothing else was read
abbrev pub TakesOn : {A : Type 0} → Plan A → List Effect → HostState → HostState → Type 0
TakesOn plan [] old new = IsUnread old new
TakesOn (Ends end) (effect ∷ effects) old new = ⊥
TakesOn (Does deed plan) (Did d ∷ effects) old new = TakesOn plan effects old new
TakesOn (Does deed plan) (Read name found ∷ effects) old new = ⊥
TakesOn (Does deed plan) (Device words test signature answer ∷ effects) old new = ⊥
TakesOn (Asks name bound next) (Read n found ∷ effects) old new =
    (mid : HostState) × ReadsAtMost 1 bound old mid × TakesOn (next found) effects mid new
TakesOn (Asks name bound next) (Device words test signature answer ∷ effects) old new = ⊥
TakesOn (Asks name bound next) (Did d ∷ effects) old new = ⊥
TakesOn (Runs words test signature next) (Device w t s answer ∷ effects) old new =
    TakesOn (next answer) effects old new
TakesOn (Runs words test signature next) (Read name found ∷ effects) old new = ⊥
TakesOn (Runs words test signature next) (Did d ∷ effects) old new = ⊥

-- The plan goes this way, and leaves this; where files are told it is the way to which what they
-- hold leads. No more was read on it than the plan says.
pub record ReadsOnWay {A : Type 0} (plan rest : Plan A) (old new : World) : Type 0 where
  pub effects : List Effect
  pub goes : Goes plan effects rest
  pub saw : (files : Files) → Tells old.host files → Saw effects (contents old)
  pub reads : TakesOn plan effects old.host new.host

-- the same of a way to this value, whose effects were all done
pub record ReadsThrough {A : Type 0} (plan : Plan A) (a : A) (old new : World) : Type 0 where
  pub way : ReadsOnWay plan (gives a) old new
  pub did : (files : Files) → Tells old.host files
      → contents new ≡ after way.effects (contents old)

-- the same by the result
abbrev pub ReadsFor : {A : Type 0} → Plan A → World → World → Result A Stop → Type 0
ReadsFor plan old new (Ok a) = ReadsThrough plan a old new
ReadsFor {A} plan old new (Err stop) = (rest : Plan A) × ReadsOnWay plan rest old new
