-- What a plan that was obeyed left, and what its conclusion says of it.
use Rattle.std.proofs.Common.{◌≡◌, ◌⊎◌, inl, inr, Result, subst}
use Rattle.rvs_base.specs.Host.{Files, Tells}
use Rattle.rvs_base.specs.Sink.{SinkState}
use Rattle.rvs_plan.specs.World.{World, Absence}
use Rattle.rvs_plan.specs.Plan.{Plan}
use Rattle.rvs_plan.specs.Performed.{NeverStops}
use Rattle.rvs_plan.specs.Meets.{Obeys}
use Rattle.rvs_plan.specs.Account.{Accounts, Concludes, NoneRose, Means}
use Rattle.rvs_plan.proofs.Answering.{Answers, Answers-of, Accounts-means, Means-never_stops}
use Rattle.rvs_plan.specs.declared.stop.Stop.{Stop}
use Rattle.rvs_plan.specs.declared.status.Status.{Status}
use Rattle.rvs_plan.specs.declared.status.Status.TheVariants as answer
use Rattle.rvs_plan.specs.declared.status.Finish.{Finish}
use Rattle.rvs_inputs.proofs.Keeping.{WritesNone, accounted}

-- work that obeyed its plan, and the line after it
pub record Ran (absence : Absence) (plan : Plan Finish) (old new : World) (err err' : SinkState)
    (status : Status) : Type 0 where
  pub result : Result Finish Stop
  pub obeys : Obeys absence plan old new result
  pub concludes : Concludes result status err err'

pub answers : {absence : Absence} {plan : Plan Finish} {old new : World} {err err' : SinkState}
    {status : Status} → Ran absence plan old new err err' status
    → Answers absence plan old new err err' status
answers {absence} {plan} {old} {new} {err} {err'} {status} r =
    Answers-of absence plan old new err err' r.result status r.obeys r.concludes

pub answered : {absence : Absence} {plan : Plan Finish} {old new : World} {err err' : SinkState}
    {status : Status} → Ran absence plan old new err err' status → (files : Files)
    → Tells old.host files → NoneRose old new err err'
    → Means plan files status ⊎ (status ≡ answer.NoMemory)
answered {absence} {plan} {old} {new} {err} {err'} {status} r files t none =
    Accounts-means plan old new err err' files status t none ((answers r).effects files t)

pub completes : {absence : Absence} {plan : Plan Finish} {old new : World} {err err' : SinkState}
    {status : Status} → Ran absence plan old new err err' status → (files : Files)
    → Tells old.host files → NoneRose old new err err' → NeverStops plan files
    → (status ≡ answer.Done) ⊎ (status ≡ answer.NotPassed) ⊎ (status ≡ answer.NoMemory)
completes {absence} {plan} {old} {new} {err} {err'} {status} r files t none never =
    elim (answered r files t none) [
      | inl m ↦ elim (Means-never_stops plan files status never m) [
        | inl done ↦ inl done
        | inr not_passed ↦ inr (inl not_passed)
      ]
      | inr no_memory ↦ inr (inr no_memory)
    ]

-- what was done, at a status
pub at_status : {absence : Absence} {plan : Plan Finish} {old new : World} {err err' : SinkState}
    {status : Status} → Ran absence plan old new err err' status → (files : Files)
    (wanted : Status) → Tells old.host files → status ≡ wanted
    → Accounts plan old new err err' wanted
at_status {absence} {plan} {old} {new} {err} {err'} {status} r files wanted t is =
    subst (λ (s : Status). Accounts plan old new err err' s) is ((answers r).effects files t)

pub keeps : {absence : Absence} {plan : Plan Finish} {old new : World} {err err' : SinkState}
    {status : Status} → Ran absence plan old new err err' status → (files : Files)
    → Tells old.host files → WritesNone plan → new.host.files ≡ old.host.files
keeps {absence} {plan} {old} {new} {err} {err'} {status} r files t none =
    accounted plan old new err err' status none ((answers r).effects files t)
