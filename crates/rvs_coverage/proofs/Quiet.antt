-- The end of work that has no progress to tell.
use Rattle.std.proofs.Common.{◌≡◌, ℕ, Bool, true, false, List}
use Rattle.std.proofs.Common.{Result, Ok, Err, refl, sym, ap, subst, ◌∙◌}
use Rattle.rvs_base.specs.Host.{HostState, Files}
use Rattle.rvs_base.specs.Sink.{SinkState}
use Rattle.rvs_plan.specs.World.{World}
use Rattle.rvs_plan.specs.Plan.{Plan}
use Rattle.rvs_plan.specs.Meets.{MeetsWith}
use Rattle.rvs_plan.specs.World.{Absence}
use Rattle.rvs_plan.specs.declared.stop.Stop.{Stop}
use Rattle.rvs_log.specs.Progress.{HasTold}
use Rattle.rvs_coverage.specs.Telling.{HasToldOf, as_planned, unlost}
use Rattle.rvs_coverage.specs.declared.unfinished.Unfinished.{Unfinished}
use Rattle.rvs_coverage.proofs.Tellings.{told-cut}

pub as-it-was : {A : Type 0} (r : Result A Stop) → as_planned (unlost r) ≡ r
as-it-was (Ok a) = refl
as-it-was (Err stop) = refl

pub meets-unlost : {absence : Absence} {A : Type 0} {plan : Plan A} {old new : World}
    (r : Result A Stop) (u : Result A Unfinished) → u ≡ unlost r
    → MeetsWith absence plan old new r → MeetsWith absence plan old new (as_planned u)
meets-unlost {absence} {A} {plan} {old} {new} r u is m =
    subst (λ (end : Result A Stop). MeetsWith absence plan old new end)
    (sym (ap as_planned is ∙ as-it-was r)) m

cut-by : {A : Type 0} {asked : Bool} {lines : Files → List ℕ} {host : HostState}
    {old new : SinkState} (r : Result A Stop) → HasTold asked lines host old new true false
    → HasToldOf asked lines host old new (unlost r)
cut-by (Ok a) t = t
cut-by (Err stop) t = told-cut t

pub told-unlost : {A : Type 0} {asked : Bool} {lines : Files → List ℕ} {host : HostState}
    {old new : SinkState} (r : Result A Stop) (u : Result A Unfinished) → u ≡ unlost r
    → HasTold asked lines host old new true false → HasToldOf asked lines host old new u
told-unlost {A} {asked} {lines} {host} {old} {new} r u is t =
    subst (λ (end : Result A Unfinished). HasToldOf asked lines host old new end) (sym is)
    (cut-by r t)
