-- Work that has no part in the host.
use Rattle.std.specs.Prelude.{◌≡◌, Result}
use Rattle.rvs_base.specs.Host.{HostState}
use Rattle.rvs_plan.specs.World.{World, world}
use Rattle.rvs_plan.specs.Plan.{Plan}
use Rattle.rvs_plan.specs.Meets.{Meets}
use Rattle.rvs_plan.specs.declared.stop.Stop.{Stop}
use Rattle.rvs_plan.specs.declared.status.Finish.{Finish}

-- it left the host as it was, and does the same beside any other
pub record IsApart (plan : Plan Finish) (old new : World) (result : Result Finish Stop) : Type
    0 where
  pub kept : new.host ≡ old.host
  pub beside : (host : HostState) → Meets plan (world host old.out) (world host new.out) result
