-- The end of a plan over told files, and the status of a run.
use Rattle.std.proofs.Common.{◌≡◌, ◌⊎◌, ℕ, List, [], Some, Result, Err}
use Rattle.std.proofs.Common.{arith}
use Rattle.rvs_base.specs.Host.{Files}
use Rattle.rvs_base.specs.Sink.{SinkState, appended}
use Rattle.rvs_plan.specs.World.{World, contents}
use Rattle.rvs_plan.specs.Effect.{Answer}
use Rattle.rvs_plan.specs.Plan.{Plan}
use Rattle.rvs_plan.specs.Performed.{end_of, ComesTo}
use Rattle.rvs_plan.specs.Meets.{Completes, Halts, HasCause}
use Rattle.rvs_plan.specs.Account.{Reports, status_of, end_status, line_of, fault_line, HostRose}
use Rattle.rvs_plan.specs.Account.{Means}
use Rattle.rvs_plan.specs.declared.stop.Stop.{Stop}
use Rattle.rvs_plan.specs.declared.stop.Stop.TheVariants as why
use Rattle.rvs_plan.specs.declared.status.Status.{Status}
use Rattle.rvs_plan.specs.declared.status.Status.TheVariants as answer
use Rattle.rvs_plan.specs.declared.status.Finish.{Finish}

-- a plan whose end is known comes to no other
pub same_end : (plan : Plan Finish) (files : Files) (end end' : Result Finish Stop)
    → ComesTo plan files end → ((answers : List Answer) → end_of plan files answers ≡ Some end')
    → end ≡ end'
same_end plan files end end' comes is = grind arith

-- the status that such a plan means
pub means-end : (plan : Plan Finish) (files : Files) (status : Status) (end : Result Finish Stop)
    → Means plan files status → ((answers : List Answer) → end_of plan files answers ≡ Some end)
    → status ≡ end_status end
means-end plan files status end m is = grind (arith, same_end)

-- a refused input, and its line
pub record WasRefused (plan : Plan Finish) (old new : World) (err err' : SinkState) : Type 0 where
  pub text : List ℕ
  pub completes : Completes plan (Err (why.Refused text)) (contents old) (contents new)
  pub line : err'.bytes ≡ appended err.bytes (fault_line text [])

refused_for : (plan : Plan Finish) (old new : World) (err err' : SinkState) (reason : Stop)
    → Halts plan (contents old) (contents new) reason → answer.Refused ≡ status_of reason
    → err'.bytes ≡ appended err.bytes (line_of reason) → WasRefused plan old new err err'
refused_for plan old new err err' reason h is line = grind arith

pub was_refused : (plan : Plan Finish) (old new : World) (err err' : SinkState)
    → Reports plan answer.Refused old new err err' → WasRefused plan old new err err'
was_refused plan old new err err' r = grind (arith, refused_for)

-- an input file that isn't there, and its line
pub record WasMissing (plan : Plan Finish) (old new : World) (err err' : SinkState) : Type 0 where
  pub name : List ℕ
  pub completes : Completes plan (Err (why.NoFile name)) (contents old) (contents new)
  pub line : err'.bytes ≡ appended err.bytes (line_of (why.NoFile name))

missing_for : (plan : Plan Finish) (old new : World) (err err' : SinkState) (reason : Stop)
    → Halts plan (contents old) (contents new) reason
    → ((reason ≡ why.Usage) ⊎ HasCause old new reason) → answer.HostFault ≡ status_of reason
    → err'.bytes ≡ appended err.bytes (line_of reason)
    → WasMissing plan old new err err' ⊎ HostRose old new
missing_for plan old new err err' reason h c is line = grind arith

pub was_missing : (plan : Plan Finish) (old new : World) (err err' : SinkState)
    → Reports plan answer.HostFault old new err err'
    → WasMissing plan old new err err' ⊎ HostRose old new
was_missing plan old new err err' r = grind (arith, missing_for)
