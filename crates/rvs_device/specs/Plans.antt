-- Judging a test as a plan.
use Rattle.std.specs.Prelude.{◌+◌, ℤ, [], Result, Ok, Err}
use Rattle.rvs_base.specs.Host.{HostState}
use Rattle.rvs_base.specs.Sink.{SinkState}
use Rattle.rvs_plan.specs.World.{world, IsAnswer}
use Rattle.rvs_plan.specs.Meets.{MeetsWith}
use Rattle.rvs_plan.specs.Plan.{Plan, Ends, Asks, writes, device, ◌>>=◌}
use Rattle.rvs_plan.specs.declared.stop.Stop.{Stop}
use Rattle.rvs_plan.specs.declared.stop.Stop.TheVariants as why
use Rattle.rvs_device.specs.Judged.{signature_limit, verdict_on}
use Rattle.rvs_device.specs.Judging.{Task}
use Rattle.rvs_device.specs.declared.verdicts.TestVerdict.{TestVerdict}
use Rattle.rvs_device.specs.declared.judging.JudgeFault.{JudgeFault}
use Rattle.rvs_device.specs.declared.judging.JudgeFault.TheVariants.{Write, Run, Read, NoMemory}

-- the signature file is read, and its verdict given
abbrev pub read_back : Task → ℤ → Plan TestVerdict
read_back t status =
    Asks t.signature (signature_limit + 1)
    (λ left. Ends (Ok (verdict_on status t.reference left)))

abbrev pub run_and_read : Task → Plan TestVerdict
run_and_read t = do
  status ← device t.words t.test t.signature
  read_back t status

-- the signature file is made empty, the device is run, and the signature file is read
abbrev pub judged : Task → Plan TestVerdict
judged t = do
  _ ← writes t.signature []
  run_and_read t

-- why a command stops where judging failed
abbrev pub stop_of : Task → JudgeFault → Stop
stop_of t Write = why.CannotWrite t.signature
stop_of t Run = why.CannotRun t.test
stop_of t Read = why.CannotRead t.signature
stop_of t NoMemory = why.NoMemory

-- the same of the whole result
abbrev pub stopped : Task → Result TestVerdict JudgeFault → Result TestVerdict Stop
stopped t (Ok verdict) = Ok verdict
stopped t (Err fault) = Err (stop_of t fault)

-- what judging does meets its plan; that there is no signature file is an answer
abbrev pub MeetsPlan : Task → HostState → HostState → Result TestVerdict JudgeFault → Type 0
MeetsPlan t old new result =
    (out : SinkState)
    → MeetsWith IsAnswer (judged t) (world old out) (world new out) (stopped t result)
