-- What the exit status of the program says.
use Rattle.std.specs.Prelude.{◌≡◌, ℕ, List}
use Rattle.rvs_base.specs.Host.{HostState}
use Rattle.rvs_base.specs.Sink.{SinkState}
use Rattle.rvs_plan.specs.Account.{Told}
use Rattle.rvs_plan.specs.Codes.{code_of}
use Rattle.rvs_plan.specs.declared.status.Status.{Status}
use Rattle.rvs_plan.specs.declared.stop.Stop.TheVariants.{NoMemory}
use Rattle.rvs_promises.specs.Call.{Outside, call}
use Rattle.rvs_suite.specs.Promise.{Promise}

abbrev pub outside : HostState → SinkState → SinkState → Outside
outside host out err = record { host = host; out = out; err = err }

-- it is the code of a status, with which these words keep the promise of every call
pub record Exits (words : List (List ℕ)) (old new : Outside) (code : ℕ) : Type 0 where
  pub status : Status
  pub is : code ≡ code_of status
  pub promise : Promise (call words old.host new.host old.out new.out old.err new.err status)

-- the words couldn't be taken for want of memory: this was told, and nothing else was done
pub record ExitsUnread (old new : Outside) (code : ℕ) : Type 0 where
  pub status : Status
  pub is : code ≡ code_of status
  pub told : Told NoMemory status old.err new.err
  pub host : new.host ≡ old.host
  pub out : new.out ≡ old.out
