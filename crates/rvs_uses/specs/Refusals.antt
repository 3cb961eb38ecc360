-- That a file is refused or isn't there, as a call says it.
use Rattle.std.specs.Prelude.{◌≡◌, List, ℕ, [], codes}
use Rattle.rvs_base.specs.Sink.{appended}
use Rattle.rvs_plan.specs.Account.{fault_line}
use Rattle.rvs_promises.specs.Call.{Call}

-- a file is refused for this reason, and the sink for errors has the line that says why
pub record HasRefused (call : Call) (Refuses : List ℕ → Type 0) : Type 0 where
  pub text : List ℕ
  pub reason : Refuses text
  pub line : call.new.err.bytes ≡ appended call.old.err.bytes (fault_line text [])

-- a file isn't there, and the sink for errors has the line that names it
pub record HasMissed (call : Call) (Misses : List ℕ → Type 0) : Type 0 where
  pub name : List ℕ
  pub absent : Misses name
  pub line : call.new.err.bytes ≡ appended call.old.err.bytes (fault_line (codes "no file ") name)
