-- What every call of `demo` promises.
use Rattle.std.specs.Prelude.{◌≡◌, ◌≢◌, ◌≤◌, ℕ}
use Rattle.rvs_base.specs.Sink.{appended}
use Rattle.rvs_plan.specs.declared.status.Status.TheVariants.{Done, NotPassed, Refused, HostFault}
use Rattle.rvs_demo.specs.Demo.{demo_text, IsWhole}
use Rattle.rvs_promises.specs.Call.{Call, Asks, NothingFailed, AnswersOnly}
use Rattle.rvs_words.specs.declared.command.Command.TheVariants.{Demo}

-- a call of `demo` for so many generated instructions
pub record Demonstrates (call : Call) (count : ℕ) : Type 0 where
  -- it is done where it has put the report of the run of the stated program
  pub done : call.status ≡ Done
      → call.new.out.bytes ≡ appended call.old.out.bytes (demo_text count)
  -- that run comes to its end
  pub whole : count ≤ 1000000 → IsWhole count
  -- it reads nothing, and so has no other answer where nothing failed
  pub by_words : NothingFailed call → AnswersOnly call Done
  pub no_verdict : call.status ≢ NotPassed
  pub no_refusal : call.status ≢ Refused
  -- it asks nothing of the host, and so never fails for it
  pub host_kept : call.new.host ≡ call.old.host
  pub no_host_fault : call.status ≢ HostFault

-- the same of every call whose words ask for `demo`, over any host
abbrev pub Promise : Call → Type 0
Promise call = (count : ℕ) → Asks call (Demo count) → Demonstrates call count
