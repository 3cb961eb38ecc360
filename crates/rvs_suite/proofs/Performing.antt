-- What a command did, and what its conclusion says of it.
use Rattle.std.proofs.Common.{Bool, true, false, true≢false}
use Rattle.std.proofs.Common.{◌≡◌, ◌⊎◌, inl, inr, ℕ, Result, Err, refl, sym, ap, subst, ◌∙◌}
use Rattle.std.proofs.Common.{arith}
use Rattle.rvs_base.specs.Host.{HostState}
use Rattle.rvs_base.specs.Sink.{SinkState}
use Rattle.rvs_plan.specs.World.{World, world}
use Rattle.rvs_plan.specs.Meets.{MeetsWith, Meets}
use Rattle.rvs_plan.specs.Account.{Concludes}
use Rattle.rvs_plan.proofs.Answering.{Obeys-meets, Obeys-usage, Obeys-no_memory, Meets-not_usage}
use Rattle.rvs_plan.proofs.Answering.{usage-status, memory-status, status-usage}
use Rattle.rvs_plan.proofs.Sequence.{Meets-no_memory}
use Rattle.rvs_plan.specs.declared.stop.Stop.{Stop}
use Rattle.rvs_plan.specs.declared.stop.Stop.TheVariants as why
use Rattle.rvs_plan.specs.declared.status.Status.TheVariants as answer
use Rattle.rvs_plan.specs.declared.status.Finish.{Finish}
use Rattle.rvs_plain.specs.Demonstrate.{demonstrate}
use Rattle.rvs_coverage.specs.Telling.{as_planned, unlost}
use Rattle.rvs_coverage.specs.declared.unfinished.Unfinished.{Unfinished}
use Rattle.rvs_coverage.proofs.Quiet.{as-it-was}
use Rattle.rvs_promises.specs.Apart.{IsApart}
use Rattle.rvs_promises.specs.Call.{Call, Asks, world_of}
use Rattle.rvs_promises.proofs.Running.{Ran}
use Rattle.rvs_suite.specs.Plans.{plan_of, absence_of, Performs}
use Rattle.rvs_words.specs.Commands.{command_of}
use Rattle.rvs_words.specs.declared.command.Command.{Command}
use Rattle.rvs_words.specs.declared.command.Command.TheVariants.{Unknown, Demo}

-- a command that has a plan over the host
abbrev pub is_hosted : Command → Bool
is_hosted Unknown = false
is_hosted (Demo count) = false
is_hosted _ = true

hosted-known : (command : Command) → is_hosted command ≡ true → command ≡ Unknown → ⊥
hosted-known command hosted is = true≢false (sym hosted ∙ ap is_hosted is)

hosted-asks : (command : Command) (count : ℕ) → is_hosted command ≡ true → command ≡ Demo count → ⊥
hosted-asks command count hosted is = true≢false (sym hosted ∙ ap is_hosted is)

-- which it met
pub Performs-meets : {command : Command} {old new : World} {result : Result Finish Stop}
    → is_hosted command ≡ true
    → MeetsWith (absence_of command) (plan_of command) old new result
    → Performs command old new result
Performs-meets hosted m = grind (arith, hosted-known, hosted-asks)

pub Performs-demo : (count : ℕ) (host : HostState) (out out' : SinkState)
    (result : Result Finish Stop)
    → ((h : HostState) → Meets (demonstrate count) (world h out) (world h out') result)
    → Performs (Demo count) (world host out) (world host out') result
Performs-demo count host out out' result meets =
    let m : Meets (demonstrate count) (world host out) (world host out') result = meets host in
    let a : IsApart (demonstrate count) (world host out) (world host out') result =
    record { kept = refl; beside = meets } in
    record {
      obeys = Obeys-meets m;
      usage = λ is. absurd (Meets-not_usage m is);
      no_command = λ is. absurd cc;
      unchanged = λ is. absurd cc;
      apart = λ n is.
          let same : count ≡ n = cc in
          subst (λ (k : ℕ). IsApart (demonstrate k) (world host out) (world host out') result)
          same a;
    }

pub Performs-unknown : (w : World) → Performs Unknown w w (Err why.Usage)
Performs-unknown w = record {
  obeys = Obeys-usage w;
  usage = λ is. refl;
  no_command = λ is. inl refl;
  unchanged = λ is. refl;
  apart = λ count is. absurd cc;
}

pub Performs-no_memory : (command : Command) (w : World) → Performs command w w (Err why.NoMemory)
Performs-no_memory command w = record {
  obeys = Obeys-no_memory (absence_of command) (plan_of command) w;
  usage = λ is. absurd cc;
  no_command = λ is. inr refl;
  unchanged = λ is. refl;
  apart = λ count is. record {
    kept = refl;
    beside = λ host. Meets-no_memory (demonstrate count) (world host w.out);
  };
}

pub performs-unlost : {command : Command} {old new : World} (r : Result Finish Stop)
    (u : Result Finish Unfinished) → u ≡ unlost r → Performs command old new r
    → Performs command old new (as_planned u)
performs-unlost {command} {old} {new} r u is p =
    subst (λ (end : Result Finish Stop). Performs command old new end)
    (sym (ap as_planned is ∙ as-it-was r)) p

-- a call whose command was done, and the line after it
pub record RanCall (call : Call) : Type 0 where
  pub result : Result Finish Stop
  pub performs : Performs (command_of call.words) (world_of call.old) (world_of call.new) result
  pub concludes : Concludes result call.status call.old.err call.new.err

-- the plan of what its words ask for was obeyed
pub ran-asked : {call : Call} (command : Command) → RanCall call → Asks call command
    → Ran (absence_of command) (plan_of command) (world_of call.old) (world_of call.new)
    call.old.err call.new.err call.status
ran-asked {call} command r is =
    subst (λ (c : Command). Ran (absence_of c) (plan_of c) (world_of call.old)
    (world_of call.new) call.old.err call.new.err call.status) is
    (record { result = r.result; obeys = r.performs.obeys; concludes = r.concludes })

pub usage : {call : Call} → RanCall call → call.status ≡ answer.Usage → Asks call Unknown
usage {call} r is =
    r.performs.usage
    (status-usage call.status call.old.err call.new.err r.result is r.concludes)

pub no_command : {call : Call} → RanCall call → Asks call Unknown
    → (call.status ≡ answer.Usage) ⊎ (call.status ≡ answer.NoMemory)
    ⊎ (call.status ≡ answer.SinkFault)
no_command {call} r is = elim (r.performs.no_command is) [
  | inl used ↦ elim (usage-status call.status call.old.err call.new.err r.result used
      r.concludes) [
        | inl s ↦ inl s
        | inr s ↦ inr (inr s)
      ]
  | inr memory ↦ elim (memory-status call.status call.old.err call.new.err r.result memory
      r.concludes) [
        | inl s ↦ inr (inl s)
        | inr s ↦ inr (inr s)
      ]
]
