-- What every call of `demo` promises.
use Rattle.std.proofs.Common.{◌≡◌, ◌≢◌, ◌⊎◌, inl, inr, ℕ, false, [], Some, None}
use Rattle.std.proofs.Common.{Result, Ok, Err, refl, ap, arith}
use Rattle.rvs_base.specs.Host.{HostState, Files}
use Rattle.rvs_base.specs.Sink.{appended}
use Rattle.rvs_plan.specs.World.{Contents, IsFault}
use Rattle.rvs_plan.specs.Plan.{Plan, gives}
use Rattle.rvs_plan.specs.Account.{Concludes}
use Rattle.rvs_plan.proofs.Answering.{Obeys-meets}
use Rattle.rvs_plan.specs.declared.stop.Stop.{Stop}
use Rattle.rvs_plan.specs.declared.stop.Stop.TheVariants as why
use Rattle.rvs_plan.specs.declared.status.Finish.{Finish}
use Rattle.rvs_plan.specs.declared.status.Status.{Status}
use Rattle.rvs_plan.specs.declared.status.Status.TheVariants as answer
use Rattle.rvs_plan.specs.declared.status.Status.TheVariants.{Refused, HostFault}
use Rattle.rvs_demo.specs.Demo.{demo_text}
use Rattle.rvs_demo.proofs.Whole.{is_whole}
use Rattle.rvs_plan.specs.declared.status.Finish.TheVariants as finish
use Rattle.rvs_promises.specs.Call.{Call, world_of, HostRose}
use Rattle.rvs_promises.specs.Apart.{IsApart}
use Rattle.rvs_promises.specs.Answered.{Answered, OnDone}
use Rattle.rvs_plain.specs.Demonstrate.{demonstrate}
use Rattle.rvs_promises.specs.Demonstrating.{Demonstrates}
use Rattle.rvs_promises.proofs.Answered.{Works, RunsOn, answered}

-- a call whose work had no part in the host, and the line after it
pub record RanApart (call : Call) (plan : Plan Finish) : Type 0 where
  pub result : Result Finish Stop
  pub apart : IsApart plan (world_of call.old) (world_of call.new) result
  pub concludes : Concludes result call.status call.old.err call.new.err

-- it has nothing to read
abbrev nothing_read : Result (Unit {0}) Stop
nothing_read = Ok tt

abbrev works : (files : Files) (count : ℕ) → Works (demonstrate count) files nothing_read
works files count =
    record {
      inputs = gives tt;
      deeds = λ _. demonstrate count;
      ends = λ _. finish.Done;
      plan = refl;
      finds = refl;
      does = λ given. refl;
    }

abbrev HasPrinted : Call → ℕ → Unit {0} → Type 0
HasPrinted call count given =
    call.new.out.bytes ≡ appended call.old.out.bytes (demo_text count)

never-refused : {call : Call} (Left : Unit {0} → Finish → Type 0) → Answered call nothing_read Left
    → call.status ≢ Refused
never-refused {call} Left a is =
    let r = a.refused is in
    let no : Ok tt ≡ Err (why.Refused r.text) = r.refused in cc

done-or : {status : Status} → (status ≡ answer.Done) ⊎ (status ≡ answer.NotPassed)
    ⊎ (status ≡ answer.NoMemory) → (status ≡ answer.NotPassed → ⊥)
    → (status ≡ answer.Done) ⊎ (status ≡ answer.NoMemory)
done-or h never = grind arith

-- a host that tells all that it holds, which is nothing
abbrev bare : HostState
bare = record {
  is_open = false;
  files = Some (λ name. None);
  rest = Some [];
  runs = Some [];
  read_faults = 0;
  write_faults = 0;
  run_faults = 0;
  openings = 0;
  taken = 0;
}

-- the same call beside that host
abbrev beside_bare : Call → Call
beside_bare call = record {
  words = call.words;
  old = record { host = bare; out = call.old.out; err = call.old.err };
  new = record { host = bare; out = call.new.out; err = call.new.err };
  status = call.status;
}

runs-bare : {call : Call} (count : ℕ) → RanApart call (demonstrate count)
    → RunsOn (beside_bare call) (λ name. None) IsFault (demonstrate count)
runs-bare {call} count r = record {
  ran = record {
    result = r.result;
    obeys = Obeys-meets (r.apart.beside bare);
    concludes = r.concludes;
  };
  told = record { files = refl; rest = refl; runs = refl };
}

-- no count of that host rises
bare-stays : (call : Call) → HostRose (beside_bare call) → ⊥
bare-stays call rose = elim rose [
  | inl reads ↦ omega arith
  | inr more ↦ elim more [
    | inl writes ↦ omega arith
    | inr devices ↦ omega arith
  ]
]

fails-bare : (call : Call) (count : ℕ)
    → Answered (beside_bare call) nothing_read (OnDone (HasPrinted (beside_bare call) count))
    → call.status ≢ HostFault
fails-bare call count a is = elim (a.absent is) [
  | inl missed ↦ (let no : Ok tt ≡ Err (why.NoFile missed.name) = missed.absent in cc)
  | inr rose ↦ bare-stays call rose
]

pub demonstrates : {call : Call} (count : ℕ) → RanApart call (demonstrate count)
    → Demonstrates call count
demonstrates {call} count r =
    let a = answered (OnDone (HasPrinted (beside_bare call) count))
    (runs-bare {call = call} count r)
    (works (λ name. None) count) (λ given left. ap (λ (c : Contents). c.out) left) in
    record {
      done = λ done. (a.done done).left;
      whole = λ low. is_whole count low;
      by_words = λ none. done-or (a.by_inputs tt refl
          (record { host = bare-stays call; output = none.output; errors = none.errors }))
          (λ is. (a.not_passed is).left);
      no_verdict = λ is. (a.not_passed is).left;
      no_refusal = never-refused (OnDone (HasPrinted (beside_bare call) count)) a;
      host_kept = r.apart.kept;
      no_host_fault = fails-bare call count a;
    }
