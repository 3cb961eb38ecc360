-- How a command answers that reads its inputs first, and then does its deeds.
use Rattle.std.proofs.Common.{◌≡◌, ◌⊎◌, inl, inr, List, Some, Result, Ok, Err, refl, ap, subst, ◌∙◌}
use Rattle.std.proofs.Common.{arith, rules}
use Rattle.rvs_base.specs.Host.{Files, Tells}
use Rattle.rvs_base.specs.Sink.{SinkState}
use Rattle.rvs_plan.specs.World.{World, Contents, contents, Absence}
use Rattle.rvs_plan.specs.Effect.{Answer}
use Rattle.rvs_plan.specs.Plan.{Plan, followed, ◌>>=◌}
use Rattle.rvs_plan.specs.Performed.{end_of}
use Rattle.rvs_plan.specs.Meets.{Completes}
use Rattle.rvs_plan.specs.Account.{end_status, NoneRose}
use Rattle.rvs_plan.proofs.Answering.{ComesTo-Completes}
use Rattle.rvs_plan.specs.declared.stop.Stop.{Stop}
use Rattle.rvs_plan.specs.declared.stop.Stop.TheVariants as why
use Rattle.rvs_plan.specs.declared.status.Status.{Status}
use Rattle.rvs_plan.specs.declared.status.Status.TheVariants as answer
use Rattle.rvs_plan.specs.declared.status.Finish.{Finish}
use Rattle.rvs_plan.specs.declared.status.Finish.TheVariants.{Done, NotPassed}
use Rattle.rvs_promises.specs.Call.{Call, world_of}
use Rattle.rvs_promises.specs.Answered.{HasLeft, Answered}
use Rattle.rvs_promises.proofs.Ends.{same_end, means-end, WasRefused, was_refused, was_missing}
use Rattle.rvs_inputs.proofs.Finding.{Finds, end-found, behind, Deeds, left, end-deeds}
use Rattle.rvs_inputs.proofs.Finding.{left-after}
use Rattle.rvs_promises.proofs.Running.{Ran, at_status}
use Rattle.rvs_promises.proofs.Running.{answered as ran_answered}

-- a plan reads inputs, which over these files come to this, and then does its deeds
pub record Works {A : Type 0} (whole : Plan Finish) (files : Files) (found : Result A Stop) : Type
    0 where
  pub inputs : Plan A
  pub deeds : A → Plan Finish
  pub ends : A → Finish
  pub plan : whole ≡ (inputs >>= deeds)
  pub finds : Finds files inputs found
  pub does : (given : A) → Deeds (ends given) (deeds given)

-- its end
abbrev end_after : {A : Type 0} → (A → Finish) → Result A Stop → Result Finish Stop
end_after ends (Ok given) = Ok (ends given)
end_after ends (Err stop) = Err stop

followed-end : {A : Type 0} (files : Files) (answers : List Answer) (found : Result A Stop)
    (deeds : A → Plan Finish) (ends : A → Finish)
    → ((given : A) → Deeds (ends given) (deeds given)) → end_of
    (followed found deeds) files answers ≡ Some (end_after ends found)
followed-end files = search (rules, end-deeds)

works-end : {A : Type 0} {plan : Plan Finish} {files : Files} {found : Result A Stop}
    → (w : Works plan files found) → (answers : List Answer)
    → end_of plan files answers ≡ Some (end_after w.ends found)
works-end {files = files} {found = found} w answers =
    ap (λ (p : Plan Finish). end_of p files answers) w.plan
    ∙ end-found files answers w.inputs w.deeds found w.finds
    ∙ followed-end files answers found w.deeds w.ends w.does

-- what deeds of accepted inputs leave, where the command did all of them
works-left : {A : Type 0} {plan : Plan Finish} {files : Files} (given : A)
    (end : Result Finish Stop) (old new : Contents) → (w : Works plan files (Ok given)) → old.files ≡ Some files → Completes
    plan end old new → new ≡ left (w.deeds given) old
works-left {A} {plan} {files} given end old new w told r = grind (arith, behind, left-after)

-- an end that the command came to is the one that its inputs lead to
works-same : {A : Type 0} {plan : Plan Finish} {files : Files} {found : Result A Stop}
    (end : Result Finish Stop) (old new : World) → (w : Works plan files found)
    → Tells old.host files → Completes plan end (contents old) (contents new)
    → end ≡ end_after w.ends found
works-same {plan = plan} {files = files} {found = found} end old new w t r = same_end
    plan files end (end_after w.ends found)
    (ComesTo-Completes plan end old new files t r) (works-end w)

left-ended : {A : Type 0} {plan : Plan Finish} {files : Files} (found : Result A Stop)
    (old new : World) (Left : A → Finish → Type 0) (end : Finish) → (w : Works plan files found)
    → Tells old.host files → ((given : A)
    → contents new ≡ left (w.deeds given) (contents old) → Left given (w.ends given)) → Completes
    plan (Ok end) (contents old) (contents new)
    → HasLeft found (λ given. Left given end)
left-ended (Ok given) old new Left end w t leaves r =
    let both : Ok end ≡ Ok (w.ends given) = works-same (Ok end) old new w t r in
    let same : w.ends given ≡ end = cc in
    record {
      given = given;
      accepted = refl;
      left = subst (Left given) same (leaves given
          (works-left given (Ok end) (contents old) (contents new) w t.files r));
    }
left-ended (Err stop) old new Left end w t leaves r = let no : Ok end ≡ Err stop =
    works-same (Ok end) old new w t r in absurd cc

-- a status of an end is that of one of the two
verdict-status : (end : Finish) (status : Status)
    → (status ≡ end_status (Ok end)) ⊎ (status ≡ answer.NoMemory)
    → (status ≡ answer.Done) ⊎ (status ≡ answer.NotPassed) ⊎ (status ≡ answer.NoMemory)
verdict-status end status h = grind arith

refused-for : {A : Type 0} (ends : A → Finish) (found : Result A Stop) (stop : Stop)
    → Err stop ≡ end_after ends found → found ≡ Err stop
refused-for ends = grind arith

-- the status of such a plan, where nothing failed
works-means : {A : Type 0} {absence : Absence} {plan : Plan Finish} {files : Files}
    {found : Result A Stop} {old new : World} {err err' : SinkState} {status : Status}
    (end : Result A Stop) → (w : Works plan files found)
    → Ran absence plan old new err err' status → Tells old.host files → found ≡ end
    → NoneRose old new err err'
    → (status ≡ end_status (end_after w.ends end)) ⊎ (status ≡ answer.NoMemory)
works-means {plan = plan} {files = files} {found = found} {status = status} end w r t is none =
    elim (ran_answered r files t none) [
      | inl m ↦ inl (means-end plan files status (end_after w.ends end) m
          (λ answers. works-end w answers
          ∙ ap (λ (f : Result _ Stop). Some (end_after w.ends f)) is))
      | inr no_memory ↦ inr no_memory
    ]

-- a call over these files that obeyed this plan
pub record RunsOn (call : Call) (files : Files) (absence : Absence) (plan : Plan Finish) : Type
    0 where
  pub ran : Ran absence plan (world_of call.old) (world_of call.new) call.old.err call.new.err
      call.status
  pub told : Tells call.old.host files

pub answered : {A : Type 0} {call : Call} {files : Files} {absence : Absence} {plan : Plan Finish}
    {found : Result A Stop} (Left : A → Finish → Type 0) → RunsOn call files absence plan
    → (w : Works plan files found) → ((given : A)
    → contents (world_of call.new) ≡ left (w.deeds given) (contents (world_of call.old))
    → Left given (w.ends given)) → Answered call found Left
answered {A} {call} {files} {absence} {plan} {found} Left r w leaves =
    let old = world_of call.old in
    let new = world_of call.new in
    record {
      done = λ is. left-ended found old new Left Done w r.told leaves
          (at_status r.ran files answer.Done r.told is).completes;
      not_passed = λ is. left-ended found old new Left NotPassed w r.told leaves
          (at_status r.ran files answer.NotPassed r.told is).completes;
      by_inputs = λ given is none. verdict-status (w.ends given) call.status
          (works-means (Ok given) w r.ran r.told is none);
      refused = λ is.
          let was : WasRefused plan old new call.old.err call.new.err = was_refused plan old new
          call.old.err call.new.err
          (at_status r.ran files answer.Refused r.told is) in
          record {
            text = was.text;
            refused = refused-for w.ends found (why.Refused was.text)
                (works-same (Err (why.Refused was.text)) old new w r.told was.completes);
            line = was.line;
          };
      by_refusal = λ text is none. works-means (Err (why.Refused text)) w r.ran r.told is none;
      absent = λ is. elim (was_missing plan old new call.old.err call.new.err
          (at_status r.ran files answer.HostFault r.told is)) [
            | inl was ↦ inl (record {
              name = was.name;
              absent = refused-for w.ends found (why.NoFile was.name)
                  (works-same (Err (why.NoFile was.name)) old new w r.told was.completes);
              line = was.line;
            })
            | inr rose ↦ inr rose
          ];
      by_absence = λ name is none. works-means (Err (why.NoFile name)) w r.ran r.told is none;
    }
