-- That a command which writes no file leaves all of them as they were, however it ends.
use Rattle.std.proofs.Common.{◌≡◌, ℕ, List, [], ◌∷◌, Option, Result, Ok, Err, refl, subst, ap, ◌∙◌}
use Rattle.std.specs.Prelude.{⊤}
use Rattle.rvs_base.specs.Sink.{SinkState}
use Rattle.rvs_plan.specs.World.{World, Contents, contents}
use Rattle.rvs_plan.specs.Effect.{Write, Out, Effect, Read, Device, Did, after, after_deed}
use Rattle.rvs_plan.specs.Plan.{Plan, Ends, Does, Asks, Runs, Goes, followed, ◌>>=◌}
use Rattle.rvs_plan.specs.Meets.{Reaches, Halts}
use Rattle.rvs_plan.specs.Account.{Accounts}
use Rattle.rvs_plan.specs.declared.stop.Stop.{Stop}
use Rattle.rvs_plan.specs.declared.stop.Stop.TheVariants as why
use Rattle.rvs_plan.specs.declared.status.Status.{Status}
use Rattle.rvs_plan.specs.declared.status.Status.TheVariants as answer
use Rattle.rvs_plan.specs.declared.status.Finish.{Finish}
use Rattle.rvs_inputs.proofs.Readers.{OnlyReads}

abbrev pub WritesNone : {A : Type 0} → Plan A → Type 0
WritesNone (Ends end) = ⊤
WritesNone (Does (Write name bytes) plan) = ⊥
WritesNone (Does (Out bytes) plan) = WritesNone plan
WritesNone (Asks name bound next) = (found : Option (List ℕ)) → WritesNone (next found)
WritesNone (Runs words test signature next) = ⊥

WritesNone-followed : {A B : Type 0} (end : Result A Stop) (next : A → Plan B)
    → ((a : A) → WritesNone (next a)) → WritesNone (followed end next)
WritesNone-followed (Ok a) next none = none a
WritesNone-followed (Err stop) next none = tt

pub WritesNone-then : {A B : Type 0} (plan : Plan A) (next : A → Plan B) → WritesNone plan
    → ((a : A) → WritesNone (next a)) → WritesNone (plan >>= next)
WritesNone-then (Ends end) next none then = WritesNone-followed end next then
WritesNone-then (Does (Write name bytes) plan) next none then = absurd none
WritesNone-then (Does (Out bytes) plan) next none then = WritesNone-then plan next none then
WritesNone-then (Asks name bound rest) next none then =
    λ found. WritesNone-then (rest found) next (none found) then
WritesNone-then (Runs words test signature rest) next none then = absurd none

kept : {A : Type 0} (plan rest : Plan A) (effects : List Effect) (c : Contents) → WritesNone plan
    → Goes plan effects rest → ((after effects c).files ≡ c.files) × WritesNone rest
kept {A = A} plan rest [] c none goes = (refl, subst (λ (p : Plan A). WritesNone p) goes none)
kept (Ends end) rest (effect ∷ effects) c none goes = absurd goes
kept (Does (Write name bytes) plan) rest (effect ∷ effects) c none goes = absurd none
kept (Does (Out bytes) plan) rest (Did (Out put) ∷ effects) c none goes =
    kept plan rest effects (after_deed (Out put) c) none goes.1
kept (Does (Out bytes) plan) rest (Did (Write name put) ∷ effects) c none goes =
    let e : Out bytes ≡ Write name put = goes.0 in absurd cc
kept (Does (Out bytes) plan) rest (Read name found ∷ effects) c none goes = absurd goes
kept (Does (Out bytes) plan) rest (Device words test signature answer ∷ effects) c none goes =
    absurd goes
kept (Asks name bound next) rest (Read n found ∷ effects) c none goes =
    kept (next found) rest effects c (none found) goes.1
kept (Asks name bound next) rest (Did deed ∷ effects) c none goes = absurd goes
kept (Asks name bound next) rest (Device words test signature answer ∷ effects) c none goes =
    absurd goes
kept (Runs words test signature next) rest (effect ∷ effects) c none goes = absurd none

pub reached : {A : Type 0} (plan rest : Plan A) (old new : Contents) → WritesNone plan
    → Reaches plan rest old new → (new.files ≡ old.files) × WritesNone rest
reached plan rest old new none r = let k = kept plan rest r.effects old none r.goes in
    (ap (λ (c : Contents). c.files) r.did ∙ k.0, k.1)

halted : (plan : Plan Finish) (old new : Contents) (stop : Stop) → WritesNone plan
    → Halts plan old new stop → new.files ≡ old.files
halted plan old new why.Usage none h = (reached plan (Ends (Err why.Usage)) old new none h).0
halted plan old new (why.Refused text) none h =
    (reached plan (Ends (Err (why.Refused text))) old new none h).0
halted plan old new (why.NoFile name) none h =
    (reached plan (Ends (Err (why.NoFile name))) old new none h).0
halted plan old new (why.CannotRead name) none h =
    (reached plan (Asks name h.bound h.next) old new none h.reaches).0
halted plan old new (why.CannotWrite name) none h =
    absurd (reached plan (Does (Write name h.0) h.1.rest) old h.1.before none h.1.reaches).1
halted plan old new (why.CannotRun test) none h =
    absurd (reached plan (Runs h.words test h.signature h.next) old h.before none h.reaches).1
halted plan old new why.NoMemory none h = (reached plan h.0 old new none h.1).0
halted plan old new why.SinkFault none h = ap (λ (c : Contents). c.files) h.1.broke.put
    ∙ (reached plan (Does (Out h.0) h.1.rest) old h.1.before none h.1.reaches).0

pub accounted : (plan : Plan Finish) (old new : World) (err err' : SinkState) (status : Status)
    → WritesNone plan → Accounts plan old new err err' status → new.host.files ≡ old.host.files
accounted plan old new err err' answer.Done none a =
    (reached plan _ (contents old) (contents new) none a.completes).0
accounted plan old new err err' answer.NotPassed none a =
    (reached plan _ (contents old) (contents new) none a.completes).0
accounted plan old new err err' answer.Usage none a =
    halted plan (contents old) (contents new) a.reason none a.halts
accounted plan old new err err' answer.Refused none a =
    halted plan (contents old) (contents new) a.reason none a.halts
accounted plan old new err err' answer.HostFault none a =
    halted plan (contents old) (contents new) a.reason none a.halts
accounted plan old new err err' answer.SinkFault none a =
    halted plan (contents old) (contents new) a.reason none a.halts
accounted plan old new err err' answer.NoMemory none a =
    halted plan (contents old) (contents new) a.reason none a.halts

-- what only reads writes none
pub reads-none : {A : Type 0} (plan : Plan A) → OnlyReads plan → WritesNone plan
reads-none (Ends end) reads = tt
reads-none (Does deed plan) reads = absurd reads
reads-none (Asks name bound next) reads = λ found. reads-none (next found) (reads found)
reads-none (Runs words test signature next) reads = absurd reads
