-- Progress that is told by one piece of work after the other.
use Rattle.std.proofs.Common.{◌≡◌, ℕ, Bool, true, false, List, [], ◌++◌, Ok, refl, sym, ap}
use Rattle.std.proofs.Common.{subst, ◌∙◌, arith}
use Rattle.rvs_base.specs.Host.{HostState, Files, Tells}
use Rattle.rvs_base.specs.Sink.{SinkState}
use Rattle.rvs_plan.specs.World.{World, contents}
use Rattle.rvs_plan.specs.Plan.{Plan, Ends}
use Rattle.rvs_plan.specs.Meets.{Meets}
use Rattle.rvs_plan.proofs.Sequence.{Tells-later}
use Rattle.rvs_log.specs.Progress.{HasTold, IsFront, left_by, put}
use Rattle.rvs_log.proofs.Telling.{put-none, put-both, front-none, front-longer, front-behind}
use Rattle.rvs_inputs.proofs.Keeping.{WritesNone, reached}

-- the files are told as before
abbrev pub StillTells : HostState → HostState → Type 0
StillTells old new = (files : Files) → Tells old files → Tells new files

pub still-tells : {A : Type 0} (plan : Plan A) (a : A) (old new : World) → WritesNone plan
    → Meets plan old new (Ok a) → StillTells old.host new.host
still-tells plan a old new none m = λ files t.
    let later = (Tells-later m.later t).1 in
    record {
      files = (reached plan (Ends (Ok a)) (contents old) (contents new) none (m.told files t)).0
          ∙ t.files;
      rest = later.rest;
      runs = later.runs;
    }

-- ---- one piece
-- nothing was to be told
pub told-none : (asked : Bool) (host : HostState) (sink : SinkState)
    → HasTold asked (λ files. []) host sink sink true false
told-none asked host sink = record {
  front = [];
  left = sym (put-none sink);
  later = omega arith;
  part = λ files told. front-none [];
  all = λ whole is files told. refl;
  unasked = λ is. (refl, refl);
}

-- and then the work stopped
pub told-cut : {asked : Bool} {lines : Files → List ℕ} {host : HostState} {old new : SinkState}
    {whole lost : Bool} → HasTold asked lines host old new whole lost
    → HasTold asked lines host old new false lost
told-cut t = record {
  front = t.front;
  left = t.left;
  later = t.later;
  part = t.part;
  all = λ whole. absurd cc;
  unasked = t.unasked;
}

-- the same of a host that tells its files since then
pub told-since : {asked : Bool} {lines : Files → List ℕ} {host mid : HostState}
    {old new : SinkState} {whole lost : Bool} → StillTells host mid
    → HasTold asked lines mid old new whole lost → HasTold asked lines host old new whole lost
told-since still t = record {
  front = t.front;
  left = t.left;
  later = t.later;
  part = λ files told. t.part files (still files told);
  all = λ whole is files told. t.all whole is files (still files told);
  unasked = t.unasked;
}

-- ---- one after the other
both-fronts : (a b front behind : List ℕ) (asked : Bool)
    → (asked ≡ true → a ≡ front) → (asked ≡ false → (a ≡ []) × (b ≡ [])) → IsFront b behind
    → IsFront (a ++ b) (front ++ behind)
both-fronts a b front behind true all none f =
    subst (λ l. IsFront (a ++ b) (l ++ behind)) (all refl) (front-behind a b behind f)
both-fronts a b front behind false all none f = let empty = none refl in
    let nothing : [] ≡ a ++ b = λ i. sym empty.0 i ++ sym empty.1 i in
    subst (λ l. IsFront l (front ++ behind)) nothing (front-none (front ++ behind))

pub told-then : {asked : Bool} {lines more : Files → List ℕ} {host next : HostState}
    {old mid new : SinkState} {whole lost : Bool} → HasTold asked lines host old mid true false
    → StillTells host next → HasTold asked more next mid new whole lost
    → HasTold asked (λ files. lines files ++ more files) host old new whole lost
told-then {asked} {lines} {more} {old = old} {lost = lost} a still b = record {
  front = a.front ++ b.front;
  left = b.left ∙ ap (λ s. left_by lost (put b.front s)) a.left
      ∙ ap (left_by lost) (put-both old a.front b.front);
  later = omega (arith, a.later, b.later);
  part = λ files told. both-fronts a.front b.front (lines files) (more files) asked
      (λ is. a.all refl is files told) (λ is. ((a.unasked is).0, (b.unasked is).0))
      (b.part files (still files told));
  all = λ whole is files told. ap (λ l. l ++ b.front) (a.all refl is files told)
      ∙ ap (λ l. lines files ++ l) (b.all whole is files (still files told));
  unasked = λ is. (λ i. (a.unasked is).0 i ++ (b.unasked is).0 i, (b.unasked is).1);
}

pub told-stop : {asked : Bool} {lines : Files → List ℕ} {host : HostState} {old new : SinkState}
    {whole lost : Bool} (more : Files → List ℕ) → HasTold asked lines host old new whole lost
    → HasTold asked (λ files. lines files ++ more files) host old new false lost
told-stop {lines = lines} more t = record {
  front = t.front;
  left = t.left;
  later = t.later;
  part = λ files told. front-longer t.front (lines files) (more files) (t.part files told);
  all = λ whole. absurd cc;
  unasked = t.unasked;
}
