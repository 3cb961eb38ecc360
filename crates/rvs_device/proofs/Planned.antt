-- Judging meets its plan.
use Rattle.std.proofs.Common.{◌≡◌, ◌≢◌, ◌⊎◌, inl, inr, ℕ, Bool, true, false, is_some, if◌then◌else◌}
use Rattle.std.proofs.Common.{List, [], ◌∷◌, Option, Some, None, Result, Ok, Err, IfErr}
use Rattle.std.proofs.Common.{bytes_eq, refl, sym, ap, ◌∙◌, ◌+◌, pos, arith, rules}
use Rattle.rvs_base.specs.Host.{Files, HostState, Tells, is_told, MaySpoil, written}
use Rattle.rvs_base.specs.Host.{with_file}
use Rattle.rvs_base.specs.Host.{with_left, run_over, ChangesOne}
use Rattle.rvs_base.specs.declared.host.DeviceRun.{DeviceRun}
use Rattle.rvs_base.specs.File.{ReadsAtMost}
use Rattle.rvs_base.specs.Sink.{SinkState}
use Rattle.rvs_plan.specs.World.{contents, world, IsFault, IsAnswer, Reading}
use Rattle.rvs_plan.specs.World.{Writing, Running}
use Rattle.rvs_plan.specs.World as plan
use Rattle.rvs_plan.specs.Effect.{Answer, Write, Effect, Read, Device, Did, after, left_by}
use Rattle.rvs_plan.specs.Effect.{run_added}
use Rattle.rvs_plan.specs.Plan.{Plan, Ends}
use Rattle.rvs_plan.specs.Reads.{ReadsOnWay, ReadsThrough, ReadsFor}
use Rattle.rvs_plan.proofs.Amounts.{IsUnread-same}
use Rattle.rvs_plan.specs.Meets.{Reaches, Follows, HasCause, NoFault, MeetsWith}
use Rattle.rvs_plan.proofs.Reaching.{Reaches-start}
use Rattle.rvs_plan.proofs.Sequence.{LaterSink-start, FirstFault-weaker, FirstFault-rose}
use Rattle.rvs_plan.proofs.Sequence.{told-Tells, is_told-Tells}
use Rattle.rvs_device.specs.Judged.{signature_limit, verdict_on}
use Rattle.rvs_device.specs.Judging.{Task, RanOnce, RanNone, Left, Judges}
use Rattle.rvs_device.specs.Plans.{judged, read_back, run_and_read, stopped}
use Rattle.rvs_device.specs.declared.verdicts.TestVerdict.{TestVerdict}
use Rattle.rvs_device.specs.declared.judging.JudgeFault.{JudgeFault}
use Rattle.rvs_device.specs.declared.judging.JudgeFault.TheVariants as fault
use Rattle.rvs_device.proofs.Leaving.{left_over, at_name, same_files, same_name}

-- ---- the effects that were done
abbrev emptying : Task → Effect
emptying t = Did (Write t.signature [])

abbrev answer_of : DeviceRun → Answer
answer_of run = record { left = run.after; status = run.status }

abbrev running : Task → DeviceRun → Effect
running t run = Device t.words t.test t.signature (answer_of run)

run_is : (t : Task) (files : Files) (runs : List DeviceRun) (new : HostState) (run : DeviceRun)
    → RanOnce t files runs new run → run
    ≡ run_over t.words t.test t.signature (with_file t.signature [] files) run.after run.status
run_is t files runs new run ran = grind (arith, same_name)

files_did : (t : Task) (files : Files) (runs : List DeviceRun) (old new : HostState)
    (run : DeviceRun) → old.files ≡ Some files → RanOnce t files runs new run → new.files ≡ left_by
    t.signature (answer_of run) (written t.signature [] old.files)
files_did t files runs old new run is ran = grind (arith, left_over)

runs_did : (t : Task) (files : Files) (runs : List DeviceRun) (old new : HostState)
    (run : DeviceRun) → old.files ≡ Some files → old.runs ≡ Some runs → RanOnce t files runs new run
    → new.runs ≡ run_added t.words t.test t.signature (answer_of run)
    (written t.signature [] old.files) old.runs
runs_did t files runs old new run is before ran = search (rules, run_is)

ran_did : (t : Task) (out : SinkState) (files : Files) (runs : List DeviceRun) (old new : HostState)
    (run : DeviceRun) → old.files ≡ Some files → old.runs ≡ Some runs → RanOnce t files runs new run
    → contents (world new out) ≡ after (emptying t ∷ running t run ∷ []) (contents (world old out))
ran_did t out files runs old new run is before ran = search (rules, files_did, runs_did)

-- the run was made, and its file isn't read yet
ran_reaches : (t : Task) (out : SinkState) (files : Files) (runs : List DeviceRun)
    (old new : HostState) (run : DeviceRun) → old.files ≡ Some files → old.runs ≡ Some runs
    → RanOnce t files runs new run
    → Reaches (judged t) (read_back t run.status) (contents (world old out))
    (contents (world new out))
ran_reaches t out files runs old new run is before ran = record {
  effects = emptying t ∷ running t run ∷ [];
  goes = (refl, (refl, refl, refl, refl));
  saw = (tt, (tt, tt));
  did = ran_did t out files runs old new run is before ran;
}

-- what the file then holds is what the run left
read_left : (t : Task) (files : Files) (run : DeviceRun) (before : Option Files) (files' : Files)
    → before ≡ Some files
    → left_by t.signature (answer_of run) (written t.signature [] before) ≡ Some files'
    → files' t.signature ≡ run.after
read_left t files run before files' is e = search rules

judged_reaches : (t : Task) (out : SinkState) (files : Files) (runs : List DeviceRun)
    (old new : HostState) (run : DeviceRun) (verdict : TestVerdict) → old.files ≡ Some files
    → old.runs ≡ Some runs → RanOnce t files runs new run
    → verdict ≡ verdict_on run.status t.reference run.after → Reaches (judged t) (Ends (Ok verdict))
    (contents (world old out)) (contents (world new out))
judged_reaches t out files runs old new run verdict is before ran e = record {
  effects = emptying t ∷ running t run ∷ Read t.signature run.after ∷ [];
  goes = (refl, (refl, refl, refl, (refl, ap (λ (v : TestVerdict). Ends (Ok v)) (sym e))));
  saw = (tt, (tt, ((λ files' e'. read_left t files run old.files files' is e'), tt)));
  did = ran_did t out files runs old new run is before ran;
}

-- ---- files of which one alone may have changed
elsewhere : (b : Bool) (left before : Option (List ℕ)) → b ≡ false
    → (if b then left else before) ≡ before
elsewhere b left before e = rw e refl

unnamed : (b : Bool) (other name : List ℕ) → bytes_eq other name ≡ b → other ≢ name → b ≡ false
unnamed b other name e apart = search rules

others_kept : (name : List ℕ) (left : Option (List ℕ)) (files : Files) (other : List ℕ)
    → other ≢ name → with_left name left files other ≡ files other
others_kept name left files other apart = grind (arith, elsewhere, bytes_eq, unnamed)

may_spoil : (t : Task) (files : Files) (before now : Option Files) (left : Option (List ℕ))
    → before ≡ Some files → now ≡ Some (with_left t.signature left files)
    → (left ≡ files t.signature) ⊎ (left ≡ None) ⊎ (left ≡ Some [])
    → MaySpoil t.signature [] before now
may_spoil t files before now left is now_is how = grind (arith, at_name, others_kept, inl, inr)

changes_one : (t : Task) (files : Files) (before now : Option Files) (left : Option (List ℕ))
    → before ≡ Some files → now ≡ Some (with_left t.signature left files)
    → ChangesOne t.signature (written t.signature [] before) now
changes_one t files before now left is now_is = grind (arith, others_kept)

-- nothing was done
kept : (t : Task) (out : SinkState) (files : Files) (runs : List DeviceRun) (old new : HostState)
    → old.files ≡ Some files → old.runs ≡ Some runs → RanNone t files runs new (files t.signature)
    → contents (world new out) ≡ contents (world old out)
kept t out files runs old new is before none = search (rules, same_files)

-- ---- by the result
follows : (t : Task) (out : SinkState) (files : Files) (runs : List DeviceRun) (old new : HostState)
    (result : Result TestVerdict JudgeFault) → old.files ≡ Some files → old.runs ≡ Some runs → Left
    t files runs new result
    → Follows (judged t) (contents (world old out)) (contents (world new out)) (stopped t result)
follows t out files runs old new (Ok verdict) is before left = search (rules, judged_reaches)
follows t out files runs old new (Err fault.Write) is before left = (
  [],
  record {
    rest = run_and_read t;
    before = contents (world old out);
    reaches = Reaches-start (judged t) (contents (world old out));
    broke = record {
      files = may_spoil t files old.files new.files left.0 is left.1.left left.2;
      runs = left.1.same ∙ sym before;
      out = refl;
    };
  },
)
follows t out files runs old new (Err fault.Run) is before left = record {
  words = t.words;
  signature = t.signature;
  next = λ answer. read_back t answer.status;
  before = after (emptying t ∷ []) (contents (world old out));
  reaches = record { effects = emptying t ∷ []; goes = (refl, refl); saw = (tt, tt); did = refl };
  broke = record {
    files = changes_one t files old.files new.files left.0 is left.1.left;
    runs = left.1.same ∙ sym before;
    out = refl;
  };
}
follows t out files runs old new (Err fault.Read) is before left = record {
  bound = signature_limit + 1;
  next = λ found. Ends (Ok (verdict_on left.0.status t.reference found));
  reaches = ran_reaches t out files runs old new left.0 is before left.1;
}
follows t out files runs old new (Err fault.NoMemory) is before (inl none) = (
  judged t,
  record {
    effects = [];
    goes = refl;
    saw = tt;
    did = kept t out files runs old new is before none;
  },
)
follows t out files runs old new (Err fault.NoMemory) is before (inr ran) =
    (read_back t ran.0.status, ran_reaches t out files runs old new ran.0 is before ran.1)

told_runs : (r : Option (List DeviceRun)) → is_some r ≡ true
    → (runs : List DeviceRun) × (r ≡ Some runs)
told_runs r e = grind arith

-- what was done over told files is by the plan
judged-follows : (t : Task) (out : SinkState) (old new : HostState)
    (result : Result TestVerdict JudgeFault) → Judges t old new result
    → (files : Files) → Tells old files → Follows (judged t) (contents (world old out))
    (contents (world new out)) (stopped t result)
judged-follows t out old new result j files tells =
    let runs = told_runs old.runs tells.runs in
    follows t out files runs.0 old new result tells.files runs.1 (j.left files runs.0 tells runs.1)

-- no count fell
judged-later : (t : Task) (out : SinkState) (old new : HostState)
    (result : Result TestVerdict JudgeFault) → Judges t old new result → plan.Later (world old out)
    (world new out)
judged-later t out old new result j = record {
  reads = j.later.reads;
  writes = j.later.writes;
  devices = j.later.devices;
  told = j.later.told;
  output = LaterSink-start out;
}

-- the cause of a stop
judged-cause : (t : Task) (out : SinkState) (old new : HostState)
    (result : Result TestVerdict JudgeFault) → Judges t old new result → IfErr (stopped t result)
    (HasCause (world old out) (world new out))
judged-cause t out old new (Ok verdict) j = tt
judged-cause t out old new (Err fault.Write) j =
    FirstFault-rose IsFault Writing (world old out) (world new out) (j.cause out)
judged-cause t out old new (Err fault.Run) j =
    FirstFault-rose IsFault Running (world old out) (world new out) (j.cause out)
judged-cause t out old new (Err fault.Read) j =
    FirstFault-rose IsFault Reading (world old out) (world new out) (j.cause out)
judged-cause t out old new (Err fault.NoMemory) j = tt

-- nothing failed but what a stop tells of, and perhaps that there is no signature file on a host
-- that isn't told
judged-unfaulted : (t : Task) (out : SinkState) (old new : HostState)
    (result : Result TestVerdict JudgeFault) → Judges t old new result → NoFault IsAnswer
    (world old out) (world new out) (stopped t result)
judged-unfaulted t out old new (Ok verdict) j = grind (arith, inl)
judged-unfaulted t out old new (Err fault.Write) j =
    FirstFault-weaker Writing (world old out) (world new out) (j.cause out)
judged-unfaulted t out old new (Err fault.Run) j =
    FirstFault-weaker Running (world old out) (world new out) (j.cause out)
judged-unfaulted t out old new (Err fault.Read) j =
    FirstFault-weaker Reading (world old out) (world new out) (j.cause out)
judged-unfaulted t out old new (Err fault.NoMemory) j = grind arith

-- ---- what was read
-- what a device left is what its file then holds
left-back : (t : Task) (answer : Answer) (before : Option Files) (files' : Files)
    → left_by t.signature answer (written t.signature [] before) ≡ Some files'
    → files' t.signature ≡ answer.left
left-back t answer before files' e = search rules

-- judging goes this way where the device answers so
way : (t : Task) (out : SinkState) {old new : HostState} {rest : Plan TestVerdict}
    (answer : Answer) → Ends (Ok (verdict_on answer.status t.reference answer.left)) ≡ rest
    → ReadsAtMost 1 (signature_limit + 1) old new
    → ReadsOnWay (judged t) rest (world old out) (world new out)
way t out {old} {new} answer e most = record {
  effects =
      emptying t ∷ Device t.words t.test t.signature answer ∷ Read t.signature answer.left ∷ [];
  goes = (refl, (refl, refl, refl, (refl, e)));
  saw = λ files tells. (tt, (tt, (left-back t answer old.files, tt)));
  reads = (new, most, IsUnread-same);
}

-- it was gone to its end: where files are told by the run that was made
through : (t : Task) (out : SinkState) (old new : HostState) (verdict : TestVerdict)
    → Judges t old new (Ok verdict)
    → ReadsThrough (judged t) verdict (world old out) (world new out)
unfolding way
through t out old new verdict j = by-told (is_told old) refl
  where
    end : (answer : Answer) → verdict ≡ verdict_on answer.status t.reference answer.left
        → Ends (Ok (verdict_on answer.status t.reference answer.left)) ≡ Ends (Ok verdict)
    end answer is = ap (λ (v : TestVerdict). Ends (Ok v)) (sym is)

    by-told : (b : Bool) → is_told old ≡ b
        → ReadsThrough (judged t) verdict (world old out) (world new out)
    by-told true is =
        let told = told-Tells old is in
        let runs = told_runs old.runs told.1.runs in
        let left = j.left told.0 runs.0 told.1 runs.1 in
        record {
          way = way t out (answer_of left.0) (end (answer_of left.0) left.2) j.at_most;
          did = λ files tells.
              ran_did t out told.0 runs.0 old new left.0 told.1.files runs.1 left.1;
        }
    by-told false is =
        let answer : Answer = record { left = j.some.found; status = j.some.status } in
        record {
          way = way t out answer (end answer j.some.is) j.at_most;
          did = λ files tells. let no : true ≡ false = sym (is_told-Tells tells) ∙ is in absurd cc;
        }

judged-reading : (t : Task) (out : SinkState) (old new : HostState)
    (result : Result TestVerdict JudgeFault) → Judges t old new result
    → ReadsFor (judged t) (world old out) (world new out) (stopped t result)
judged-reading t out old new (Ok verdict) j = through t out old new verdict j
judged-reading t out old new (Err fault) j =
    (_, way t out (record { left = None; status = pos 0 }) refl j.at_most)

pub Meets-judged : (t : Task) (out : SinkState) (old new : HostState)
    (result : Result TestVerdict JudgeFault) → Judges t old new result → MeetsWith IsAnswer
    (judged t) (world old out) (world new out) (stopped t result)
Meets-judged t out old new result j =
    search (rules, judged-later, judged-cause, judged-unfaulted, judged-follows, judged-reading)
