-- What the steps of judging leave, put together.
use Rattle.std.proofs.Common.{◌≡◌, ◌≢◌, ◌↔◌, ◌⊎◌, inl, inr, ℕ, ℤ, Bool, true, false, ◌&&◌}
use Rattle.std.proofs.Common.{is_some, if◌then◌else◌, List, [], ◌∷◌, ◌++◌, length, Option, Some}
use Rattle.std.proofs.Common.{None, Result, Ok, Err, IfOk, bytes_eq, refl, sym, ap, ◌∙◌}
use Rattle.std.proofs.Common.{arith, ◌+◌, rules}
use Rattle.std.proofs.lemmas.Slice.Eq.{bytes_eq-Decides}
use Rattle.std.proofs.lemmas.List.{append_cancel_left}
use Rattle.rvs_plan.proofs.Sequence.{is_told-Tells}
use Rattle.rvs_base.specs.Faults.{raised}
use Rattle.rvs_base.specs.Host.{Files, HostState, Tells, is_told, ReadsOnly, WritesOnly, MaySpoil}
use Rattle.rvs_base.specs.Host.{Spoils, written, with_file, with_left, run_over, RunsOnly}
use Rattle.rvs_base.specs.Host.{RunsDevice, LeavesRun, ChangesOne, FailsRun}
use Rattle.rvs_base.specs.declared.host.DeviceRun.{DeviceRun}
use Rattle.rvs_base.specs.File.{ReadsAtMost}
use Rattle.rvs_base.proofs.Reading.{ReadsAtMost-none, ReadsAtMost-behind}
use Rattle.rvs_device.specs.Judged.{signature_limit, verdict_on}
use Rattle.rvs_device.specs.Judging.{Task, RanOnce, Later, Judges, Spells, PassesBySpelling}
use Rattle.rvs_device.specs.ReadBack.{ReadsBack}
use Rattle.rvs_device.specs.declared.verdicts.TestVerdict.{TestVerdict}
use Rattle.rvs_device.specs.declared.verdicts.TestVerdict.TheVariants.{Pass}
use Rattle.rvs_device.specs.declared.judging.JudgeFault.{JudgeFault}
use Rattle.rvs_device.specs.declared.judging.JudgeFault.TheVariants.{Write, Run, Read, NoMemory}
use Rattle.rvs_device.proofs.Passing.{passes}

-- ---- files
choice : (b : Bool) (now now' : Option (List ℕ)) (before : Option (List ℕ))
    → (b ≡ true → now ≡ now') → (b ≡ false → now ≡ before) → now ≡ (if b then now' else before)
choice b now now' before here there = grind arith

distinct : (other name : List ℕ) → bytes_eq other name ≡ false → other ≢ name
distinct other name apart is = let here : bytes_eq other name ≡ true =
    (bytes_eq-Decides other name).1 is in cc

-- files that differ at one name at most
with_left-of : (name : List ℕ) (files files' : Files)
    → ((other : List ℕ) → other ≢ name → files' other ≡ files other)
    → files' ≡ with_left name (files' name) files
with_left-of name files files' others = grind (arith, choice, bytes_eq, bytes_eq-Decides, distinct)

chosen_again : (b : Bool) (left mid before : Option (List ℕ))
    → (if b then left else if b then mid else before) ≡ (if b then left else before)
chosen_again b left mid before = grind arith

-- what is left in a file covers what was written there
pub left_over : (name bytes : List ℕ) (left : Option (List ℕ)) (files : Files)
    → with_left name left (with_file name bytes files) ≡ with_left name left files
left_over name bytes left files = grind (arith, chosen_again, bytes_eq)

pub same_name : (name : List ℕ) → bytes_eq name name ≡ true
same_name name = (bytes_eq-Decides name name).1 refl

pub at_name : (name : List ℕ) (left : Option (List ℕ)) (files : Files)
    → with_left name left files name ≡ left
at_name name left files = rw (same_name name) refl

-- ---- what is told
parts_told : (f : Option Files) (r : Option (List ℕ)) (u : Option (List DeviceRun))
    → (is_some f && is_some r && is_some u) ≡ true → (is_some r ≡ true) × (is_some u ≡ true)
parts_told f r u e = grind arith

Tells-told : (h : HostState) (files : Files) → h.files ≡ Some files → is_told h ≡ true
    → Tells h files
Tells-told h files is told = grind (arith, parts_told)

-- ---- counts
Later-start : (h : HostState) → Later h h
Later-start h = grind arith

Later-trans : {a b c : HostState} → Later a b → Later b c → Later a c
Later-trans p q = grind arith

Later-writes : {a b : HostState} → WritesOnly a b → Later a b
Later-writes w = grind arith

Later-runs : {a b : HostState} → RunsOnly a b → Later a b
Later-runs r = grind arith

Later-reads : {a b : HostState} → ReadsOnly a b → Later a b
Later-reads {a} {b} r = grind (arith, is_some)

-- ---- nothing was done
pub same_files : (name : List ℕ) (files : Files) → files ≡ with_left name (files name) files
same_files name files = with_left-of name files files (λ other apart. refl)

pub judges-no_memory : (t : Task) (h : HostState) → Judges t h h (Err NoMemory)
judges-no_memory t h = record {
  later = Later-start h;
  at_most = ReadsAtMost-none (record { openings = refl; taken = refl });
  cause = record { reads = refl; writes = refl; devices = refl };
  some = tt;
  left = λ files runs tells is. inl (record {
    same = is;
    left = tells.files ∙ ap (λ (f : Files). Some f) (same_files t.signature files);
  });
}

-- ---- the write failed
front_of_none : (front rest : List ℕ) → [] ≡ front ++ rest → front ≡ []
front_of_none [] rest e = refl
front_of_none (b ∷ front) rest e = absurd cc

spoilt : (old now : Option (List ℕ)) → (now ≡ old) ⊎ (now ≡ None) ⊎
    ((front : List ℕ) × (rest : List ℕ) × ([] ≡ front ++ rest) × (now ≡ Some front)) → (now ≡ old) ⊎
    (now ≡ None) ⊎ (now ≡ Some [])
spoilt old now h = search (rules, inl, inr, front_of_none)

spoilt_files : (name : List ℕ) (before now : Option Files) (files : Files) → before ≡ Some files
    → MaySpoil name [] before now
    → (files' : Files) × (now ≡ Some files') × Spoils name [] files files'
spoilt_files name before now files is s = grind arith

pub judges-unwritten : (t : Task) (old new : HostState) → WritesOnly old new
    → MaySpoil t.signature [] old.files new.files → new.write_faults ≡ raised old.write_faults
    → Judges t old new (Err Write)
judges-unwritten t old new w s once = record {
  later = Later-writes w;
  at_most = ReadsAtMost-none w.unread;
  cause = λ out. record {
    reads = old.read_faults;
    before = refl;
    once = λ i. record {
      reads = w.reading i;
      writes = once i;
      devices = w.running i;
      output = out.faults;
    };
  };
  some = tt;
  left = λ files runs tells is.
      let now = spoilt_files t.signature old.files new.files files tells.files s in
      let covered = with_left-of t.signature files now.0 now.2.others in (
        now.0 t.signature,
        record {
          same = w.runs ∙ is;
          left = now.1 ∙ ap (λ (f : Files). Some f) covered;
        },
        spoilt (files t.signature) (now.0 t.signature) now.2.spoilt,
      );
}

-- ---- the run failed
changed_files : (name : List ℕ) (before now : Option Files) (files : Files) → before ≡ Some files
    → ChangesOne name before now → (files' : Files) × (now ≡ Some files')
    × ((other : List ℕ) → other ≢ name → files' other ≡ files other)
changed_files name before now files is s = grind arith

-- the files after the empty one was written
emptied : (t : Task) (old mid : HostState) (files : Files)
    → mid.files ≡ written t.signature [] old.files → old.files ≡ Some files
    → mid.files ≡ Some (with_file t.signature [] files)
emptied t old mid files wrote is = wrote ∙ ap (written t.signature []) is

pub judges-not_run : (t : Task) (old mid new : HostState) → WritesOnly old mid
    → mid.files ≡ written t.signature [] old.files → mid.write_faults ≡ old.write_faults
    → RunsOnly mid new → FailsRun t.signature mid new → new.run_faults ≡ raised mid.run_faults
    → Judges t old new (Err Run)
judges-not_run t old mid new w wrote quiet r failed once = record {
  later = Later-trans (Later-writes w) (Later-runs r);
  at_most = ReadsAtMost-behind w.unread (ReadsAtMost-none r.unread);
  cause = λ out. record {
    reads = old.read_faults;
    before = refl;
    once = λ i. record {
      reads = (r.reading ∙ w.reading) i;
      writes = (r.writing ∙ quiet) i;
      devices = (once ∙ ap raised w.running) i;
      output = out.faults;
    };
  };
  some = tt;
  left = λ files runs tells is.
      let before = with_file t.signature [] files in
      let now = changed_files t.signature mid.files new.files before
      (emptied t old mid files wrote tells.files) failed.files in
      let covered = with_left-of t.signature before now.0 now.2
      ∙ left_over t.signature [] (now.0 t.signature) files in (
        now.0 t.signature,
        record {
          same = failed.runs ∙ w.runs ∙ is;
          left = now.1 ∙ ap (λ (f : Files). Some f) covered;
        },
      );
}

-- ---- the run was made
-- what is known of the host after the run
pub record Made (t : Task) (old mid new : HostState) (status : ℤ) : Type 0 where
  pub wrote : WritesOnly old mid
  pub written : mid.files ≡ written t.signature [] old.files
  pub quiet : mid.write_faults ≡ old.write_faults
  pub runs : RunsOnly mid new
  pub ran : RunsDevice t.words t.test t.signature mid new status
  pub done : new.run_faults ≡ mid.run_faults

made-reads : {t : Task} {old mid ran new : HostState} {status : ℤ} → Made t old mid ran status
    → ReadsAtMost 1 (signature_limit + 1) ran new → ReadsAtMost 1 (signature_limit + 1) old new
made-reads m most = ReadsAtMost-behind m.wrote.unread (ReadsAtMost-behind m.runs.unread most)

made-later : {t : Task} {old mid new : HostState} {status : ℤ} → Made t old mid new status
    → Later old new
made-later m = Later-trans (Later-writes m.wrote) (Later-runs m.runs)

-- the run, and the files that it left
made-run : (t : Task) (old mid new : HostState) (status : ℤ) (files : Files) (runs : List DeviceRun)
    → Made t old mid new status → Tells old files → old.runs ≡ Some runs
    → (run : DeviceRun) × RanOnce t files runs new run × (run.status ≡ status)
made-run t old mid new status files runs m tells is =
    let before = with_file t.signature [] files in
    let ran : LeavesRun t.words t.test t.signature before runs new status =
    m.ran before runs (emptied t old mid files m.written tells.files) (m.wrote.runs ∙ is) in (
      run_over t.words t.test t.signature before ran.left status,
      record {
        added = ran.runs_are;
        words = refl;
        test = refl;
        before = rw (same_name t.signature) refl;
        left = ran.files_are ∙ ap (λ (f : Files). Some f) (left_over t.signature [] ran.left files);
      },
      refl,
    )

-- reading changes neither files nor runs
RanOnce-reads : {t : Task} {files : Files} {runs : List DeviceRun} {mid new : HostState}
    {run : DeviceRun} → ReadsOnly mid new → RanOnce t files runs mid run → RanOnce t files runs new
    run
RanOnce-reads r ran = grind arith

-- the verdict is that of what the run left
found-left : (t : Task) (files : Files) (runs : List DeviceRun) (h : HostState) (run : DeviceRun)
    (status : ℤ) (verdict : TestVerdict) → RanOnce t files runs h run → run.status ≡ status
    → is_told h ≡ true → ((files' : Files) → Tells h files'
    → verdict ≡ verdict_on status t.reference (files' t.signature)) → verdict ≡ verdict_on
    run.status t.reference run.after
found-left t files runs h run status verdict ran same told finds =
    finds (with_left t.signature run.after files)
    (Tells-told h (with_left t.signature run.after files) ran.left told)
    ∙ ap (λ (left : Option (List ℕ)). verdict_on status t.reference left)
    (at_name t.signature run.after files)
    ∙ ap (λ (s : ℤ). verdict_on s t.reference run.after) (sym same)

pub judges-read : (t : Task) (old mid ran new : HostState) (status : ℤ)
    (result : Result TestVerdict JudgeFault) → Made t old mid ran status → ReadsBack t.signature
    status t.reference ran new result → Judges t old new result
judges-read t old mid ran new status (Ok verdict) m back = record {
  later = Later-trans (made-later m) (Later-reads back.reads_only);
  at_most = made-reads m back.at_most;
  cause = record {
    reads = λ known. back.comes.counts.reads (elim known [
      | inl told ↦ inl ((made-later m).told ∙ told)
      | inr not ↦ inr not
    ]) ∙ m.runs.reading ∙ m.wrote.reading;
    writes = back.comes.counts.writes ∙ m.runs.writing ∙ m.quiet;
    devices = back.comes.counts.devices ∙ m.done ∙ m.wrote.running;
  };
  some = record {
    status = status;
    found = back.comes.of_some.0;
    is = back.comes.of_some.1;
  };
  left = λ files runs tells is.
      let run = made-run t old mid ran status files runs m tells is in
      let told : is_told ran ≡ true = (made-later m).told ∙ is_told-Tells tells in (
        run.0,
        RanOnce-reads back.reads_only run.1,
        found-left t files runs ran run.0 status verdict run.1 run.2 told back.comes.of_file,
      );
}
judges-read t old mid ran new status (Err Write) m back = absurd back.comes
judges-read t old mid ran new status (Err Run) m back = absurd back.comes
judges-read t old mid ran new status (Err Read) m back = record {
  later = Later-trans (made-later m) (Later-reads back.reads_only);
  at_most = made-reads m back.at_most;
  cause = λ out. record {
    reads = old.read_faults;
    before = refl;
    once = λ i. record {
      reads = (back.comes ∙ ap raised (m.runs.reading ∙ m.wrote.reading)) i;
      writes = (back.reads_only.writing ∙ m.runs.writing ∙ m.quiet) i;
      devices = (back.reads_only.running ∙ m.done ∙ m.wrote.running) i;
      output = out.faults;
    };
  };
  some = tt;
  left = λ files runs tells is. let run = made-run t old mid ran status files runs m tells is in
      (run.0, RanOnce-reads back.reads_only run.1);
}
judges-read t old mid ran new status (Err NoMemory) m back = record {
  later = Later-trans (made-later m) (Later-reads back.reads_only);
  at_most = made-reads m back.at_most;
  cause = record {
    reads = back.comes ∙ m.runs.reading ∙ m.wrote.reading;
    writes = back.reads_only.writing ∙ m.runs.writing ∙ m.quiet;
    devices = back.reads_only.running ∙ m.done ∙ m.wrote.running;
  };
  some = tt;
  left = λ files runs tells is. let run = made-run t old mid ran status files runs m tells is in
      inr (run.0, RanOnce-reads back.reads_only run.1);
}

-- ---- a pass
last_run : (a b : DeviceRun) → a ∷ [] ≡ b ∷ [] → a ≡ b
last_run a b e = cc

same_run : (runs : List DeviceRun) (a b : DeviceRun) (now : Option (List DeviceRun))
    → now ≡ Some (runs ++ a ∷ []) → now ≡ Some (runs ++ b ∷ []) → a ≡ b
same_run runs a b now p q = grind (arith, last_run, append_cancel_left)

passes-by : (t : Task) (verdict : TestVerdict) (a b : DeviceRun) → a ≡ b
    → verdict ≡ verdict_on a.status t.reference a.after
    → (verdict ≡ Pass (length t.reference) b.status) ↔ Spells t b.after
passes-by t verdict a b same is = grind (arith, passes)

judges-passes : (t : Task) (old new : HostState) (verdict : TestVerdict)
    → Judges t old new (Ok verdict) → PassesBySpelling t old new verdict
judges-passes t old new verdict j = λ files runs run tells is added.
    let judged = j.left files runs tells is in
    passes-by t verdict judged.0 run (same_run runs judged.0 run new.runs judged.1.added added)
    judged.2

pub judges-passes-if : (t : Task) (old new : HostState) (result : Result TestVerdict JudgeFault)
    → Judges t old new result → IfOk result (PassesBySpelling t old new)
judges-passes-if t old new (Ok verdict) j = judges-passes t old new verdict j
judges-passes-if t old new (Err fault) j = tt
