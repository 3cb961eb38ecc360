-- What every call of `reference` promises, in the words of its files.
use Rattle.std.proofs.Common.{◌≡◌, inl, inr, ℕ, List, Option, Result, Ok, Err, None, sym}
use Rattle.std.proofs.Common.{ap, subst, ◌∙◌}
use Rattle.rvs_base.specs.Host.{Files, Tells}
use Rattle.rvs_base.specs.Sink.{SinkState}
use Rattle.rvs_plan.specs.Inputs.{part_end}
use Rattle.rvs_plan.specs.World.{Contents, contents}
use Rattle.rvs_plan.specs.declared.status.Status.TheVariants as answer
use Rattle.rvs_plan.specs.declared.stop.Stop.{Stop}
use Rattle.rvs_plan.specs.declared.stop.Stop.TheVariants.{Refused, NoFile}
use Rattle.rvs_plan.proofs.FoundInputs.{found-none, found-whole}
use Rattle.rvs_insn.specs.Isa.{Isa}
use Rattle.rvs_isa.specs.declared.accepted_spec.AcceptedSpec.{AcceptedSpec}
use Rattle.rvs_promises.specs.Call.{Call, Asks, world_of}
use Rattle.rvs_inputs.specs.GroupFiles.{and_then}
use Rattle.rvs_promises.specs.Halting.{TestHalts, BothHalt}
use Rattle.rvs_suite.specs.Planned as planned
use Rattle.rvs_suite.specs.Plans.{ReadsFirst}
use Rattle.rvs_promises.specs.Progressing.{asks_progress, behind}
use Rattle.rvs_reference.specs.Reference.{test_limit}
use Rattle.rvs_promises.specs.Referencing as suite
use Rattle.rvs_promises.specs.Referencing.{trial_in, run_in}
use Rattle.rvs_inputs.specs.Specification.{said_in}
use Rattle.rvs_reference.specs.TestRun.{found_end, test_found}
use Rattle.rvs_reference.specs.declared.test_run.Run.{Run}
use Rattle.rvs_promises.proofs.LogEntries.{halting_entries}
use Rattle.rvs_promises.proofs.Meanings.{then-err, whole-of, says-of, both-halt}
use Rattle.rvs_promises.proofs.TestEnds.{found-TestHalts}
use Rattle.rvs_words.specs.declared.command.Command.TheVariants.{Reference}
use Rattle.rvs_uses.specs.Halting.{IsTestRefused, FirstRefused, FirstMissing}
use Rattle.rvs_uses.specs.Laws.{RefersToFiles}
use Rattle.rvs_uses.specs.Referencing as referencing
use Rattle.rvs_uses.proofs.Files.{long-of, none-of, long-in, says-in, isa-refused-in}
use Rattle.rvs_uses.proofs.Files.{isa-refused-of, isa-absent-in, isa-absent-of, only-done}
use Rattle.rvs_words.specs.declared.command.ReferenceArguments.{ReferenceArguments}

abbrev run_of_bytes : Option ℕ → Isa → List ℕ → List ℕ → Result Run Stop
run_of_bytes steps isa test bytes = found_end (test_found steps isa test bytes)

abbrev trial_of : Files → Option ℕ → List ℕ → AcceptedSpec → Result Run Stop
trial_of files steps test said = trial_in files steps said.spec test

-- ---- the test
halts-in : (files : Files) (steps : Option ℕ) (isa : Isa) (test : List ℕ) (run : Run)
    → TestHalts files isa test steps run → trial_in files steps isa test ≡ Ok run
halts-in files steps isa test run h =
    ap (λ (e : Result (List ℕ) Stop). and_then e (run_of_bytes steps isa test))
    (found-whole test_limit files test h.bytes h.there h.within)
    ∙ ap found_end (found-TestHalts files isa test steps run h)

text-of : {A : Type 0} (r : Result A (List ℕ)) (text : List ℕ)
    → found_end r ≡ Err (Refused text) → r ≡ Err text
text-of (Ok a) text is = absurd cc
text-of {A} (Err t) text is =
    let e : Err (Refused t) ≡ Err (Refused text) = is in
    let same : t ≡ text = cc in ap (λ (x : List ℕ). Err x) same

never-found : {A : Type 0} (r : Result A (List ℕ)) (n : List ℕ)
    → found_end r ≡ Err (NoFile n) → ⊥
never-found (Ok a) n is = cc
never-found (Err t) n is = cc

trial-refused-of : (files : Files) (steps : Option ℕ) (isa : Isa) (test text : List ℕ)
    → trial_in files steps isa test ≡ Err (Refused text) → IsTestRefused files isa test steps text
trial-refused-of files steps isa test text is =
    elim (then-err (part_end test_limit test test test_limit (files test))
    (run_of_bytes steps isa test) (Refused text) is) [
      | inl e ↦
          (let l = long-of test_limit test (files test) text e in
          record { bytes = l.bytes; there = l.there; reason = inl l.long })
      | inr t ↦
          (let p = whole-of test_limit test (files test) t.0 t.1 in
          record {
            bytes = t.0;
            there = p.0;
            reason = inr (record {
              within = p.1;
              found = text-of (test_found steps isa test t.0) text t.2;
            });
          })
    ]

trial-refused-in : (files : Files) (steps : Option ℕ) (isa : Isa) (test text : List ℕ)
    → IsTestRefused files isa test steps text → trial_in files steps isa test ≡ Err (Refused text)
trial-refused-in files steps isa test text r = elim r.reason [
  | inl long ↦ ap (λ (e : Result (List ℕ) Stop). and_then e (run_of_bytes steps isa test))
      (long-in test_limit files test r.bytes text r.there long)
  | inr fails ↦ ap (λ (e : Result (List ℕ) Stop). and_then e (run_of_bytes steps isa test))
      (found-whole test_limit files test r.bytes r.there fails.within)
      ∙ ap found_end fails.found
]

trial-absent-of : (files : Files) (steps : Option ℕ) (isa : Isa) (test n : List ℕ)
    → trial_in files steps isa test ≡ Err (NoFile n) → (n ≡ test) × (files test ≡ None)
trial-absent-of files steps isa test n is =
    elim (then-err (part_end test_limit test test test_limit (files test))
    (run_of_bytes steps isa test) (NoFile n) is) [
      | inl e ↦ none-of test_limit test (files test) n e
      | inr t ↦ absurd (never-found (test_found steps isa test t.0) n t.2)
    ]

trial-absent-in : (files : Files) (steps : Option ℕ) (isa : Isa) (test : List ℕ)
    → files test ≡ None → trial_in files steps isa test ≡ Err (NoFile test)
trial-absent-in files steps isa test none =
    ap (λ (e : Result (List ℕ) Stop). and_then e (run_of_bytes steps isa test))
    (found-none test_limit files test none)

-- ---- both files
both-in : (files : Files) (isa test : List ℕ) (steps : Option ℕ) (run : Run)
    → BothHalt files isa test steps run → run_in files isa test steps ≡ Ok run
both-in files isa test steps run b =
    ap (λ (e : Result AcceptedSpec Stop). and_then e (trial_of files steps test))
    (says-in files isa b.said b.says)
    ∙ halts-in files steps b.said.spec test run b.test_halts

first-refused-of : (files : Files) (isa test : List ℕ) (steps : Option ℕ) (text : List ℕ)
    → run_in files isa test steps ≡ Err (Refused text) → FirstRefused files isa test steps text
first-refused-of files isa test steps text is =
    elim (then-err (said_in files isa) (trial_of files steps test) (Refused text) is) [
      | inl e ↦ inl (isa-refused-of files isa text e)
      | inr s ↦ inr (
        s.0,
        says-of files isa s.0 s.1,
        trial-refused-of files steps s.0.spec test text s.2,
      )
    ]

first-refused-in : (files : Files) (isa test : List ℕ) (steps : Option ℕ) (text : List ℕ)
    → FirstRefused files isa test steps text → run_in files isa test steps ≡ Err (Refused text)
first-refused-in files isa test steps text (inl r) =
    ap (λ (e : Result AcceptedSpec Stop). and_then e (trial_of files steps test))
    (isa-refused-in files isa text r)
first-refused-in files isa test steps text (inr r) =
    ap (λ (e : Result AcceptedSpec Stop). and_then e (trial_of files steps test))
    (says-in files isa r.0 r.1)
    ∙ trial-refused-in files steps r.0.spec test text r.2

first-missing-of : (files : Files) (isa test : List ℕ) (steps : Option ℕ) (name : List ℕ)
    → run_in files isa test steps ≡ Err (NoFile name) → FirstMissing files isa test name
first-missing-of files isa test steps name is =
    elim (then-err (said_in files isa) (trial_of files steps test) (NoFile name) is) [
      | inl e ↦ inl (isa-absent-of files isa name e)
      | inr s ↦
          (let a = trial-absent-of files steps s.0.spec test name s.2 in
          inr (s.0, says-of files isa s.0 s.1, a.0, a.1))
    ]

first-missing-in : (files : Files) (isa test : List ℕ) (steps : Option ℕ) (name : List ℕ)
    → FirstMissing files isa test name → run_in files isa test steps ≡ Err (NoFile name)
first-missing-in files isa test steps name (inl m) =
    ap (λ (e : Result AcceptedSpec Stop). and_then e (trial_of files steps test))
    (isa-absent-in files isa m.1)
    ∙ ap (λ (n : List ℕ). Err (NoFile n)) (sym m.0)
first-missing-in files isa test steps name (inr m) =
    ap (λ (e : Result AcceptedSpec Stop). and_then e (trial_of files steps test))
    (says-in files isa m.0 m.1)
    ∙ trial-absent-in files steps m.0.spec test m.3
    ∙ ap (λ (n : List ℕ). Err (NoFile n)) (sym m.2)

-- ---- the promise
refers-of : (call : Call) (files : Files) (asked : ReferenceArguments) → Tells call.old.host files
    → Asks call (Reference asked) → planned.Follows call files
    → suite.Refers call files asked
    → referencing.Refers call files asked
refers-of call files asked told asks f n = record {
  done = λ is.
      let h = n.answered.done is in
      let left : suite.HasRecorded call files asked.signature asked.log h.given = h.left in
      record {
        run = h.given;
        both = both-halt files asked.isa asked.test asked.steps h.given h.accepted;
        files_are = left.files_are;
        printed = left.printed;
      };
  no_verdict = λ is. (n.answered.not_passed is).left;
  by_inputs = λ run both none.
      only-done (n.answered.by_inputs run
      (both-in files asked.isa asked.test asked.steps run both) none)
      (λ is. (n.answered.not_passed is).left);
  logged = λ run both octets.
      halting_entries files asked.isa asked.test asked.steps run both octets;
  refused = λ is.
      let h = n.answered.refused is in
      record {
        text = h.text;
        reason = first-refused-of files asked.isa asked.test asked.steps h.text h.refused;
        line = h.line;
      };
  refused_files = λ is. ap (λ (c : Contents). c.files) (kept is) ∙ told.files;
  refused_output = λ is. ap (λ (c : Contents). c.out) (kept is);
  by_refusal = λ text first none.
      n.answered.by_refusal text
      (first-refused-in files asked.isa asked.test asked.steps text first) none;
  absent = λ is. elim (n.answered.absent is) [
    | inl m ↦ inl (record {
      name = m.name;
      absent = first-missing-of files asked.isa asked.test asked.steps m.name m.absent;
      line = m.line;
    })
    | inr rose ↦ inr rose
  ];
  by_absence = λ name first none.
      n.answered.by_absence name
      (first-missing-in files asked.isa asked.test asked.steps name first) none;
  others_kept = n.others_kept;
}
  where
    kept : call.status ≡ answer.Refused
        → contents (world_of call.new) ≡ contents (world_of call.old)
    kept is =
        let first : ReadsFirst (Reference asked) = tt in
        f.untouched (subst ReadsFirst (sym asks) first) (inr is)

pub refers-to-files : RefersToFiles
refers-to-files call p files asked told asks =
    refers-of call files asked told asks
    (subst (λ (sink : SinkState). planned.Follows (behind call sink) files)
    (p.progress.unasked (ap asks_progress asks)) (p.planned files told))
    (p.reference files asked told asks)
