-- What every call of `reference` promises.
use Rattle.std.proofs.Common.{◌≡◌, ℕ, Bool, false, List, length, Option, Some}
use Rattle.std.proofs.Common.{Result, Ok, if◌then◌else◌}
use Rattle.std.proofs.Common.{sym, ap, ◌∙◌, arith, rules}
use Rattle.rvs_base.specs.Host.{Files, with_file}
use Rattle.rvs_base.specs.Sink.{appended}
use Rattle.rvs_plan.specs.Plan.{Plan, followed, ◌>>=◌}
use Rattle.rvs_plan.specs.World.{Contents, contents, IsFault}
use Rattle.rvs_plan.specs.declared.stop.Stop.{Stop}
use Rattle.rvs_plan.specs.declared.status.Finish.TheVariants as finish
use Rattle.rvs_insn.specs.Isa.{Isa}
use Rattle.rvs_machine.specs.Image.{ImageValue}
use Rattle.rvs_asm.specs.declared.refusal.AsmRefusal.{AsmRefusal}
use Rattle.rvs_asm.proofs.Answered.{answered_stands}
use Rattle.rvs_sig.specs.Words.{text_of_words}
use Rattle.rvs_promises.specs.Answered.{OnDone}
use Rattle.rvs_promises.specs.Call.{Call, world_of}
use Rattle.rvs_inputs.specs.GroupFiles.{and_then}
use Rattle.rvs_promises.specs.Halting.{BothHalt, TextHalts, with_log}
use Rattle.rvs_reference.specs.Reference.{trial, records, reference}
use Rattle.rvs_promises.specs.Referencing as referencing
use Rattle.rvs_promises.specs.Referencing.{trial_in, run_in}
use Rattle.rvs_inputs.specs.Specification.{specification}
use Rattle.rvs_reference.specs.TestRun.{NamesText, accepted, found_end, test_found}
use Rattle.rvs_reference.specs.TestRun.{text_found}
use Rattle.rvs_reference.specs.TestTexts.{ran_line}
use Rattle.rvs_reference.specs.declared.test_run.Run.{Run}
use Rattle.rvs_promises.proofs.Answered.{Works, RunsOn, answered}
use Rattle.rvs_inputs.proofs.Finding.{Finds, Deeds, left}
use Rattle.rvs_inputs.proofs.GroupInputs.{finds-specification, finds-and_then}
use Rattle.rvs_promises.proofs.Meanings.{both-halt}
use Rattle.rvs_inputs.proofs.Chains.{then-then}
use Rattle.rvs_promises.proofs.Sparing.{reference-spares}
use Rattle.rvs_words.specs.declared.command.ReferenceArguments.{ReferenceArguments}

abbrev run_inputs : List ℕ → List ℕ → Option ℕ → Plan Run
run_inputs isa test steps = specification isa >>= (λ said. trial steps said.spec test)

-- ---- what is read
found-run : (files : Files) (steps : Option ℕ) (isa : Isa) (test : List ℕ)
    (bytes : Result (List ℕ) Stop)
    → Finds files (followed bytes (λ b. accepted (test_found steps isa test b)))
    (and_then bytes (λ b. found_end (test_found steps isa test b)))
found-run files steps isa test bytes = grind arith

finds-trial : (files : Files) (steps : Option ℕ) (isa : Isa) (test : List ℕ)
    → Finds files (trial steps isa test) (trial_in files steps isa test)
finds-trial files steps isa test = grind (arith, found-run)

finds-run : (files : Files) (isa test : List ℕ) (steps : Option ℕ)
    → Finds files (run_inputs isa test steps) (run_in files isa test steps)
finds-run files isa test steps = grind (arith, finds-and_then, finds-specification, finds-trial)

-- ---- what is left
does-records : (signature : List ℕ) (log : Option (List ℕ)) (run : Run)
    → Deeds finish.Done (records signature log run)
does-records signature log run = grind arith

files-recorded : (files : Files) (c : Contents) (signature : List ℕ) (log : Option (List ℕ))
    (run : Run) → c.files ≡ Some files → (left (records signature log run) c).files
    ≡ Some (with_log log run.trace (with_file signature (text_of_words run.words) files))
files-recorded files c signature log run e = grind arith

out-recorded : (c : Contents) (signature : List ℕ) (log : Option (List ℕ)) (run : Run)
    → (left (records signature log run) c).out
    ≡ appended c.out (ran_line (length run.trace) (length run.words))
out-recorded c signature log run = grind arith

abbrev works : (files : Files) (asked : ReferenceArguments)
    → Works (reference asked) files (run_in files asked.isa asked.test asked.steps)
works files asked = record {
  inputs = run_inputs asked.isa asked.test asked.steps;
  deeds = records asked.signature asked.log;
  ends = λ _. finish.Done;
  plan =
      sym (then-then (specification asked.isa) (λ said. trial asked.steps said.spec asked.test)
      (records asked.signature asked.log));
  finds = finds-run files asked.isa asked.test asked.steps;
  does = does-records asked.signature asked.log;
}

-- the image of a text stands to it
text-found : (i e : Bool) (name : List ℕ) (image : ImageValue)
    (file elf : Result ImageValue (List ℕ))
    (text : Result ImageValue AsmRefusal) → i ≡ false → e ≡ false
    → (if i then file else (if e then elf else text_found name text)) ≡ Ok image
    → text ≡ Ok image
text-found i e name image file elf text p q is = grind arith

text-halts : (files : Files) (isa test : List ℕ) (steps : Option ℕ) (run : Run) → NamesText test
    → BothHalt files isa test steps run → TextHalts files isa test steps run
text-halts files isa test steps run named both = search (rules, answered_stands, text-found)

pub refers : {call : Call} (files : Files) (asked : ReferenceArguments)
    → RunsOn call files IsFault (reference asked)
    → referencing.Refers call files asked
refers {call} files asked r = record {
  answered = answered (OnDone (referencing.HasRecorded call files asked.signature asked.log)) r
      (works files asked) (λ run is. record {
        files_are = ap (λ (c : Contents). c.files) is
            ∙ files-recorded files (contents
            (world_of call.old)) asked.signature asked.log run r.told.files;
        printed = ap (λ (c : Contents). c.out) is
            ∙ out-recorded (contents (world_of call.old)) asked.signature asked.log run;
      });
  assembled = λ run is named.
      text-halts files asked.isa asked.test asked.steps run named
      (both-halt files asked.isa asked.test asked.steps run is);
  others_kept = λ files' other. reference-spares asked r.ran files files' other r.told;
}
