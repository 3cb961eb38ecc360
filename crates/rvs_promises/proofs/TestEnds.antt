-- A test whose run is found halts, and the run of one that halts is found.
use Rattle.std.proofs.Common.{◌≡◌, ◌≤◌, ℕ, List, length, Option, Some, Result, Ok, Err, refl, sym}
use Rattle.std.proofs.Common.{ap, ◌∙◌, arith}
use Rattle.rvs_base.specs.Host.{Files}
use Rattle.rvs_insn.specs.Isa.{Isa}
use Rattle.rvs_machine.specs.Image.{ImageValue}
use Rattle.rvs_machine.specs.Machine.{State, started}
use Rattle.rvs_machine.specs.Run.{Outcome, run_of}
use Rattle.rvs_machine.specs.declared.event.Executed.{Executed}
use Rattle.rvs_machine.specs.declared.event.End.{End}
use Rattle.rvs_reference.specs.TestRun.{then_found, image_found, limit_of, left_by, run_end}
use Rattle.rvs_reference.specs.TestRun.{outcome_end, run_found, test_found}
use Rattle.rvs_reference.specs.Reference.{test_limit}
use Rattle.rvs_promises.specs.Halting.{Halts, TestHalts}
use Rattle.rvs_reference.specs.declared.test_run.Run.{Run}

halts_by : (name : List ℕ) (limit : ℕ) (isa : Isa) (image : ImageValue) (trace : List Executed)
    (state : State) (end : End) (run : Run) → run_of (started image isa).setup limit
    (started image isa).state ≡ record {
      trace = trace;
      state = state;
      end = end;
    } → run_end name limit (left_by (started image isa).setup (record {
      trace = trace;
      state = state;
      end = end;
    })) end ≡ Ok run → Halts isa limit image run
halts_by name limit isa image trace state end run is found = grind arith

-- an image of which a run is found halts
Halts-found : (name : List ℕ) (limit : ℕ) (isa : Isa) (image : ImageValue) (run : Run)
    → run_found name limit isa image ≡ Ok run → Halts isa limit image run
unfolding run_found
Halts-found name limit isa image run found =
    let o = run_of (started image isa).setup limit (started image isa).state in
    halts_by name limit isa image o.trace o.state o.end run refl found

-- the run of an image that halts is found
found-Halts : (name : List ℕ) (limit : ℕ) (isa : Isa) (image : ImageValue) (run : Run)
    → Halts isa limit image run → run_found name limit isa image ≡ Ok run
unfolding run_found
found-Halts name limit isa image run h =
    ap (λ (o : Outcome). outcome_end name limit (started image isa).setup o) h.halts
    ∙ ap (λ (words : List ℕ). Ok (record { words = words; trace = run.trace })) (sym h.words)

pub TestHalts-image : (files : Files) (isa : Isa) (test : List ℕ) (steps : Option ℕ) (run : Run)
    (bytes : List ℕ) (found : Result ImageValue (List ℕ)) → files test ≡ Some bytes → length bytes
    ≤ test_limit → image_found isa test bytes ≡ found → then_found found
    (run_found test (limit_of steps test bytes) isa) ≡ Ok run → TestHalts files isa test steps run
TestHalts-image files isa test steps run bytes (Ok image) there within is found = record {
  bytes = bytes;
  there = there;
  within = within;
  image = image;
  spelt = is;
  halts = Halts-found test (limit_of steps test bytes) isa image run found;
}
TestHalts-image files isa test steps run bytes (Err text) there within is found = absurd cc

pub found-TestHalts : (files : Files) (isa : Isa) (test : List ℕ) (steps : Option ℕ) (run : Run)
    (h : TestHalts files isa test steps run) → test_found steps isa test h.bytes ≡ Ok run
found-TestHalts files isa test steps run h =
    ap (λ (i : Result ImageValue (List ℕ)). then_found i
    (run_found test (limit_of steps test h.bytes) isa)) h.spelt
    ∙ found-Halts test (limit_of steps test h.bytes) isa h.image run h.halts
