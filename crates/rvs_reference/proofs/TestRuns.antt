-- What a call of the machine's `run` makes of an image.
use Rattle.std.proofs.Common.{◌≡◌, ◌≢◌, ℕ, List, [], refl, sym, ap, ◌∙◌}
use Rattle.rvs_insn.specs.Isa.{Isa}
use Rattle.rvs_machine.specs.Image.{ImageValue}
use Rattle.rvs_machine.specs.Machine.{Setup, Whole, started, signature_of}
use Rattle.rvs_machine.specs.Run.{Outcome, run_of, end_of_run, HasRun}
use Rattle.rvs_machine.specs.declared.event.Executed.{Executed}
use Rattle.rvs_machine.specs.declared.event.End.{End}
use Rattle.rvs_machine.specs.declared.event.End.TheVariants.{Halted, Trapped, StepLimit, NoMemory}
use Rattle.rvs_reference.specs.TestRun.{run_end, outcome_end, run_found}

end_of_run-same : (end : End) → end ≢ NoMemory → end_of_run end ≡ end
end_of_run-same Halted some = refl
end_of_run-same (Trapped trap) some = refl
end_of_run-same StepLimit some = refl
end_of_run-same NoMemory some = absurd (some refl)

-- a run that didn't end for want of memory was the whole run
pub run_found-run : (name : List ℕ) (limit : ℕ) (isa : Isa) (image : ImageValue) (new : Whole)
    (trace : List Executed) (end : End) → end ≢ NoMemory → HasRun (started image isa) new limit []
    trace end → run_found name limit isa image ≡ run_end name limit (record {
      words = signature_of new;
      trace = trace;
    }) end
unfolding run_found
run_found-run name limit isa image new trace end some h =
    let count = h.whole some in
    let setup = (started image isa).setup in
    let run : run_of setup limit (started image isa).state ≡ record {
      trace = h.steps;
      state = new.state;
      end = end;
    } = ap (λ (n : ℕ). run_of setup n (started image isa).state) (sym count) ∙ h.run
    ∙ ap (λ (e : End). record {
      trace = h.steps;
      state = new.state;
      end = e;
    }) (end_of_run-same end some) in
    ap (λ (o : Outcome). outcome_end name limit setup o) run
    ∙ ap (λ (s : Setup). run_end name limit (record {
      words = signature_of (record { setup = s; state = new.state });
      trace = h.steps;
    }) end) (sym h.same)
    ∙ ap (λ (t : List Executed). run_end name limit (record {
      words = signature_of new;
      trace = t;
    }) end) (sym h.trace)
