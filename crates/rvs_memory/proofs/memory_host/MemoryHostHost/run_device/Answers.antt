use Rattle.std.proofs.Common.{rules, w32, FitsSigned, ◌≡◌, List, [], ◌∷◌, ◌++◌, Some, ap, ◌∙◌}
use Rattle.std.proofs.Common.{inl, inr}
use Rattle.std.proofs.lemmas.Int.{to_z-of_z}
use Rattle.rvs_base.specs.Host.{Files, device_words, with_left, run_over}
use Rattle.rvs_base.specs.declared.host.DeviceRun.{DeviceRun}
use Rattle.rvs_memory.specs.Memory.{held, left_of}
use Rattle.rvs_memory.proofs.memory_host.MemoryHostHost.run_device.Goals as goal

pub returns-in-Ok-clause-ran : goal.returns-in-Ok-clause-ran
returns-in-Ok-clause-ran c = λ files runs told_files told_runs.
    let name = c.args.signature.now in
    let answer = c.index-as_slice-made.result in
    let inside = ap (λ s. s.files) c.self.view_is
    ∙ ap (λ s. s.files) c.begins_to_fail-fails.ensures.counted in
    let runs_inside =
    ap (λ s. s.runs) c.self.view_is ∙ ap (λ s. s.runs) c.begins_to_fail-fails.ensures.counted in
    let same_files : held c.args.self.now.files ≡ files = cc in
    let same_runs : c.args.self.now.runs ≡ runs = cc in
    let held_now : held c.self.inside.files ≡ files = ap held inside ∙ same_files in
    let one : Files → List DeviceRun = λ f. run_over (device_words c.args.words.now) c.args.test.now
    name f (left_of answer.leaves (f name)) answer.status ∷ [] in
    let changed : held c.perform_run.new.files ≡ with_left name
    (left_of answer.leaves (held c.self.inside.files name)) (held c.self.inside.files) =
    λ i other. c.in-Ok.ensures.changed other i in
    let fits : FitsSigned w32 answer.status = search rules in
    simp to_z-of_z (record {
      left = left_of answer.leaves (files name);
      files_are = ap Some (changed
          ∙ ap (λ (f : Files). with_left name (left_of answer.leaves (f name)) f) held_now);
      runs_are = ap Some (c.in-Ok.ensures.ran
          ∙ ap (λ rs. rs ++ one (held c.self.inside.files)) (runs_inside ∙ same_runs)
          ∙ ap (λ (f : Files). runs ++ one f) held_now);
    })

pub returns-in-Err-clause-reason : goal.returns-in-Err-clause-reason
returns-in-Err-clause-reason c = inl (inr (search rules, search rules))
