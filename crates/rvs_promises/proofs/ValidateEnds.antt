-- What every call of `validate` promises.
use Rattle.std.proofs.Common.{◌+◌, ℕ, List, refl, ap, arith}
use Rattle.rvs_base.specs.Host.{Files}
use Rattle.rvs_plan.specs.World.{Contents, IsFault}
use Rattle.rvs_plan.specs.declared.status.Finish.TheVariants as finish
use Rattle.rvs_promises.specs.Answered.{OnDone}
use Rattle.rvs_promises.specs.Call.{Call}
use Rattle.rvs_inputs.specs.Specification.{isa_limit, specification, said_in}
use Rattle.rvs_plain.specs.Validate.{print_said, validate}
use Rattle.rvs_promises.specs.Validating as validating
use Rattle.rvs_promises.proofs.Answered.{Works, RunsOn, answered}
use Rattle.rvs_inputs.proofs.GroupInputs.{reads-specification, finds-specification}
use Rattle.rvs_promises.proofs.Spending.{Spends, spent}
use Rattle.rvs_inputs.proofs.Keeping.{WritesNone, reads-none}
use Rattle.rvs_promises.proofs.Running.{keeps}
use Rattle.rvs_words.specs.declared.command.ValidateArguments.{ValidateArguments}

abbrev works : (files : Files) (asked : ValidateArguments)
    → Works (validate asked) files (said_in files asked.isa)
works files asked = record {
  inputs = specification asked.isa;
  deeds = print_said;
  ends = λ _. finish.Done;
  plan = refl;
  finds = finds-specification files asked.isa;
  does = λ said. refl;
}

writes-validate : (asked : ValidateArguments) → WritesNone (validate asked)
writes-validate asked = grind (arith, reads-none, reads-specification)

spends-specification : (name : List ℕ) → Spends 1 (isa_limit + 1) (specification name)
spends-specification name = grind arith

spends-validate : (asked : ValidateArguments) → Spends 1 (isa_limit + 1) (validate asked)
spends-validate asked = grind (arith, spends-specification)

pub checks : {call : Call} (files : Files) (asked : ValidateArguments)
    → RunsOn call files IsFault (validate asked) → validating.Checks call files asked
checks {call} files asked r = record {
  answered = answered (OnDone (validating.HasPrinted call)) r (works files asked)
      (λ said left. ap (λ (c : Contents). c.out) left);
  reads = spent 1 (isa_limit + 1) r (spends-validate asked);
  files_kept = keeps r.ran files r.told (writes-validate asked);
}
