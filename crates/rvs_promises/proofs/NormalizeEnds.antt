-- What every call of `normalize` promises.
use Rattle.std.proofs.Common.{refl, ap}
use Rattle.rvs_base.specs.Host.{Files}
use Rattle.rvs_plan.specs.World.{Contents, IsFault}
use Rattle.rvs_plan.specs.declared.status.Finish.TheVariants as finish
use Rattle.rvs_promises.specs.Answered.{OnDone}
use Rattle.rvs_promises.specs.Call.{Call}
use Rattle.rvs_inputs.specs.GroupFiles.{group_inputs, inputs_in}
use Rattle.rvs_plain.specs.Normalize.{print_normal, normalize}
use Rattle.rvs_promises.specs.Normalizing as normalizing
use Rattle.rvs_promises.proofs.Answered.{Works, RunsOn, answered}
use Rattle.rvs_inputs.proofs.GroupInputs.{reads-inputs, finds-inputs}
use Rattle.rvs_promises.proofs.NormalAgain.{normal-again}
use Rattle.rvs_inputs.proofs.Keeping.{WritesNone, WritesNone-then, reads-none}
use Rattle.rvs_promises.proofs.Running.{keeps}
use Rattle.rvs_words.specs.declared.command.NormalizeArguments.{NormalizeArguments}

abbrev works : (files : Files) (asked : NormalizeArguments)
    → Works (normalize asked) files (inputs_in files asked.isa asked.families asked.groups)
works files asked = record {
  inputs = group_inputs asked.isa asked.families asked.groups;
  deeds = print_normal;
  ends = λ _. finish.Done;
  plan = refl;
  finds = finds-inputs files asked.isa asked.families asked.groups;
  does = λ inputs. refl;
}

writes-normalize : (asked : NormalizeArguments) → WritesNone (normalize asked)
writes-normalize asked =
    WritesNone-then (group_inputs asked.isa asked.families asked.groups) print_normal
    (reads-none (group_inputs asked.isa asked.families asked.groups)
    (reads-inputs asked.isa asked.families asked.groups))
    (λ inputs. tt)

pub normalizes : {call : Call} (files : Files) (asked : NormalizeArguments)
    → RunsOn call files IsFault (normalize asked) → normalizing.Normalizes call files asked
normalizes {call} files asked r = record {
  answered = answered (OnDone (normalizing.HasPrinted call)) r (works files asked)
      (λ inputs left. ap (λ (c : Contents). c.out) left);
  files_kept = keeps r.ran files r.told (writes-normalize asked);
  again = λ after families name inputs read short same there. normal-again files after asked.isa
      asked.families families asked.groups name inputs read short same there;
}
