-- What every call of `select` promises.
use Rattle.std.proofs.Common.{refl, ap, arith}
use Rattle.rvs_base.specs.Host.{Files}
use Rattle.rvs_plan.specs.World.{Contents, IsFault}
use Rattle.rvs_plan.specs.declared.status.Finish.TheVariants as finish
use Rattle.rvs_promises.specs.Answered.{OnDone}
use Rattle.rvs_promises.specs.Call.{Call}
use Rattle.rvs_plain.specs.Select.{selection_in, reads_selection, print_selection, select}
use Rattle.rvs_promises.specs.Selecting as selecting
use Rattle.rvs_promises.proofs.Answered.{Works, RunsOn, answered}
use Rattle.rvs_promises.proofs.SelectionReads.{reads-selection, finds-selection, selected-tests}
use Rattle.rvs_inputs.proofs.Keeping.{WritesNone, reads-none}
use Rattle.rvs_promises.proofs.Running.{keeps}
use Rattle.rvs_words.specs.declared.command.SelectArguments.{SelectArguments}

abbrev works : (files : Files) (asked : SelectArguments)
    → Works (select asked) files (selection_in files asked)
works files asked = record {
  inputs = reads_selection asked;
  deeds = print_selection;
  ends = λ _. finish.Done;
  plan = refl;
  finds = finds-selection files asked;
  does = λ entries. refl;
}

writes-select : (asked : SelectArguments) → WritesNone (select asked)
writes-select asked = grind (arith, reads-none, reads-selection)

pub selects : {call : Call} (files : Files) (asked : SelectArguments)
    → RunsOn call files IsFault (select asked) → selecting.Selects call files asked
selects {call} files asked r = record {
  answered = answered (OnDone (selecting.HasPrinted call)) r (works files asked)
      (λ entries left. ap (λ (c : Contents). c.out) left);
  tests = selected-tests files asked;
  files_kept = keeps r.ran files r.told (writes-select asked);
}
