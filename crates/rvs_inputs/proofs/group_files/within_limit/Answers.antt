use Rattle.std.proofs.Common.{rules}
use Rattle.std.proofs.lemmas.Result.{err_from_is_err_and}
use Rattle.rvs_plan.specs.Plan.{Ends}
use Rattle.rvs_plan.proofs.Sequence.{Meets-no_memory}
use Rattle.rvs_inputs.specs.GroupFiles.{within_limit}
use Rattle.rvs_inputs.proofs.Accepting.{Meets-accepted_by, Meets-refused_by}
use Rattle.rvs_inputs.proofs.group_files.within_limit.Goals as goal

pub returns-in_err-too_long : goal.returns-in_err-too_long
returns-in_err-too_long c = λ w.
    let p = err_from_is_err_and c.from_residual.result c.from_residual.ensures.1 in
    rw (p.1, p.2) (Meets-no_memory (Ends (within_limit c.args.text)) w)

pub returns-in_ok-too_long : goal.returns-in_ok-too_long
returns-in_ok-too_long c = λ w. Meets-refused_by _ _ w (search rules)

pub returns-else-as_slice-gt-GROUPS_LIMIT : goal.returns-else-as_slice-gt-GROUPS_LIMIT
returns-else-as_slice-gt-GROUPS_LIMIT c = λ w. Meets-accepted_by _ _ w (search rules)
