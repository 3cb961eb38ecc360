use Rattle.std.proofs.Common.{ℕ, List, refl}
use Rattle.std.proofs.lemmas.Result.{err_from_is_err_and}
use Rattle.rvs_plan.specs.World.{world}
use Rattle.rvs_plan.specs.Plan.{Ends}
use Rattle.rvs_plan.proofs.Sequence.{Meets-then, Meets-stop}
use Rattle.rvs_device.specs.DeviceFile.{told_in}
use Rattle.rvs_device.specs.DeviceView.{told}
use Rattle.rvs_inputs.specs.DeviceInput.{device_limit, checked_end, tree_end}
use Rattle.rvs_inputs.proofs.Accepting.{Meets-stops_as}
use Rattle.rvs_inputs.proofs.TreeFirst.{Follows, tree-first}
use Rattle.rvs_inputs.proofs.device_file.read_device_file.Goals as goal

follows : (name : List ℕ) → Follows name (tree_end name) (λ tree. checked_end name (told_in tree))
follows name = record { tree = λ tree. refl; none = λ fault. refl }

pub returns-in_err-tree : goal.returns-in_err-tree
returns-in_err-tree g c = λ out.
    let name = c.as_str-name.result.now in
    let p = err_from_is_err_and c.from_residual.result c.from_residual.ensures.1 in
    rw (p.1, p.2, ← c.as_str-name.ensures, ← tree-first device_limit name _ _ (follows name))
    (Meets-stop (λ tree. Ends (checked_end name (told_in tree))) (c.in_err-tree.ensures out))

pub returns : goal.returns
returns g c = λ out.
    let name = c.as_str-name.result.now in
    let w = world (g.H.Host.state c.read_tree.new.host) out in
    rw (← c.as_str-name.ensures, ← tree-first device_limit name _ _ (follows name))
    (Meets-then (λ tree. Ends (checked_end name (told_in tree))) (c.in_ok-tree.ensures out)
    (Meets-stops_as told (λ r. r) _ _ _ _ _ w c.read_device.ensures c.accepted.ensures))
