use Rattle.std.proofs.Common.{ℕ, List, refl}
use Rattle.std.proofs.lemmas.Result.{err_from_is_err_and}
use Rattle.rvs_plan.specs.World.{world}
use Rattle.rvs_plan.specs.Plan.{Ends}
use Rattle.rvs_plan.proofs.Sequence.{Meets-then, Meets-stop}
use Rattle.rvs_isa.specs.Check.{checked}
use Rattle.rvs_inputs.specs.Specification.{isa_limit, checked_end, tree_end}
use Rattle.rvs_inputs.proofs.Accepting.{Meets-stops}
use Rattle.rvs_inputs.proofs.TreeFirst.{Follows, tree-first}
use Rattle.rvs_inputs.proofs.isa_file.read_isa.Goals as goal

follows : (name : List ℕ) → Follows name (tree_end name) (λ tree. checked_end name (checked tree))
follows name = record { tree = λ tree. refl; none = λ fault. refl }

pub returns-in_err-tree : goal.returns-in_err-tree
returns-in_err-tree g c = λ out.
    let name = c.as_str-name.result.now in
    let p = err_from_is_err_and c.from_residual.result c.from_residual.ensures.1 in
    rw (p.1, p.2, ← c.as_str-name.ensures, ← tree-first isa_limit name _ _ (follows name))
    (Meets-stop (λ tree. Ends (checked_end name (checked tree))) (c.in_err-tree.ensures out))

pub returns : goal.returns
returns g c = λ out.
    let name = c.as_str-name.result.now in
    let w = world (g.H.Host.state c.read_tree.new.host) out in
    rw (← c.as_str-name.ensures, ← tree-first isa_limit name _ _ (follows name))
    (Meets-then (λ tree. Ends (checked_end name (checked tree))) (c.in_ok-tree.ensures out)
    (Meets-stops _ _ _ _ _ w c.check.ensures c.accepted.ensures))
