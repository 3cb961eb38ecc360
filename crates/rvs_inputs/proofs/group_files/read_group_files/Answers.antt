use Rattle.std.proofs.Common.{refl}
use Rattle.std.proofs.lemmas.Result.{err_from_is_err_and}
use Rattle.rvs_abstract.specs.declared.families.Families.{Families}
use Rattle.rvs_tree.specs.Data.{Data}
use Rattle.rvs_insn.specs.Isa.{Isa}
use Rattle.rvs_cgf.specs.Groups.{groups_of}
use Rattle.rvs_cgf.specs.GroupView.{refusal_view as group_view}
use Rattle.rvs_cgf.specs.Print.{refusal_text as group_text}
use Rattle.rvs_plan.specs.World.{world}
use Rattle.rvs_plan.specs.Plan.{Ends}
use Rattle.rvs_plan.proofs.Sequence.{Meets-then, Meets-stop}
use Rattle.rvs_inputs.specs.GroupsView.{groups_view}
use Rattle.rvs_inputs.specs.GroupFiles.{checked_groups, tree_groups, groups_found}
use Rattle.rvs_inputs.specs.GroupTexts.{groups_name}
use Rattle.rvs_inputs.proofs.Accepting.{Meets-stops_as}
use Rattle.rvs_inputs.proofs.TreeFirst.{Follows, tree-then}
use Rattle.rvs_inputs.proofs.group_files.read_group_files.Goals as goal

follows : (isa : Isa) (families : Families) → Follows groups_name (tree_groups isa families)
    (λ tree. checked_groups (groups_of isa families tree))
follows isa families = record { tree = λ tree. refl; none = λ fault. refl }

pub returns-in_err-text-clause-met : goal.returns-in_err-text-clause-met
returns-in_err-text-clause-met g c = λ out.
    let p = err_from_is_err_and c.from_residual.result c.from_residual.ensures.1 in
    rw (p.1, p.2)
    (Meets-stop (λ text. Ends (groups_found c.args.isa.now c.args.families text))
    (rw c.as_slice.ensures at (c.in_err-text.ensures out)))

pub returns-in_err-tree-clause-met : goal.returns-in_err-tree-clause-met
returns-in_err-tree-clause-met g c = λ out.
    let p = err_from_is_err_and c.from_residual-in_err-tree.result
    c.from_residual-in_err-tree.ensures.1 in
    let isa = c.args.isa.now in
    let next = λ (tree : Data). Ends (checked_groups (groups_of isa c.args.families tree)) in
    let w = world (g.H.Host.state c.read_joined.new.host) out in
    rw (p.1, p.2) (Meets-then (λ text. Ends (groups_found isa c.args.families text))
    (rw c.as_slice.ensures at (c.in_ok-text.ensures out))
    (rw (← tree-then groups_name c.in_ok-text.text _ _ (follows isa c.args.families))
    (Meets-stop next (rw c.as_slice-2.ensures at (c.in_err-tree.ensures w)))))

pub returns-clause-met : goal.returns-clause-met
returns-clause-met g c = λ out.
    let isa = c.args.isa.now in
    let next = λ (tree : Data). Ends (checked_groups (groups_of isa c.args.families tree)) in
    let w = world (g.H.Host.state c.read_joined.new.host) out in
    Meets-then (λ text. Ends (groups_found isa c.args.families text))
    (rw c.as_slice.ensures at (c.in_ok-text.ensures out))
    (rw (← tree-then groups_name c.in_ok-text.text _ _ (follows isa c.args.families))
    (Meets-then next (rw c.as_slice-2.ensures at (c.in_ok-tree.ensures w))
    (Meets-stops_as groups_view group_view group_text _ _ _ _ w c.read_groups.ensures.read
    c.accepted.ensures)))
