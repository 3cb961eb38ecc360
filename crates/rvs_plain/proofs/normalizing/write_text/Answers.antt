use Rattle.std.proofs.Common.{refl}
use Rattle.std.proofs.lemmas.Result.{err_from_is_err_and}
use Rattle.rvs_abstract.specs.declared.families.Families.{Families}
use Rattle.rvs_base.specs.Answers.{seen}
use Rattle.rvs_plan.specs.Plan.{Ends}
use Rattle.rvs_plan.proofs.Sequence.{Meets-then, Meets-stop}
use Rattle.rvs_tree.specs.Data.{Data}
use Rattle.rvs_insn.specs.Isa.{Isa}
use Rattle.rvs_yaml.specs.Parsed.{Parsed}
use Rattle.rvs_cgf.specs.Groups.{groups_of}
use Rattle.rvs_cgf.specs.Print.{normal_text}
use Rattle.rvs_inputs.specs.GroupFiles.{checked_groups, tree_groups}
use Rattle.rvs_inputs.specs.GroupTexts.{groups_name}
use Rattle.rvs_inputs.proofs.TreeFirst.{Follows, tree-then}
use Rattle.rvs_plain.proofs.normalizing.write_text.Goals as goal

follows : (isa : Isa) (families : Families) → Follows groups_name
    (λ (found : Parsed). seen normal_text (tree_groups isa families found))
    (λ tree. seen normal_text (checked_groups (groups_of isa families tree)))
follows isa families = record { tree = λ tree. refl; none = λ fault. refl }

pub returns-in_err-tree : goal.returns-in_err-tree
returns-in_err-tree c = λ w.
    let isa = c.args.isa.now in
    let families = c.args.families in
    let next = λ (tree : Data).
    Ends (seen normal_text (checked_groups (groups_of isa families tree))) in
    let p = err_from_is_err_and c.from_residual.result c.from_residual.ensures.1 in
    rw (p.1, p.2, ← tree-then groups_name c.args.text _ _ (follows isa families))
    (Meets-stop next (rw c.as_slice.ensures at (c.in_err-tree.ensures w)))

pub returns : goal.returns
returns c = λ w.
    let isa = c.args.isa.now in
    let families = c.args.families in
    let next = λ (tree : Data).
    Ends (seen normal_text (checked_groups (groups_of isa families tree))) in
    rw (← tree-then groups_name c.args.text _ _ (follows isa families))
    (Meets-then next (rw c.as_slice.ensures at (c.in_ok-tree.ensures w)) (c.write_tree.ensures w))
