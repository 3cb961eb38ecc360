use Rattle.std.proofs.Common.{◌≡◌, sym, ap, refl, arith}
use Rattle.std.proofs.lemmas.Bool.{false≢true}
use Rattle.rvs_tree.specs.Data.{depth, mapping, no_entries}
use Rattle.rvs_tree.specs.Value.{is_mergeable, written_nodes_from}
use Rattle.rvs_tree.specs.TreeView.{view}
use Rattle.rvs_tree.specs.ValueView.{entries_view}
use Rattle.rvs_tree.proofs.Single.{same-value}
use Rattle.rvs_tree.proofs.thin.thin_map_value.Goals as goal

pub overflow_add-own : goal.overflow_add-own
overflow_add-own c = omega (arith, c.args.own.now.shallow)

pub invariant_of-result : goal.invariant_of-result
invariant_of-result c =
    let d : depth (view c.in_ok-tree.tree.value) ≡ 1 = ap depth c.in_ok-tree.ensures in
    record {
      merging = sym (ap is_mergeable c.in_ok-tree.ensures);
      bounded = omega (arith, c.min.ensures, d);
      shallow = omega (arith, c.min.ensures);
      few = c.args.own.now.few;
      brings = λ k h. absurd (false≢true h);
      ready = refl;
    }

pub returns : goal.returns
returns c =
    let own = c.args.own.now in
    same-value (view c.in_ok-tree.tree.value) (mapping no_entries c.args.line) own.nodes
    (written_nodes_from 1 (entries_view own.entries.items)) c.in_ok-tree.ensures own.added_up
