use Rattle.std.proofs.Common.{◌≤◌}
use Rattle.rvs_tree.specs.Data.{depth}
use Rattle.rvs_yaml.specs.Parsed.{IsTreeOf, KeepsNodes}
use Rattle.rvs_yaml_text.specs.Text.{lines_of}
use Rattle.rvs_yaml.proofs.Telling.{tree-told, tree-shallow, tree-few, read-tree, read-refused}
use Rattle.rvs_yaml.proofs.reader.parse.Goals as goal

pub returns-clause-tree_of_lines : goal.returns-clause-tree_of_lines
returns-clause-tree_of_lines c = let bytes = c.args.bytes.now in
    read-tree {P = IsTreeOf (lines_of bytes)} bytes _ c.read_text.ensures (tree-told bytes)

pub returns-clause-first_fault : goal.returns-clause-first_fault
returns-clause-first_fault c = read-refused c.args.bytes.now _ c.read_text.ensures

pub returns-clause-shallow : goal.returns-clause-shallow
returns-clause-shallow c = let bytes = c.args.bytes.now in
    read-tree {P = λ d. depth d ≤ 32} bytes _ c.read_text.ensures (tree-shallow bytes)

pub returns-clause-few : goal.returns-clause-few
returns-clause-few c = let bytes = c.args.bytes.now in
    read-tree {P = KeepsNodes (lines_of bytes)} bytes _ c.read_text.ensures (tree-few bytes)
