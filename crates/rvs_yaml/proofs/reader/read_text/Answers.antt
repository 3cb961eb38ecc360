use Rattle.std.proofs.Common.{◌+◌, sym, subst}
use Rattle.rvs_yaml.specs.Parsed.{answer}
use Rattle.rvs_yaml.specs.StackView.{open_blocks}
use Rattle.rvs_tree.specs.TreeView.{view}
use Rattle.rvs_yaml.proofs.Answering.{Reads, Reads-line, Reads-refused}
use Rattle.rvs_yaml.proofs.Ending.{refused-line, Reads-whole}
use Rattle.rvs_yaml.proofs.reader.read_text.Goals as goal

pub returns-in-Err : goal.returns-in-Err
returns-in-Err c =
    let l = c.loop-rest in
    refused-line c.refusal.result c.in-Err.fault (l.number + 1) (answer c.args.bytes.now) _
    c.refusal.ensures (λ kind. Reads-refused c.args.bytes.now l.number l.started
    (open_blocks l.stack) l.rest c.first_line.result.1 c.in-Some.text
    c.first_line.result.0.now c.without_return-line.result.now kind
    l.invariant c.in-Some.is c.first_line.ensures.cut c.without_return-line.ensures)
    c.in-Err.ensures

pub loop-rest-preserved : goal.loop-rest-preserved
loop-rest-preserved c =
    let l = c.loop-rest in
    let after = open_blocks c.in-Ok.stack in
    let next = Reads-line c.args.bytes.now l.number l.started (open_blocks l.stack) after
    l.rest c.first_line.result.1 c.in-Some.text c.first_line.result.0.now
    c.without_return-line.result.now
    l.invariant c.in-Some.is c.first_line.ensures.cut c.first_line.ensures.shorter
    c.without_return-line.ensures c.in-Ok.ensures in
    subst (λ s. Reads c.args.bytes.now (l.number + 1) s after c.first_line.result.1)
    (sym c.started_by-started.ensures) next

pub returns-in-Ok-whole_tree : goal.returns-in-Ok-whole_tree
returns-in-Ok-whole_tree c =
    let l = c.loop-rest in
    Reads-whole c.args.bytes.now l.number l.started (open_blocks l.stack) l.rest
    (view c.in-Ok-whole_tree.tree) l.invariant c.in_default.is c.in-Ok-whole_tree.ensures
