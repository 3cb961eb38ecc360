use Rattle.rvs_yaml.proofs.Segments.{front-anchored}
use Rattle.rvs_yaml.proofs.stack.into_blocks.Goals as goal

pub returns : goal.returns
returns c =
    let s = c.args.stack in
    front-anchored s.anchors.anchors.items s.blocks.items
