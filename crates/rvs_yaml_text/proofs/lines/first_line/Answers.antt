use Rattle.rvs_yaml_text.proofs.Cutting.{cut-start}
use Rattle.rvs_yaml_text.proofs.lines.first_line.Goals as goal

pub loop-i-init : goal.loop-i-init
loop-i-init c = cut-start c.args.text.now
